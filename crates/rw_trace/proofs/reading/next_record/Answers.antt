-- A read gives the first of the records that are left, and is refused only by memory or the reader underneath.
use Rattle.csv.specs.Reading.{error_kind}
use Rattle.csv.specs.Records.{fields_of}
use Rattle.rw_trace.proofs.Records.{gives, stops}
use Rattle.rw_trace.proofs.reading.next_record.Goals as goal

pub returns-in-Ok-clause-gives : goal.returns-in-Ok-clause-gives
returns-in-Ok-clause-gives c =
    gives c.args.reader.now c.read_byte_record.new.self c.in-Ok.found (fields_of c.read_byte_record.new.row) c.requires (c.in-Ok.ensures.reads c.requires.plain c.requires.ready)

pub refusal-requires : goal.refusal-requires
refusal-requires c = stops c.args.reader.now c.read_byte_record.new.self (error_kind c.in-Err.error) c.requires.flexible (c.in-Err.ensures.why c.requires.ready)
