use Rattle.csv.specs.Records.{fields_of}
use Rattle.rw_trace.proofs.Piecewise.{gives_record}
use Rattle.rw_trace.proofs.pieces.read_record.Goals as goal

pub returns-in-Ok-clause-gives : goal.returns-in-Ok-clause-gives
returns-in-Ok-clause-gives g c =
    gives_record g.R.Read.remaining c.args.reader.now c.read_byte_record.new.self c.in-Ok.found (fields_of c.read_byte_record.new.row) c.requires c.in-Ok.ensures.reads
