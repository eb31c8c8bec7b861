-- What is known of any reader tells all of one in memory.
use Rattle.rw_import.specs.CsvStream.{IsColumnsFault}
use Rattle.rw_import.proofs.InMemory.{behind-header, refused-in-memory, steady-may}
use Rattle.rw_import.proofs.csv_log.start_in_memory.Goals as goal

pub start-requires-clause-may : goal.start-requires-clause-may
start-requires-clause-may c = steady-may c.args.reader.now c.requires.steady

pub returns-in-Ok : goal.returns-in-Ok
returns-in-Ok c =
    let b = behind-header c.args.layout.now c.args.reader.now c.start.new.reader c.in-Ok.places c.requires.steady c.in-Ok.ensures.may c.in-Ok.ensures.found in
    record { steady = b.steady; places = b.places; rows = b.rows; lines = b.lines; fault = tt }

pub returns-in-Err-clause-fault : goal.returns-in-Err-clause-fault
returns-in-Err-clause-fault c =
    refused-in-memory (IsColumnsFault c.args.layout.now) c.args.reader.now c.in-Err.fault c.in_memory.result c.requires.steady c.in-Err.ensures.fault c.in-Err.ensures.output c.in_memory.ensures.other c.in_memory.ensures.read
