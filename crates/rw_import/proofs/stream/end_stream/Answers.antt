-- A fault before the end is counted by what it was.
use Rattle.rw_import.proofs.stream.end_stream.Goals as goal

pub returns-clause-failures : goal.returns-clause-failures
returns-clause-failures g c = λ before h. c.cut_off.ensures.failures before (rw c.in-Err.is at h)
