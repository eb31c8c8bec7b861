use Rattle.std.proofs.Common.{take}
use Rattle.rw_engine.specs.Outputs.{TookEach}
use Rattle.rw_engine.proofs.output.commit_all.Given as goal

abbrev pub invariant-loop-event : goal.invariant-loop-event
invariant-loop-event g l = TookEach g.O.Output.Takes l.fn.output (take l.event-index l.events) l.output
