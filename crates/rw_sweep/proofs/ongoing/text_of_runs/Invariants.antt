use Rattle.rw_sweep.proofs.Finishing.{IsTelling}
use Rattle.rw_sweep.proofs.ongoing.text_of_runs.Given as goal

abbrev pub invariant-loop-run : goal.invariant-loop-run
invariant-loop-run l = IsTelling l.outlook l.facts l.header l.fn.runs.items l.run-iterator.rest.items l.text.items
