use Rattle.std.proofs.Common.{◌≡◌}
use Rattle.rw_engine.specs.Segments.{GoesOn}
use Rattle.rw_engine.proofs.rounds.run_segments.Given as goal

abbrev pub invariant-loop-segment : goal.invariant-loop-segment
invariant-loop-segment g l = record {
  onward : GoesOn g.M.Model g.M.Body.Ord.cmp l.fn.run.model l.fn.run.states.items l.fn.pending.events l.run.model l.run.states.items l.pending.events;
  plan : l.run.plan ≡ l.fn.run.plan;
  threads : l.controller.has_threads ≡ l.fn.controller.has_threads;
}
