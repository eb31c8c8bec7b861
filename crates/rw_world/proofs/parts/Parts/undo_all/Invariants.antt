use Rattle.std.proofs.Common.{ℕ, ◌<◌}
use Rattle.rw_world.specs.Calls.{IsWhole}
use Rattle.rw_world.specs.Leaving.{AreOfOneRun, HasNothingProcessed}
use Rattle.rw_world.proofs.parts.Parts.undo_all.Given as goal

abbrev pub invariant-loop-number : goal.invariant-loop-number
invariant-loop-number g l = record {
  whole : IsWhole g.M.Model g.M.Body.Ord.cmp l.self;
  run : AreOfOneRun l.fn.self l.self;
  none : (p : ℕ) → p < l.number → HasNothingProcessed p l.self;
}
