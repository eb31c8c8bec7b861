use Rattle.rw_world.specs.Calls.{IsWhole, world_of}
use Rattle.rw_world.specs.Leaving.{AreOfOneRun, KeepsOthersUndone}
use Rattle.rw_world.proofs.Undoing.{processed_at}
use Rattle.rw_world.proofs.parts.Parts.undo_process.Given as goal

abbrev pub invariant-undoing : goal.invariant-undoing
invariant-undoing g l = record {
  whole : IsWhole g.M.Model g.M.Body.Ord.cmp l.self;
  run : AreOfOneRun l.fn.self l.self;
  others : KeepsOthersUndone l.p l.fn.self l.self;
}

abbrev pub decreases-undoing : goal.decreases-undoing
decreases-undoing g l = processed_at (world_of l.self).processes l.p
