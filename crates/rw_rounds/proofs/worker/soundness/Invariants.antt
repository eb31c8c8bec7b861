use Rattle.std.proofs.Common.{◌≡◌, ◌<◌, ℕ, Some}
use Rattle.std.specs.Prelude.{slice_get}
use Rattle.rw_lp.specs.Calls.{LogicalProcess}
use Rattle.rw_lp.specs.Sound.{IsSoundOnceCollected, StartsWell}
use Rattle.rw_rounds.proofs.worker.soundness.Given as goal

abbrev pub invariant-loop-process : goal.invariant-loop-process
invariant-loop-process g l = record {
  starts : (place : ℕ) (x : LogicalProcess g.row.M.Denot g.row.M-State.Denot g.row.M-Body.Denot) → place < l.process-index → slice_get l.processes place ≡ Some x → StartsWell g.M.Model x;
  sound : (place : ℕ) (x : LogicalProcess g.row.M.Denot g.row.M-State.Denot g.row.M-Body.Denot) → place < l.process-index → slice_get l.processes place ≡ Some x → IsSoundOnceCollected g.M.Model g.M.Body.Ord.cmp x;
}
