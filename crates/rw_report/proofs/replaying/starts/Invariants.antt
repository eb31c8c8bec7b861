use Rattle.std.proofs.Common.{◌≡◌, ℕ, Some, map}
use Rattle.std.specs.Prelude.{slice_get}
use Rattle.std.specs.List.{range_with_len}
use Rattle.rw_photo.specs.Cache.{Cache, IsWellFormed, start}
use Rattle.rw_report.proofs.replaying.starts.Given as goal

abbrev pub invariant-loop-process : goal.invariant-loop-process
invariant-loop-process l = record {
  states : l.states.items ≡ map (start l.photo.config) (range_with_len 0 l.process);
  well_formed : (p : ℕ) (s : Cache) → slice_get l.states.items p ≡ Some s → IsWellFormed l.photo.config p s;
}
