use Rattle.std.proofs.Common.{◌≤◌, ◌<◌, ℕ, get_or}
use Rattle.rw_windows.proofs.running.all_done.Given as goal

abbrev pub invariant-loop-share : goal.invariant-loop-share
invariant-loop-share g l = (i : ℕ) (d : _) → i < l.share-index → (get_or l.shares i d).end ≤ (get_or l.shares i d).until
