use Rattle.std.proofs.Common.{◌≤◌, ◌<◌, ℕ, get_or}
use Rattle.rw_windows.proofs.beginning.least_time.Given as goal

abbrev pub invariant-loop-event : goal.invariant-loop-event
invariant-loop-event g l = (i : ℕ) (d : _) → i < l.event-index → l.least ≤ (get_or l.events i d).time
