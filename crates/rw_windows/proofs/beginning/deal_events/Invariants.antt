use Rattle.std.proofs.Common.{◌≡◌, ◌<◌, ℕ, [], length, map, take, get_or}
use Rattle.std.specs.Prelude.{filter, ◌==◌, ◌%◌}
use Rattle.rw_windows.proofs.beginning.deal_events.Given as goal

abbrev pub invariant-loop-event : goal.invariant-loop-event
invariant-loop-event g l = record {
  long : length l.inboxes.items ≡ l.workers;
  sorted_out : (q : ℕ) → q < l.workers → get_or (map (λ b. b.items) l.inboxes.items) q [] ≡ filter (λ x. x.to % l.workers == q) (take l.event-index l.events);
}
