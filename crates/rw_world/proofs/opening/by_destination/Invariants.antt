use Rattle.std.proofs.Common.{◌≡◌, ◌<◌, ℕ, [], length, map, take, get_or}
use Rattle.std.specs.Prelude.{filter, ◌==◌}
use Rattle.rw_world.proofs.opening.by_destination.Given as goal

abbrev pub invariant-loop-event : goal.invariant-loop-event
invariant-loop-event g l = record {
  long : length l.lists.items ≡ l.count;
  sorted_out : (q : ℕ) → q < l.count → get_or (map (λ j. j.items) l.lists.items) q [] ≡ filter (λ e. e.to == q) (take l.event-index l.events);
}
