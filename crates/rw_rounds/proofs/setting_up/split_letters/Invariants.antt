use Rattle.std.proofs.Common.{◌≡◌, ◌<◌, ℕ, [], length, map, take, get_or}
use Rattle.std.specs.Prelude.{filter, ◌==◌, ◌%◌}
use Rattle.rw_rounds.proofs.setting_up.split_letters.Given as goal

abbrev pub invariant-loop-letter : goal.invariant-loop-letter
invariant-loop-letter g l = record {
  long : length l.inboxes.items ≡ l.workers;
  sorted_out : (q : ℕ) → q < l.workers → get_or (map (λ b. b.items) l.inboxes.items) q [] ≡ filter (λ x. x.event.to % l.workers == q) (take l.letter-index l.letters);
}
