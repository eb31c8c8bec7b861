use Rattle.std.proofs.Common.{◌≡◌, ◌++◌, map, take}
use Rattle.rw_rounds.proofs.inner.note_all.Given as goal

abbrev pub invariant-loop-letter : goal.invariant-loop-letter
invariant-loop-letter g l = l.seat ≡ record l.initial.seat { noted = l.initial.seat.noted ++ map (λ x. x.event.time) (take l.letter-index l.letters) }
