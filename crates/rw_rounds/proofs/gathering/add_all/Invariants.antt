use Rattle.std.proofs.Common.{◌≡◌, ◌++◌, map, take}
use Rattle.rw_vt.specs.System.{flatten}
use Rattle.rw_rounds.proofs.gathering.add_all.Given as goal

abbrev pub invariant-loop-list : goal.invariant-loop-list
invariant-loop-list g l = l.letters.items ≡ l.initial.letters.items ++ flatten (map (λ x. x.items) (take l.list-index l.lists))
