use Rattle.std.proofs.Common.{◌≡◌, map, replicate, []}
use Rattle.rw_vt.proofs.lists.empty_lists.Given as goal

abbrev pub invariant-loop-list : goal.invariant-loop-list
invariant-loop-list g l = map (λ j. j.items) l.lists.items ≡ replicate l._list []
