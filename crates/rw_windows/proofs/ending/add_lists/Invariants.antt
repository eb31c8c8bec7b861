use Rattle.std.proofs.Common.{◌≡◌, ◌++◌, map, take}
use Rattle.rw_vt.specs.System.{flatten}
use Rattle.rw_windows.proofs.ending.add_lists.Given as goal

abbrev pub invariant-loop-list : goal.invariant-loop-list
invariant-loop-list g l = l.events.items ≡ l.initial.events.items ++ flatten (map (λ x. x.items) (take l.list-index l.lists))
