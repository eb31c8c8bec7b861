use Rattle.std.proofs.Common.{◌++◌, map, sym, ap, ◌∙◌, append_assoc, take}
use Rattle.rw_vt.specs.System.{flatten}
use Rattle.rw_rounds.proofs.Walking.{joined_one}
use Rattle.rw_rounds.proofs.gathering.add_all.Goals as goal

pub loop-list-preserved : goal.loop-list-preserved
loop-list-preserved g c =
    let x = c.list-item.result in
    let old = c.args.letters.now.items in
    let so_far = flatten (map (λ l. l.items) (take c.loop-list.list-index c.args.lists.now)) in
    c.in_ok-extend_from_slice.ensures.items
    ∙ ap (λ z. c.loop-list.letters.items ++ z) c.deref.ensures.value
    ∙ ap (λ z. z ++ x.items) c.loop-list.invariant
    ∙ append_assoc old so_far x.items
    ∙ ap (λ z. old ++ z) (sym (joined_one (λ l. l.items) c.args.lists.now c.loop-list.list-index x c.loop-list-test.true c.list-item.is))
