use Rattle.std.proofs.Common.{IsPermutation, subst}
use Rattle.std.proofs.lemmas.List.Sorted.{IsPermutation-trans}
use Rattle.rw_pending.proofs.slice.Slice.fill.Goals as goal

pub returns-clause-filled : goal.returns-clause-filled
returns-clause-filled g c =
    let grouped = c.group_by_source.new.events.items in
    let sorted = c.sort_unstable.new.self.items in
    IsPermutation-trans c.args.events.now.items grouped sorted c.group_by_source.ensures
    (subst (λ v. IsPermutation v.items sorted) c.swap.ensures.x_after c.sort_unstable.ensures.permutation)
