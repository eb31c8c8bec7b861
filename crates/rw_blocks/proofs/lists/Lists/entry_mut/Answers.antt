use Rattle.std.proofs.Common.{refl, ◌∙◌}
use Rattle.rw_blocks.proofs.Maps.{written, value-at}
use Rattle.rw_blocks.proofs.lists.Lists.entry_mut.Goals as goal

pub returns : goal.returns
returns c =
    let m = c.args.self.now.blocks in
    let i = c.in_ok-place.place in
    let k = c.args.serial in
    let e = c.in_ok-place.ensures.entry in
    ((refl, λ w some. written m i k w c.get_index_mut.ensures.unique e some, refl), record { writes_back = tt; value = c.get_index_mut.ensures.value ∙ value-at m i k e })
