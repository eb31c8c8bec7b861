use Rattle.std.proofs.Common.{arith, ◌≡◌, true, nat_eq}
use Rattle.std.specs.List.{list_any}
use Rattle.rw_blocks.proofs.Using.{fewer_above}
use Rattle.rw_blocks.proofs.sections.free_tag.Goals as goal

pub loop-tag-smaller : goal.loop-tag-smaller
loop-tag-smaller c =
    let used : list_any (nat_eq c.loop-tag.tag) c.args.tags.now ≡ true = cc in
    omega (arith, fewer_above c.loop-tag.tag c.args.tags.now used)

pub loop-tag-preserved : goal.loop-tag-preserved
loop-tag-preserved c =
    let used : list_any (nat_eq c.loop-tag.tag) c.args.tags.now ≡ true = cc in
    omega (arith, c.loop-tag.invariant, fewer_above c.loop-tag.tag c.args.tags.now used)
