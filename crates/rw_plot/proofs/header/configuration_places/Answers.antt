-- All five columns are there.
use Rattle.std.proofs.Common.{sym}
use Rattle.rw_plot.specs.Layouts.{configuration_places}
use Rattle.rw_plot.proofs.header.configuration_places.Goals as goal

pub returns : goal.returns
unfolding configuration_places
returns c =
    let policy = sym c.in_ok-policy.ensures in
    let sections = sym c.in_ok-sections.ensures in
    let block = sym c.in_ok-block.ensures in
    let edge_blocks = sym c.in_ok-edge_blocks.ensures in
    let origin_blocks = sym c.in_ok-origin_blocks.ensures in
    rw (policy, sections, block, edge_blocks, origin_blocks) (cc)
