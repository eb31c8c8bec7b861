-- All five columns are there.
use Rattle.std.proofs.Common.{refl, sym}
use Rattle.rw_plot.specs.Layouts.{figure_places}
use Rattle.rw_plot.proofs.header.figure_places.Goals as goal

pub returns : goal.returns
unfolding figure_places
returns c =
    let hit_ratio = sym c.in_ok-hit_ratio.ensures in
    let byte_hit_ratio = sym c.in_ok-byte_hit_ratio.ensures in
    let flash_bytes = sym c.in_ok-flash_bytes.ensures in
    let written_bytes = sym c.in_ok-written_bytes.ensures in
    let backend_requests = sym c.in_ok-backend_requests.ensures in
    rw (hit_ratio, byte_hit_ratio, flash_bytes, written_bytes, backend_requests) refl
