use Rattle.std.proofs.Common.{◌≡◌, ◌∙◌, None, true, false, ap}
use Rattle.std.specs.Option.{is_some}
use Rattle.rw_sweep.specs.OverTime.{header_under}
use Rattle.rw_sweep.proofs.Plain.{chosen-of, chosen-unmarked, plain-fault, plain-first, plain-table}
use Rattle.rw_sweep.proofs.Slots.{lines-so, table-so}
use Rattle.rw_sweep.proofs.in_memory.sweep_plainly.Goals as goal

pub sweep_points-requires-clause-of_grid : goal.sweep_points-requires-clause-of_grid
sweep_points-requires-clause-of_grid g c κs within =
    let s = c.args.sweeping.now in
    chosen-of s.grid.now s.part c.points.result.now c.as_slice.result.now c.points.ensures (c.as_slice.ensures.value ∙ c.in_ok-points.ensures)

pub sweep_points-requires-clause-marks : goal.sweep_points-requires-clause-marks
sweep_points-requires-clause-marks g c κs within =
    let s = c.args.sweeping.now in
    chosen-unmarked s.grid.now s.part c.points.result.now c.as_slice.result.now c.points.ensures (c.as_slice.ensures.value ∙ c.in_ok-points.ensures)

pub returns-clause-table : goal.returns-clause-table
returns-clause-table g c =
    let s = c.args.sweeping.now in
    let head : c.as_slice-2.result.now ≡ header_under (is_some s.part) None = c.as_slice-2.ensures.value ∙ (c.in_ok-header.ensures ∙ ap (λ b. header_under b None) c.is_some.ensures) in
    table-so c.sweep_points.result (plain-table s.grid.now c.args.bytes.now s.part c.points.result.now c.as_slice.result.now c.as_slice-2.result.now _ _ c.points.ensures (c.as_slice.ensures.value ∙ c.in_ok-points.ensures) head)
    c.sweep_points.ensures.table

pub returns-clause-fault : goal.returns-clause-fault
returns-clause-fault g c =
    let s = c.args.sweeping.now in
    plain-fault c.sweep_points.result s.grid.now c.args.bytes.now s.part c.points.result.now c.as_slice.result.now c.points.ensures (c.as_slice.ensures.value ∙ c.in_ok-points.ensures) c.sweep_points.ensures.fault

pub returns-clause-cut_off : goal.returns-clause-cut_off
returns-clause-cut_off g c =
    let s = c.args.sweeping.now in
    let head : c.as_slice-2.result.now ≡ header_under (is_some s.part) None = c.as_slice-2.ensures.value ∙ (c.in_ok-header.ensures ∙ ap (λ b. header_under b None) c.is_some.ensures) in
    λ cut. plain-first s.grid.now c.args.bytes.now s.part c.points.result.now c.as_slice.result.now c.as_slice-2.result.now false _ _ c.points.ensures (c.as_slice.ensures.value ∙ c.in_ok-points.ensures) head (c.sweep_points.ensures.cut_off cut)

pub returns-clause-whole_lines : goal.returns-clause-whole_lines
returns-clause-whole_lines g c =
    let s = c.args.sweeping.now in
    let head : c.as_slice-2.result.now ≡ header_under (is_some s.part) None = c.as_slice-2.ensures.value ∙ (c.in_ok-header.ensures ∙ ap (λ b. header_under b None) c.is_some.ensures) in
    lines-so _ c.sweep_points.result (plain-first s.grid.now c.args.bytes.now s.part c.points.result.now c.as_slice.result.now c.as_slice-2.result.now true _ _ c.points.ensures (c.as_slice.ensures.value ∙ c.in_ok-points.ensures) head)
    c.sweep_points.ensures.whole_lines
