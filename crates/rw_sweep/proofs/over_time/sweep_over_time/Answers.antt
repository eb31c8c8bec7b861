use Rattle.std.proofs.Common.{◌∙◌, refl}
use Rattle.rw_sweep.proofs.Slots.{lines-so, table-so}
use Rattle.rw_sweep.proofs.Under.{are-under, begun-under, fault-under, marks-under, swept-first-under, swept-under}
use Rattle.rw_report.specs.Intervals.{AreMarks}
use Rattle.rw_sweep.proofs.over_time.sweep_over_time.Goals as goal

pub sweep_points-requires-clause-of_grid : goal.sweep_points-requires-clause-of_grid
sweep_points-requires-clause-of_grid g c κs within =
    let s = c.args.sweeping.now in
    (are-under s.grid.now s.part s.outlook c.points.result.now c.as_slice.result.now c.points.ensures (c.as_slice.ensures.value ∙ c.in_ok-points.ensures)).of

pub sweep_points-requires-clause-marks : goal.sweep_points-requires-clause-marks
sweep_points-requires-clause-marks g c κs within =
    let s = c.args.sweeping.now in
    let marks : AreMarks s.outlook = c.in-Some.ensures.in_range.0 refl in
    marks-under s.grid.now s.part s.outlook c.as_slice.result.now
    (are-under s.grid.now s.part s.outlook c.points.result.now c.as_slice.result.now c.points.ensures (c.as_slice.ensures.value ∙ c.in_ok-points.ensures)) marks

pub returns-clause-table : goal.returns-clause-table
returns-clause-table g c =
    let s = c.args.sweeping.now in
    table-so c.sweep_points.result (swept-under s.grid.now s.part s.outlook c.args.bytes.now c.as_slice.result.now c.as_slice-2.result.now _ _
    (are-under s.grid.now s.part s.outlook c.points.result.now c.as_slice.result.now c.points.ensures (c.as_slice.ensures.value ∙ c.in_ok-points.ensures))
    (c.as_slice-2.ensures.value ∙ c.in_ok-header.ensures)) c.sweep_points.ensures.table

pub returns-clause-fault : goal.returns-clause-fault
returns-clause-fault g c =
    let s = c.args.sweeping.now in
    fault-under c.sweep_points.result s.grid.now s.part s.outlook c.args.bytes.now c.as_slice.result.now
    (are-under s.grid.now s.part s.outlook c.points.result.now c.as_slice.result.now c.points.ensures (c.as_slice.ensures.value ∙ c.in_ok-points.ensures)) c.sweep_points.ensures.fault

pub returns-clause-cut_off : goal.returns-clause-cut_off
returns-clause-cut_off g c =
    let s = c.args.sweeping.now in
    λ cut. begun-under s.grid.now s.part s.outlook c.args.bytes.now c.as_slice.result.now c.as_slice-2.result.now _ _
    (are-under s.grid.now s.part s.outlook c.points.result.now c.as_slice.result.now c.points.ensures (c.as_slice.ensures.value ∙ c.in_ok-points.ensures))
    (c.as_slice-2.ensures.value ∙ c.in_ok-header.ensures) (c.sweep_points.ensures.cut_off cut)

pub returns-clause-whole_lines : goal.returns-clause-whole_lines
returns-clause-whole_lines g c =
    let s = c.args.sweeping.now in
    lines-so _ c.sweep_points.result (swept-first-under s.grid.now s.part s.outlook c.args.bytes.now c.as_slice.result.now c.as_slice-2.result.now _ _
    (are-under s.grid.now s.part s.outlook c.points.result.now c.as_slice.result.now c.points.ensures (c.as_slice.ensures.value ∙ c.in_ok-points.ensures))
    (c.as_slice-2.ensures.value ∙ c.in_ok-header.ensures)) c.sweep_points.ensures.whole_lines
