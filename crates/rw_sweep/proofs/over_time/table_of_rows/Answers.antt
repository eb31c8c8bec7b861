use Rattle.std.proofs.Common.{◌≡◌, ◌∙◌}
use Rattle.rw_sweep.specs.Ongoing.{MarksAt}
use Rattle.rw_sweep.specs.Streams.{IsRowsSweepFault}
use Rattle.rw_sweep.proofs.Finishing.{marks_of, may-finish}
use Rattle.rw_sweep.proofs.Streamed.{edges-under, end-fault, open-fault, runs-fault, table-of-runs, to-tell}
use Rattle.rw_sweep.proofs.Under.{are-under}
use Rattle.rw_sweep.proofs.over_time.table_of_rows.Goals as goal

pub run_all_streamed-requires-clause-edges : goal.run_all_streamed-requires-clause-edges
run_all_streamed-requires-clause-edges g c κs within =
    let s = c.args.sweeping.now in
    edges-under s.grid.now s.part s.outlook c.as_slice.result.now
    (are-under s.grid.now s.part s.outlook c.points.result.now c.as_slice.result.now c.points.ensures (c.as_slice.ensures.value ∙ c.in_ok-points.ensures))
    (g.S.RowSource.rest c.args.rows.now).edges c.requires.edges

pub returns-in_err-streamed-clause-fault : goal.returns-in_err-streamed-clause-fault
returns-in_err-streamed-clause-fault g c =
    let s = c.args.sweeping.now in
    let ahead = (g.S.RowSource.rest c.args.rows.now).ahead in
    open-fault c.from_residual-in_err-streamed.result c.in_err-streamed.field-0.0 (IsRowsSweepFault s.grid.now s.part s.outlook ahead) c.from_residual-in_err-streamed.ensures.1
    (runs-fault s.grid.now s.part s.outlook c.as_slice.result.now
    (are-under s.grid.now s.part s.outlook c.points.result.now c.as_slice.result.now c.points.ensures (c.as_slice.ensures.value ∙ c.in_ok-points.ensures))
    ahead c.in_err-streamed.field-0.0 c.in_err-streamed.ensures.fault)

pub text_of_runs-requires-clause-may_finish : goal.text_of_runs-requires-clause-may_finish
text_of_runs-requires-clause-may_finish g c =
    let taken = c.in_ok-streamed.ensures.taken in
    let at : MarksAt = record { start = c.in-Some.marks.start; every = c.in-Some.marks.every } in
    may-finish at (g.S.RowSource.rest c.args.rows.now).edges taken.rows c.in_ok-streamed.streamed.0.items taken.ranges taken.going taken.not_ended

pub text_of_runs-requires-clause-to_tell : goal.text_of_runs-requires-clause-to_tell
text_of_runs-requires-clause-to_tell g c =
    let s = c.args.sweeping.now in
    to-tell s.grid.now s.part s.outlook c.as_slice.result.now
    (are-under s.grid.now s.part s.outlook c.points.result.now c.as_slice.result.now c.points.ensures (c.as_slice.ensures.value ∙ c.in_ok-points.ensures))
    c.in_ok-streamed.streamed.0.items c.in_ok-streamed.ensures.points

pub returns-in_err-text_of_runs-clause-fault : goal.returns-in_err-text_of_runs-clause-fault
returns-in_err-text_of_runs-clause-fault g c =
    let s = c.args.sweeping.now in
    let from = g.S.RowSource.rest c.args.rows.now in
    let marks = c.in-Some.ensures.marks in
    let at : MarksAt = record { start = c.in-Some.marks.start; every = c.in-Some.marks.every } in
    let same : at ≡ marks_of s.outlook = λ i. record { start = marks.0 i; every = marks.1 i } in
    end-fault s.grid.now s.part s.outlook c.as_slice.result.now
    (are-under s.grid.now s.part s.outlook c.points.result.now c.as_slice.result.now c.points.ensures (c.as_slice.ensures.value ∙ c.in_ok-points.ensures))
    from.ahead from.edges c.in_ok-streamed.streamed.1 at same c.in_ok-streamed.streamed.0.items c.in_ok-streamed.ensures.points c.in_ok-streamed.ensures.taken
    c.from_residual-in_err-text_of_runs.result c.in_err-text_of_runs.field-0.0 c.from_residual-in_err-text_of_runs.ensures.1 c.in_err-text_of_runs.ensures.exhausted

pub returns-clause-table : goal.returns-clause-table
returns-clause-table g c =
    let s = c.args.sweeping.now in
    let from = g.S.RowSource.rest c.args.rows.now in
    let marks = c.in-Some.ensures.marks in
    let at : MarksAt = record { start = c.in-Some.marks.start; every = c.in-Some.marks.every } in
    let same : at ≡ marks_of s.outlook = λ i. record { start = marks.0 i; every = marks.1 i } in
    table-of-runs s.grid.now s.part s.outlook c.as_slice.result.now
    (are-under s.grid.now s.part s.outlook c.points.result.now c.as_slice.result.now c.points.ensures (c.as_slice.ensures.value ∙ c.in_ok-points.ensures))
    from.ahead from.edges c.in_ok-streamed.streamed.1 at same c.in_ok-streamed.streamed.0.items c.in_ok-streamed.ensures.points c.in_ok-streamed.ensures.taken
    c.as_slice-2.result.now c.in_ok-text_of_runs.field-0.items (c.as_slice-2.ensures.value ∙ c.in_ok-header.ensures) c.in_ok-text_of_runs.ensures.told
