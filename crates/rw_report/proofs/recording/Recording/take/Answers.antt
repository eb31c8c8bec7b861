use Rattle.std.proofs.Common.{◌≡◌, ◌≤◌, ◌+◌, ◌-◌, ◌^◌, ◌⊎◌, [], sym, subst, arith, length}
use Rattle.std.specs.Prelude.{All}
use Rattle.rw_photo.proofs.ValidRows.{valid-rows}
use Rattle.rw_trace.specs.Laws.{IsRow}
use Rattle.rw_report.specs.History.{IsRecordingOf, RecordingState}
use Rattle.rw_report.proofs.Recorded.{passed, takes_recorded}
use Rattle.rw_report.proofs.recording.Recording.take.Goals as goal

pub returns-clause-taken : goal.returns-clause-taken
returns-clause-taken c = λ before recording.
    let was = c.self.inside in
    let r : RecordingState = record { run = was.run; start = was.marks.start; every = was.marks.every; moments = was.moments.items } in
    let is = subst (IsRecordingOf before) (sym c.self.view_is) recording in
    let late = subst (λ (v : RecordingState). All (λ row. v.run.time ≤ row.time) c.args.rows.now) (sym c.self.view_is) c.requires.late in
    let ranges = subst (λ (v : RecordingState). All (IsRow v.run.config.edges) c.args.rows.now) (sym c.self.view_is) c.requires.ranges in
    let few = subst (λ (v : RecordingState). v.run.taken + length c.args.rows.now ≤ 2 ^ 64 - 1) (sym c.self.view_is) c.requires.few in
    takes_recorded r before c.args.rows.now is (valid-rows was.run.config was.run.taken c.args.rows.now (omega (arith, few)) ranges) late (passed was.run.time was.marks.start was.marks.every was.next was.moments.items c.self.invariant.0 c.self.invariant.2) c.in_ok-run.run' c.in_ok-run.ensures.config (c.in_ok-run.ensures.taken before is.run)

pub invariant_of-result : goal.invariant_of-result
invariant_of-result c =
    let was = c.self.inside in
    let time = sym c.in_ok-run.ensures.time in (
      c.self.invariant.0,
      subst (λ t. t ≤ was.next) time c.self.invariant.1,
      subst (λ t. (was.moments.items ≡ []) ⊎ (was.next ≤ t + was.marks.every)) time c.self.invariant.2,
    )
