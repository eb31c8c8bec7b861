use Rattle.std.proofs.Common.{◌≡◌, ◌∙◌, ◌++◌, List, All, ap, sym, subst, length}
use Rattle.std.specs.List.{Any}
use Rattle.rw_vt.specs.Limits.{end_of_time}
use Rattle.rw_vt.specs.System.{Meets}
use Rattle.rw_trace.specs.declared.Row.{Row}
use Rattle.rw_photo.specs.Cache.{is_exhausted}
use Rattle.rw_photo.specs.Simulation.{simulation}
use Rattle.rw_sweep.specs.declared.ongoing.OngoingRun.{OngoingRun}
use Rattle.rw_sweep.specs.Ongoing.{IsGoingOn}
use Rattle.rw_sweep.proofs.Finishing.{IsTelling, marks_of, next-at, next-going, next-within, telling-more, telling-none}
use Rattle.rw_sweep.proofs.Serial.{passed-on}
use Rattle.rw_sweep.proofs.ongoing.text_of_runs.Goals as goal

pub loop-run-init : goal.loop-run-init
loop-run-init c =
    let all : List OngoingRun = c.args.runs.items in
    let same : c.into_iter-run-iterator.result.rest.items ≡ all = c.into_iter-run-iterator.ensures.into_iter_gives.0 in
    subst (λ l. IsTelling c.args.outlook c.args.facts c.args.header.now all l c.in_ok-text.text.items) (sym same)
    (telling-none c.args.outlook c.args.facts c.args.header.now all c.in_ok-text.text.items c.in_ok-text.ensures.items c.requires.may_finish c.requires.to_tell)

pub returns-in_err-lines-clause-exhausted : goal.returns-in_err-lines-clause-exhausted
returns-in_err-lines-clause-exhausted c =
    let o = c.args.outlook in
    let all : List OngoingRun = c.args.runs.items in
    let on = c.loop-run.invariant in
    let g : OngoingRun = c.in-Some.run' in
    passed-on ((rows : List Row) → All (IsGoingOn (marks_of o) rows) all → Any (λ h. Meets (simulation h.point.config rows) end_of_time is_exhausted) all)
    c.from_residual-in_err-lines.result c.in_err-lines.field-0.0 c.from_residual-in_err-lines.ensures.1
    (λ exhausted rows going. (
      length on.done,
      g,
      next-within o c.args.facts c.args.header.now all _ _ g c.loop-run.text.items on c.in-Some.ensures.steps.0,
      next-at o c.args.facts c.args.header.now all _ _ g c.loop-run.text.items on c.in-Some.ensures.steps.0,
      c.in_err-lines.ensures.exhausted exhausted rows (next-going o c.args.facts c.args.header.now all _ _ g c.loop-run.text.items on c.in-Some.ensures.steps.0 rows going),
    ))

pub loop-run-preserved : goal.loop-run-preserved
loop-run-preserved c =
    telling-more c.args.outlook c.args.facts c.args.header.now c.args.runs.items _ _ c.in-Some.run' c.loop-run.text.items c.loop-run.invariant c.in-Some.ensures.steps.0
    c.in_ok-lines.lines.items c.extend_from_slice.new.self.items (c.in_ok-extend_from_slice.ensures.items ∙ ap (λ t. c.loop-run.text.items ++ t) c.as_slice.ensures.value) c.in_ok-lines.ensures.told
