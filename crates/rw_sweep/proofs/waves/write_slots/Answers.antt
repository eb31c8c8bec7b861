use Rattle.std.proofs.Common.{◌≡◌, ◌+◌, ◌∙◌, [], List, true, false, rules, subst, sym, take}
use Rattle.std.specs.List.{Any}
use Rattle.rw_trace.specs.declared.Row.{Row}
use Rattle.rw_sweep.specs.declared.point.Point.{Point}
use Rattle.rw_sweep.specs.Working.{HasTaken, HasTakenPoint, IsExhaustedAt}
use Rattle.rw_sweep.proofs.Serial.{passed-on}
use Rattle.rw_sweep.proofs.Taken.{first-of-all, first-of-left, if-so, nothing-yet, whatever-fault}
use Rattle.rw_sweep.proofs.waves.write_slots.Goals as goal

pub loop-index-init : goal.loop-index-init
loop-index-init g c = record { taken = nothing-yet c.args.rows.now (g.W.Write.contents c.args.out.now.writer); failures = λ i. c.args.out.now.failures }

pub loop-index-preserved : goal.loop-index-preserved
loop-index-preserved g c =
    let rows : List Row = c.args.rows.now in
    let points : List Point = c.args.points.now in
    let p : Point = c.index-points-index.result in
    let contents = g.W.Write.contents in
    let whole : c.in_ok-write_point.field-0 ≡ true = search rules in
    let taken : HasTakenPoint true rows p (contents c.loop-index.out.writer) (contents c.write_point.new.out.writer) =
    subst (λ b. HasTakenPoint b rows p (contents c.loop-index.out.writer) (contents c.write_point.new.out.writer)) whole c.in_ok-write_point.ensures.taken in
    record {
      taken = first-of-left rows true points c.loop-index.index p [] (contents c.args.out.now.writer) (contents c.loop-index.out.writer) (contents c.write_point.new.out.writer)
          c.loop-index-test.true c.index-points-index.is c.loop-index.invariant.taken taken;
      failures = if-so _ _ c.in_ok-write_point.field-0 whole c.in_ok-write_point.ensures.failures ∙ c.loop-index.invariant.failures;
    }

pub returns-then-not-branch-clause-taken : goal.returns-then-not-branch-clause-taken
returns-then-not-branch-clause-taken g c =
    let rows : List Row = c.args.rows.now in
    let points : List Point = c.args.points.now in
    let p : Point = c.index-points-index.result in
    let contents = g.W.Write.contents in
    let cut_off : c.in_ok-write_point.field-0 ≡ false = search rules in
    let taken : HasTakenPoint false rows p (contents c.loop-index.out.writer) (contents c.write_point.new.out.writer) =
    subst (λ b. HasTakenPoint b rows p (contents c.loop-index.out.writer) (contents c.write_point.new.out.writer)) cut_off c.in_ok-write_point.ensures.taken in
    first-of-all rows false points (c.loop-index.index + 1) [] (contents c.args.out.now.writer) (contents c.write_point.new.out.writer)
    (first-of-left rows false points c.loop-index.index p [] (contents c.args.out.now.writer) (contents c.loop-index.out.writer) (contents c.write_point.new.out.writer)
    c.loop-index-test.true c.index-points-index.is c.loop-index.invariant.taken taken)

pub returns-in_err-write_point-clause-refused : goal.returns-in_err-write_point-clause-refused
returns-in_err-write_point-clause-refused g c =
    let rows : List Row = c.args.rows.now in
    let first : List Point = take c.loop-index.index c.args.points.now in
    let contents = g.W.Write.contents in
    whatever-fault c.from_residual.result
    (first-of-all rows true c.args.points.now c.loop-index.index [] (contents c.args.out.now.writer) (contents c.write_point.new.out.writer)
    (subst (λ o. HasTaken true rows first [] (contents c.args.out.now.writer) (contents o.writer)) (sym c.in_err-write_point.ensures.refused) c.loop-index.invariant.taken))

pub returns-in_err-write_point-clause-exhausted : goal.returns-in_err-write_point-clause-exhausted
returns-in_err-write_point-clause-exhausted g c =
    passed-on (Any (IsExhaustedAt c.args.rows.now) c.args.points.now) c.from_residual.result c.in_err-write_point.field-0.0 c.from_residual.ensures.1
    (λ exhausted. (c.loop-index.index, c.index-points-index.result, c.loop-index-test.true, sym c.index-points-index.is, c.in_err-write_point.ensures.exhausted exhausted))
