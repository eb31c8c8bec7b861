use Rattle.std.proofs.Common.{◌≡◌, ◌++◌, ◌∙◌, [], List, true, false, refl, rules, subst, sym, All}
use Rattle.std.specs.List.{Any}
use Rattle.std.proofs.lemmas.List.Elements.{All-drop}
use Rattle.rw_trace.specs.declared.Row.{Row}
use Rattle.rw_sweep.specs.declared.point.Point.{Point}
use Rattle.rw_sweep.specs.Working.{CanRun, IsExhaustedAt}
use Rattle.rw_sweep.proofs.Serial.{passed-on}
use Rattle.rw_sweep.proofs.Taken.{any-within, cut-at, header-alone, if-not, if-so, wave-first, wave-more, whatever-fault}
use Rattle.rw_sweep.proofs.waves.write_all.Goals as goal

pub returns-then-not-write_text-clause-taken : goal.returns-then-not-write_text-clause-taken
returns-then-not-write_text-clause-taken g c =
    record { first = []; rest = c.args.batch.points.now; parted = refl; taken = header-alone c.args.batch.rows.now false c.args.header.now _ _ c.write_text.ensures.beginning }

pub returns-in_err-write_wave-clause-refused : goal.returns-in_err-write_wave-clause-refused
returns-in_err-write_wave-clause-refused g c =
    let cut : c.loop-rest.rest.now ≡ c.split_at.result.0.now ++ c.split_at.result.1.now = cut-at _ c.loop-rest.rest.now c.split_at.result.0.now c.split_at.result.1.now c.split_at.ensures.front c.split_at.ensures.back in
    whatever-fault c.from_residual.result
    (wave-first c.args.batch.rows.now true c.args.batch.points.now c.loop-rest.rest.now c.split_at.result.0.now c.split_at.result.1.now c.args.header.now _ _ _ c.loop-rest.invariant.left cut c.in_err-write_wave.ensures.refused)

pub returns-in_err-write_wave-clause-exhausted : goal.returns-in_err-write_wave-clause-exhausted
returns-in_err-write_wave-clause-exhausted g c =
    let P = IsExhaustedAt c.args.batch.rows.now in
    let cut : c.loop-rest.rest.now ≡ c.split_at.result.0.now ++ c.split_at.result.1.now = cut-at _ c.loop-rest.rest.now c.split_at.result.0.now c.split_at.result.1.now c.split_at.ensures.front c.split_at.ensures.back in
    passed-on (Any P c.args.batch.points.now) c.from_residual.result c.in_err-write_wave.field-0.0 c.from_residual.ensures.1
    (λ exhausted. any-within P c.args.batch.points.now c.loop-rest.invariant.left.first c.loop-rest.rest.now c.split_at.result.0.now c.split_at.result.1.now c.loop-rest.invariant.left.parted cut
    (c.in_err-write_wave.ensures.exhausted exhausted))

pub returns-then-not-branch-clause-taken : goal.returns-then-not-branch-clause-taken
returns-then-not-branch-clause-taken g c =
    let cut : c.loop-rest.rest.now ≡ c.split_at.result.0.now ++ c.split_at.result.1.now = cut-at _ c.loop-rest.rest.now c.split_at.result.0.now c.split_at.result.1.now c.split_at.ensures.front c.split_at.ensures.back in
    let cut_off : c.in_ok-write_wave.field-0 ≡ false = search rules in
    wave-first c.args.batch.rows.now false c.args.batch.points.now c.loop-rest.rest.now c.split_at.result.0.now c.split_at.result.1.now c.args.header.now _ _ _ c.loop-rest.invariant.left cut
    (if-not _ _ c.in_ok-write_wave.field-0 cut_off c.in_ok-write_wave.ensures.taken)

pub loop-rest-preserved : goal.loop-rest-preserved
loop-rest-preserved g c =
    let rows : List Row = c.args.batch.rows.now in
    let rest : List Point = c.loop-rest.rest.now in
    let cut : rest ≡ c.split_at.result.0.now ++ c.split_at.result.1.now = cut-at _ rest c.split_at.result.0.now c.split_at.result.1.now c.split_at.ensures.front c.split_at.ensures.back in
    let whole : c.in_ok-write_wave.field-0 ≡ true = search rules in
    record {
      left = wave-more rows c.args.batch.points.now rest c.split_at.result.0.now c.split_at.result.1.now c.args.header.now _ _ _ c.loop-rest.invariant.left cut
          (if-so _ _ c.in_ok-write_wave.field-0 whole c.in_ok-write_wave.ensures.taken);
      can_run = subst (All (CanRun rows)) (sym c.split_at.ensures.back) (All-drop (CanRun rows) _ rest c.loop-rest.invariant.can_run);
      failures = if-so _ _ c.in_ok-write_wave.field-0 whole c.in_ok-write_wave.ensures.failures ∙ c.loop-rest.invariant.failures;
    }
