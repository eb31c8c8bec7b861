use Rattle.std.proofs.Common.{sym}
use Rattle.std.specs.Prelude.{All, IfOk}
use Rattle.std.proofs.lemmas.List.Elements.{All-head, All-rest, All-same}
use Rattle.std.proofs.lemmas.Result.{IfOk-at_ok}
use Rattle.rw_sweep.specs.Working.{IsEntryOf}
use Rattle.rw_sweep.proofs.working.place_others.Goals as goal

pub loop-entries-preserved : goal.loop-entries-preserved
loop-entries-preserved c =
    record {
      slots = c.place_all.ensures;
      others = All-rest (λ r. IfOk r (λ es. All (IsEntryOf c.args.rows.now c.args.points.now) es.items)) _ _ _ c.in-Some.ensures.steps.0 c.loop-entries.invariant.others;
    }

pub place_all-requires-clause-entries : goal.place_all-requires-clause-entries
place_all-requires-clause-entries c =
    let others = All-same (λ r. IfOk r (λ es. All (IsEntryOf c.args.rows.now c.args.points.now) es.items)) _ _ (sym c.in-Some.ensures.steps.0) c.loop-entries.invariant.others in
    IfOk-at_ok (λ es. All (IsEntryOf c.args.rows.now c.args.points.now) es.items) c.in_ok-entries.was
    (All-head (λ r. IfOk r (λ es. All (IsEntryOf c.args.rows.now c.args.points.now) es.items)) c.in-Some.entries _ others)
