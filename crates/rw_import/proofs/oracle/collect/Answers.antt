-- One more record is kept, left out or refused.
use Rattle.std.proofs.Common.{◌≡◌, ◌<◌, ◌+◌, ◌++◌, ◌∷◌, [], ℕ, List, ap, arith, map, subst, sym, ◌∙◌}
use Rattle.std.specs.List.{range_with_len}
use Rattle.std.proofs.lemmas.List.FromFn.{map-range_with_len_more}
use Rattle.std.proofs.lemmas.Result.{IfOk-from_err, err_from_is_err_and}
use Rattle.rw_import.specs.Log.{Saying}
use Rattle.rw_import.specs.Oracle.{judged_all, judged_at, piece_count}
use Rattle.rw_import.specs.Sheet.{IsSheetOf}
use Rattle.rw_import.proofs.Sheets.{length-places, parted-at, row-told, itself, sheet-next, sheet-none}
use Rattle.rw_import.proofs.Collecting.{clamped-none}
use Rattle.rw_import.proofs.oracle.collect.Goals as goal

pub loop-at-init : goal.loop-at-init
loop-at-init g c =
    let counts = c.blank_sheet-sheet.ensures.left_out in
    record {
      sheet = sheet-none itself c.args.options.edges c.args.options c.args.least c.blank_sheet-sheet.result c.blank_sheet-sheet.ensures.rows counts c.blank_sheet-sheet.ensures.clamped;
      counts = (rw counts (record { length = omega arith; time = omega arith; edge = omega arith; object = omega arith; size = omega arith; kind = omega arith }), clamped-none c.blank_sheet-sheet.result.clamped c.blank_sheet-sheet.ensures.clamped);
    }

pub loop-at-preserved : goal.loop-at-preserved
loop-at-preserved g c =
    let o = c.args.options in
    let f = judged_at o c.args.least c.args.bytes.now in
    let at = c.loop-at.at in
    let done = map f (range_with_len 0 at) in
    let same : c.judge-judged.result ≡ f at = c.judge-judged.ensures.judged in
    let more : done ++ c.judge-judged.result ∷ [] ≡ map f (range_with_len 0 (at + 1)) =
    ap (λ (s : Saying ℕ). done ++ s ∷ []) same ∙ sym (map-range_with_len_more f 0 at at (omega arith)) in
    record {
      sheet = subst (λ (l : List (Saying ℕ)). IsSheetOf itself o.edges o c.args.least l c.add.new.sheet) more
          (sheet-next o.edges o c.args.least done c.loop-at.sheet c.add.new.sheet c.judge-judged.result c.loop-at.invariant.sheet c.judge-judged.ensures.keepable c.in_ok-add.ensures.adds);
      counts = c.in_ok-add.ensures.after;
    }

pub returns-in_err-add-clause-fault : goal.returns-in_err-add-clause-fault
returns-in_err-add-clause-fault g c =
    let p = err_from_is_err_and c.from_residual.result c.from_residual.ensures.1 in
    let o = c.args.options in
    let f = judged_at o c.args.least c.args.bytes.now in
    let at = c.loop-at.at in
    let done = map f (range_with_len 0 at) in
    let same : c.judge-judged.result ≡ f at = c.judge-judged.ensures.judged in
    let there : at < piece_count c.args.bytes.now = rw c.count_pieces-at-end.ensures at c.loop-at-test.true in
    let (after, parts) = parted-at f (piece_count c.args.bytes.now) at there in
    let whole : done ++ c.judge-judged.result ∷ after ≡ judged_all o c.args.least c.args.bytes.now =
    ap (λ (s : Saying ℕ). done ++ s ∷ after) same ∙ sym parts in
    rw (p.1, p.2) (row-told o.edges o c.args.least at done after _ c.loop-at.sheet c.judge-judged.result _ c.loop-at.invariant.sheet (length-places f 0 at) whole c.in_err-add.ensures.refuses)

pub add-requires-clause-timely : goal.add-requires-clause-timely
add-requires-clause-timely g c = c.judge-judged.ensures.timely

pub add-requires-clause-within : goal.add-requires-clause-within
add-requires-clause-within g c = c.loop-at.invariant.counts

pub returns-in_err-add-clause-sheet : goal.returns-in_err-add-clause-sheet
returns-in_err-add-clause-sheet g c = IfOk-from_err c.from_residual.result _ c.from_residual.ensures.0

pub returns-clause-sheet : goal.returns-clause-sheet
returns-clause-sheet g c =
    let o = c.args.options in
    let all : c.loop-at.at ≡ piece_count c.args.bytes.now = omega (arith, c.loop-at-test.false, c.loop-at.auto.at-end, c.count_pieces-at-end.ensures) in
    subst (λ (n : ℕ). IsSheetOf itself o.edges o c.args.least (map (judged_at o c.args.least c.args.bytes.now) (range_with_len 0 n)) c.loop-at.sheet) all c.loop-at.invariant.sheet
