-- One more record is kept, left out or refused.
use Rattle.std.proofs.Common.{refl}
use Rattle.std.specs.List.{position_or_len}
use Rattle.std.proofs.lemmas.Result.{err_from_is_err_and}
use Rattle.csv.specs.Records.{fields_of}
use Rattle.rw_trace.specs.Unread.{unread}
use Rattle.rw_import.specs.Csv.{beside, is_same_text}
use Rattle.rw_import.specs.Sheet.{texts_in}
use Rattle.rw_import.proofs.Collecting.{clamped-none, counts-none, keepable-beside, so-far-next, so-far-none, so-far-stops, timely-kept}
use Rattle.rw_import.proofs.csv_log.rows_left.Goals as goal

pub loop-row-init : goal.loop-row-init
loop-row-init g c =
    let sheet = c.blank_sheet-sheet.result in
    let made = c.blank_sheet-sheet.ensures in
    record {
      steady = c.requires.steady;
      counts = (counts-none sheet.left_out made.left_out, clamped-none sheet.clamped made.clamped);
      so_far = so-far-none c.args.terms.places c.args.terms.edges c.args.terms.options c.args.terms.least (unread c.args.reader.now) (texts_in c.args.texts.now) sheet c.requires.none made.rows made.left_out made.clamped;
    }

pub add_named-requires-clause-timely : goal.add_named-requires-clause-timely
add_named-requires-clause-timely g c n small =
    timely-kept c.args.terms.edges c.args.terms.options c.args.terms.least (beside n c.judge-judged.result) (c.judge-judged.ensures.keepable n small)

pub returns-in_err-add_named-clause-fault : goal.returns-in_err-add_named-clause-fault
returns-in_err-add_named-clause-fault g c =
    let p = err_from_is_err_and c.from_residual-in_err-add_named.result c.from_residual-in_err-add_named.ensures.1 in
    let gives = rw c.if-not-branch.false at c.in_ok-next_record.ensures.gives in
    let n = position_or_len (is_same_text c.field_of-text.result.now) (texts_in c.loop-row.texts) in
    rw (p.1, p.2)
    (so-far-stops c.args.terms.places c.args.terms.edges c.args.terms.options c.args.terms.least _ _ _ (fields_of c.next_record.new.fields) c.loop-row.row n (texts_in c.loop-row.texts) c.loop-row.sheet c.judge-judged.result
    (beside n c.judge-judged.result) _ c.loop-row.invariant.so_far gives c.judge-judged.ensures.judged refl c.in_err-add_named.ensures.refuses)

pub loop-row-preserved : goal.loop-row-preserved
loop-row-preserved g c =
    let gives = rw c.if-not-branch.false at c.in_ok-next_record.ensures.gives in
    let n = position_or_len (is_same_text c.field_of-text.result.now) (texts_in c.loop-row.texts) in
    let judged = c.judge-judged.result in
    let added = c.in_ok-add_named.ensures in
    let fine = keepable-beside c.args.terms.edges c.args.terms.options c.args.terms.least n judged (beside n judged) refl added.small c.judge-judged.ensures.keepable in
    record {
      steady = c.in_ok-next_record.ensures.steady c.if-not-branch.false;
      counts = added.after;
      so_far = so-far-next c.args.terms.places c.args.terms.edges c.args.terms.options c.args.terms.least _ _ _ (fields_of c.next_record.new.fields) c.loop-row.row (texts_in c.loop-row.texts) _ c.loop-row.sheet c.add_named.new.sheet
          c.field_of-text.result.now judged (beside n judged) c.loop-row.invariant.so_far gives c.judge-judged.ensures.judged c.field_of-text.ensures refl fine added.adds added.texts;
    }
