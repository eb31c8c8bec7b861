-- One more record: the lesser of the least time so far and its own.
use Rattle.std.proofs.Common.{◌∙◌, ℕ, List, Option, ap, fold, map, refl, sym}
use Rattle.std.specs.Prelude.{Result, unwrap_or}
use Rattle.std.proofs.lemmas.Result.{IfOk-from_err}
use Rattle.csv.specs.Records.{fields_of}
use Rattle.rw_trace.specs.Unread.{unread}
use Rattle.rw_trace.specs.Words.{Fields}
use Rattle.rw_import.specs.Csv.{beside, field_in, record_said}
use Rattle.rw_import.specs.Log.{earlier}
use Rattle.rw_import.specs.declared.entry.Entry.{Entry}
use Rattle.rw_import.specs.declared.fault.Flaw.{Flaw}
use Rattle.rw_import.proofs.OneLine.{line-more}
use Rattle.rw_import.proofs.csv_log.least_left.Goals as goal

pub loop-row-init : goal.loop-row-init
loop-row-init g c = record { steady = c.requires; lines = refl; meaning = refl }

pub loop-row-preserved : goal.loop-row-preserved
loop-row-preserved g c =
    let said = record_said c.args.places c.args.edges in
    let fields = fields_of c.next_record.new.fields in
    let text = field_in fields c.args.places.object in
    let gives = rw c.if-not-branch.false at c.in_ok-next_record.ensures.gives in
    let least = c.lesser-least.ensures text ∙ ap (λ (r : Result Entry Flaw). earlier c.loop-row.least (beside text r)) c.read_fields.ensures.said in
    record {
      steady = c.in_ok-next_record.ensures.steady c.if-not-branch.false;
      lines = line-more c.args.quotes (unread c.args.reader.now) (unread c.loop-row.reader) (fields_of c.next_record.new.fields) (unread c.next_record.new.reader) c.loop-row.invariant.lines gives (sym c.has_its_lines.ensures ∙ c.if-not-has_its_lines.false);
      meaning = c.loop-row.invariant.meaning
          ∙ ap (λ (rs : List Fields). fold earlier c.loop-row.least (map said rs)) gives
          ∙ ap (λ (m : Option ℕ). fold earlier m (map said (unread c.next_record.new.reader))) (sym least);
    }

pub returns-in_err-next_record-clause-least : goal.returns-in_err-next_record-clause-least
returns-in_err-next_record-clause-least g c = IfOk-from_err c.from_residual.result _ c.from_residual.ensures.0

pub returns-then-not-branch-clause-least : goal.returns-then-not-branch-clause-least
returns-then-not-branch-clause-least g c =
    let said = record_said c.args.places c.args.edges in
    let none = rw c.if-not-branch.true at c.in_ok-next_record.ensures.gives in
    let all = c.loop-row.invariant.meaning ∙ ap (λ (rs : List Fields). fold earlier c.loop-row.least (map said rs)) none in
    c.unwrap_or.ensures ∙ ap (λ (m : Option ℕ). unwrap_or m 0) (sym all)
