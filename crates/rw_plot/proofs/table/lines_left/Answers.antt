-- What the rows read so far and those that are left mean together is what the table means.
use Rattle.std.proofs.Common.{◌≡◌, ◌<◌, ◌∙◌, ◌+◌, ℕ, List, Option, Result, ap, arith, map, sym}
use Rattle.std.proofs.lemmas.Result.{err_from_is_err_and}
use Rattle.csv.specs.Records.{fields_of}
use Rattle.rw_trace.specs.Unread.{unread}
use Rattle.rw_trace.specs.Words.{Fields}
use Rattle.rw_plot.specs.Tables.{DrawnRow, drawn_of, most_lines, row_of_line}
use Rattle.rw_plot.specs.declared.measure.Caches.{Caches}
use Rattle.rw_plot.specs.declared.places.Places.{Places}
use Rattle.rw_plot.specs.declared.plot_fault.PlotFault.{PlotFault}
use Rattle.rw_plot.proofs.Rows.{rows_before, rows-end, rows-fault, rows-many, rows-more, rows-none}
use Rattle.rw_plot.proofs.table.lines_left.Goals as goal

-- the meaning of a table, where the records that are left are known
met : (places : Places) (drawn : Option Caches) (n : ℕ) (before : List DrawnRow) (left rs : List Fields) (m : Result (List DrawnRow) PlotFault)
    → m ≡ rows_before before (drawn_of places drawn most_lines n left) → left ≡ rs → m ≡ rows_before before (drawn_of places drawn most_lines n rs)
met places drawn n before left rs m is e = is ∙ ap (λ (l : List Fields). rows_before before (drawn_of places drawn most_lines n l)) e

pub loop-at-init : goal.loop-at-init
loop-at-init c = record {
  steady = c.requires.steady;
  meaning = rw c.requires.empty (rows-none (drawn_of c.args.places.now c.args.drawn most_lines 0 (unread c.args.reader.now)));
}

pub returns-then-not-branch-clause-rows : goal.returns-then-not-branch-clause-rows
returns-then-not-branch-clause-rows c =
    let gives = rw c.if-not-branch.true at c.in_ok-next_record.ensures.gives in
    let before = map row_of_line c.loop-at.lines.items in
    met c.args.places.now c.args.drawn c.loop-at.at before _ _ _ c.loop-at.invariant.meaning gives ∙ rows-end c.args.places.now c.args.drawn most_lines c.loop-at.at before

pub returns-in_err-sample-clause-fault : goal.returns-in_err-sample-clause-fault
returns-in_err-sample-clause-fault c =
    let p = err_from_is_err_and c.from_residual-in_err-sample.result c.from_residual-in_err-sample.ensures.1 in
    let gives = rw c.if-not-branch.false at c.in_ok-next_record.ensures.gives in
    let before = map row_of_line c.loop-at.lines.items in
    let at : c.loop-at.at < most_lines = c.loop-at-test.true in
    let fault = rows-fault c.args.places.now c.args.drawn most_lines c.loop-at.at (fields_of c.next_record.new.fields) (unread c.next_record.new.reader) _ before at (sym c.in_err-sample.ensures) in
    rw (p.1, p.2) (λ _. met c.args.places.now c.args.drawn c.loop-at.at before _ _ _ c.loop-at.invariant.meaning gives ∙ fault)

pub loop-at-preserved : goal.loop-at-preserved
loop-at-preserved c =
    let gives = rw c.if-not-branch.false at c.in_ok-next_record.ensures.gives in
    let before = map row_of_line c.loop-at.lines.items in
    let at : c.loop-at.at < most_lines = c.loop-at-test.true in
    let rest = drawn_of c.args.places.now c.args.drawn most_lines (c.loop-at.at + 1) (unread c.next_record.new.reader) in
    let named = c.policy_of-policy.ensures in
    let more = rows-more c.args.places.now c.args.drawn most_lines c.loop-at.at (fields_of c.next_record.new.fields) (unread c.next_record.new.reader) c.in_ok-sample.sample before at (sym c.in_ok-sample.ensures) in
    record {
      steady = c.in_ok-next_record.ensures.steady c.if-not-branch.false;
      meaning = met c.args.places.now c.args.drawn c.loop-at.at before _ _ _ c.loop-at.invariant.meaning gives ∙ (rw named more)
          ∙ ap (λ (xs : List DrawnRow). rows_before xs rest) (sym c.in_ok-add_line.ensures.rows);
    }

pub returns-then-branch-clause-fault : goal.returns-then-branch-clause-fault
returns-then-branch-clause-fault c =
    let gives = rw c.if-branch.true at c.in_ok-next_record-2.ensures.gives in
    let before = map row_of_line c.loop-at.lines.items in
    let all : c.loop-at.at ≡ most_lines = omega (arith, c.loop-at-test.false, c.loop-at.auto.at-end) in
    λ _. met c.args.places.now c.args.drawn c.loop-at.at before _ _ _ c.loop-at.invariant.meaning gives
    ∙ rows-many c.args.places.now c.args.drawn most_lines c.loop-at.at (fields_of c.next_record-2.new.fields) (unread c.next_record-2.new.reader) before all

pub returns-clause-rows : goal.returns-clause-rows
returns-clause-rows c =
    let gives = rw c.if-branch.false at c.in_ok-next_record-2.ensures.gives in
    let before = map row_of_line c.loop-at.lines.items in
    met c.args.places.now c.args.drawn c.loop-at.at before _ _ _ c.loop-at.invariant.meaning gives ∙ rows-end c.args.places.now c.args.drawn most_lines c.loop-at.at before
