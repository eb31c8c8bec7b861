-- One row more is looked at.
use Rattle.std.proofs.Common.{◌≡◌, ◌+◌, ℕ, ap, arith, get_or, nat_le, sym, ◌∙◌}
use Rattle.std.proofs.lemmas.Bool.{le-leb, lt-leb}
use Rattle.std.proofs.lemmas.List.Sums.{count_by_more_no, count_by_more_yes}
use Rattle.rw_import.specs.Spread.{rows_like}
use Rattle.rw_import.proofs.Spreads.{no_row}
use Rattle.rw_import.proofs.spreading.crowded.Goals as goal
use Rattle.rw_import.proofs.spreading.crowded.Goals.{then-times_of-ge2, else-times_of-ge2}

pub loop-row-preserved : goal.loop-row-preserved
loop-row-preserved c =
    let rows = c.args.rows.now in
    let i = c.loop-row.row-index in
    let r = get_or rows i no_row in
    let like : c.times_of.result ≡ rows_like rows r = c.times_of.ensures ∙ c.in_ok-counts.ensures r in
    elim c.if-times_of-ge2.branch [
      | then-times_of-ge2 w ↦
          w.crowded-is ∙ ap (λ (n : ℕ). n + 1) c.loop-row.invariant
          ∙ sym (count_by_more_yes (λ q. nat_le 2 (rows_like rows q)) rows i no_row c.loop-row-test.true (le-leb 2 (rows_like rows r) (omega arith)))
      | else-times_of-ge2 w ↦
          w.crowded-is ∙ c.loop-row.invariant
          ∙ sym (count_by_more_no (λ q. nat_le 2 (rows_like rows q)) rows i no_row c.loop-row-test.true (lt-leb 2 (rows_like rows r) (omega arith)))
    ]
