-- One row more is counted.
use Rattle.std.proofs.Common.{◌==◌, arith, get_or, take, ◌∙◌}
use Rattle.std.proofs.lemmas.List.{length-take-le}
use Rattle.std.proofs.lemmas.List.Sums.{count_by-le-length}
use Rattle.rw_import.proofs.Counting.{time-counted}
use Rattle.rw_import.proofs.Spreads.{no_row}
use Rattle.rw_import.proofs.spreading.count_times.Goals as goal

pub count-requires : goal.count-requires
count-requires c =
    let rows = c.args.rows.now in
    let i = c.loop-row.row-index in
    let t = (get_or rows i no_row).time in
    omega (arith, c.loop-row.invariant t, count_by-le-length (λ s. s.time == t) (take i rows), length-take-le i rows (omega arith))

pub loop-row-preserved : goal.loop-row-preserved
loop-row-preserved c t =
    let rows = c.args.rows.now in
    let i = c.loop-row.row-index in
    c.in_ok-count.ensures.counted t
    ∙ time-counted rows i no_row t _ _ c.loop-row-test.true (c.loop-row.invariant (get_or rows i no_row).time) (c.loop-row.invariant t)
