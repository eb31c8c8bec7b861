-- One row more is counted.
use Rattle.std.proofs.Common.{arith, get_or, take, ◌∙◌}
use Rattle.std.proofs.lemmas.List.{length-take-le}
use Rattle.std.proofs.lemmas.List.Sums.{count_by-le-length}
use Rattle.rw_import.specs.Spread.{is_same_request, request_of}
use Rattle.rw_import.proofs.Counting.{request-counted}
use Rattle.rw_import.proofs.Spreads.{no_row}
use Rattle.rw_import.proofs.spreading.count_requests.Goals as goal

pub count-requires : goal.count-requires
count-requires c =
    let rows = c.args.rows.now in
    let i = c.loop-row.row-index in
    let r = get_or rows i no_row in
    omega (arith, c.loop-row.invariant r, count_by-le-length (λ s. is_same_request s r) (take i rows), length-take-le i rows (omega arith))

pub loop-row-preserved : goal.loop-row-preserved
loop-row-preserved c r =
    let rows = c.args.rows.now in
    let i = c.loop-row.row-index in
    c.in_ok-count.ensures.counted (request_of r)
    ∙ request-counted rows i no_row r _ _ c.loop-row-test.true (c.loop-row.invariant (get_or rows i no_row)) (c.loop-row.invariant r)
