use Rattle.std.proofs.Common.{◌+◌, ◌≤◌, ◌^◌, ◌++◌, [], append-nil, arith, length, length-append, subst, sym}
use Rattle.rw_photo.specs.Rows.{AreInOrderFrom}
use Rattle.rw_photo.proofs.ValidRows.{valid-rows}
use Rattle.rw_photo.proofs.ordered_requests.OrderedRequests.of_parts.Goals as goal

pub returns-in_default-latest_in_order-clause-none : goal.returns-in_default-latest_in_order-clause-none
returns-in_default-latest_in_order-clause-none c order =
    let others = c.args.others.now in
    c.in_default-latest_in_order.ensures.none [] (subst (AreInOrderFrom c.in-Some.latest) (sym (append-nil others)) ((c.in-Some.ensures.some others).0 order))

pub invariant_of-result : goal.invariant_of-result
invariant_of-result c =
    let rows = c.args.rows.now in
    let others = c.args.others.now in
    let behind = subst (AreInOrderFrom c.in-Some.latest) (append-nil others) ((c.in-Some-latest_in_order.ensures.some []).1 tt) in
    let few = c.requires.few in
    ((c.in-Some.ensures.some others).1 behind, omega (arith, few, length-append rows others))

pub returns-clause-valid : goal.returns-clause-valid
returns-clause-valid c =
    let rows = c.args.rows.now in
    let others = c.args.others.now in
    let few = c.requires.few in
    let all : 0 + length (rows ++ others) ≤ 2 ^ 64 = omega (arith, few, length-append rows others) in
    λ config ranges. valid-rows config 0 (rows ++ others) all ranges
