use Rattle.std.proofs.Common.{◌+◌, ◌<◌, ◌^◌, List, arith, length, refl, subst, sym}
use Rattle.std.specs.Prelude.{All}
use Rattle.std.specs.Vec.Iter.{into_iter_items}
use Rattle.rw_vt.specs.Order.{AtMost, event_cmp}
use Rattle.rw_vt.specs.System.{map_from}
use Rattle.rw_trace.specs.declared.Row.{Row}
use Rattle.rw_photo.specs.contracts.body.BodyOrd.TheImpl as order
use Rattle.rw_photo.specs.Events.{event_of}
use Rattle.rw_photo.specs.Rows.{AreInOrder}
use Rattle.rw_photo.proofs.OrderedRows.{from_earlier, at_most_rows}
use Rattle.rw_photo.proofs.piece_requests.PieceRequestsSourceBody.next.Goals as goal

pub invariant_of-self-2 : goal.invariant_of-self-2
invariant_of-self-2 c =
    let was = c.self.inside in
    let row = c.in_ok-row.row in
    let rest = into_iter_items c.next.new.self in
    let is = c.in_ok-row.ensures.items in
    let up = subst AreInOrder is c.self.invariant.0 in
    let long = subst (λ (rs : List Row). was.number + length rs < 2 ^ 64) is c.self.invariant.1 in
    (from_earlier 0 row.time rest (omega arith) up.1, omega (arith, long))

pub returns-clause-least : goal.returns-clause-least
returns-clause-least c =
    let row = c.in_ok-row.row in
    let rest = into_iter_items c.next.new.self in
    let n = c.self.inside.number in
    let up = subst AreInOrder c.in_ok-row.ensures.items c.self.invariant.0 in
    subst (λ e. All (AtMost (event_cmp order.ghosts.cmp) e) (map_from (n + 1) event_of rest)) (sym c.event_of-event.ensures)
    (at_most_rows order.ghosts.cmp (event_of n row) (n + 1) rest refl (omega arith) up.1)
