use Rattle.std.proofs.Common.{◌≡◌, ◌+◌, ◌<◌, ◌^◌, ◌++◌, ◌∷◌, List, ap, arith, length, refl, subst, sym, ◌∙◌}
use Rattle.std.specs.Prelude.{All}
use Rattle.rw_vt.specs.Order.{AtMost, event_cmp}
use Rattle.rw_vt.specs.System.{map_from}
use Rattle.rw_trace.specs.declared.Row.{Row}
use Rattle.rw_photo.specs.contracts.body.BodyOrd.TheImpl as order
use Rattle.rw_photo.specs.Events.{event_of}
use Rattle.rw_photo.specs.Rows.{AreInOrder}
use Rattle.rw_photo.proofs.OrderedRows.{from_earlier, at_most_rows, turned}
use Rattle.rw_photo.proofs.ordered_requests.OrderedRequestsSourceBody.next.Goals as goal
use Rattle.rw_photo.proofs.ordered_requests.OrderedRequestsSourceBody.next.Goals.{then-is_empty, else-is_empty}

pub invariant_of-self-2 : goal.invariant_of-self-2
invariant_of-self-2 c =
    let was = c.self.inside in
    let at = c.if-is_empty.self-inside in
    let row = c.in_ok-row.row.now in
    let rest = c.in_ok-row.rows.now ++ at.others.now in
    let whole : at.rows.now ++ at.others.now ≡ was.rows.now ++ was.others.now = elim c.if-is_empty.branch [
      | then-is_empty w ↦ ap (λ i. i.rows.now ++ i.others.now) w.self-inside-is ∙ turned was.rows.now was.others.now w.if-is_empty.ensures
      | else-is_empty w ↦ ap (λ i. i.rows.now ++ i.others.now) w.self-inside-is
    ] in
    let number : at.number ≡ was.number = elim c.if-is_empty.branch [
      | then-is_empty w ↦ ap (λ i. i.number) w.self-inside-is
      | else-is_empty w ↦ ap (λ i. i.number) w.self-inside-is
    ] in
    let is : was.rows.now ++ was.others.now ≡ row ∷ rest = sym whole ∙ ap (λ rs. rs ++ at.others.now) c.in_ok-row.ensures.cases.0 in
    let up = subst AreInOrder is c.self.invariant.0 in
    let long = subst (λ (rs : List Row). was.number + length rs < 2 ^ 64) is c.self.invariant.1 in
    (from_earlier 0 row.time rest (omega arith) up.1, omega (arith, long, number))

pub returns-clause-least : goal.returns-clause-least
returns-clause-least c =
    let was = c.self.inside in
    let at = c.if-is_empty.self-inside in
    let row = c.in_ok-row.row.now in
    let rest = c.in_ok-row.rows.now ++ at.others.now in
    let n = at.number in
    let whole : at.rows.now ++ at.others.now ≡ was.rows.now ++ was.others.now = elim c.if-is_empty.branch [
      | then-is_empty w ↦ ap (λ i. i.rows.now ++ i.others.now) w.self-inside-is ∙ turned was.rows.now was.others.now w.if-is_empty.ensures
      | else-is_empty w ↦ ap (λ i. i.rows.now ++ i.others.now) w.self-inside-is
    ] in
    let is : was.rows.now ++ was.others.now ≡ row ∷ rest = sym whole ∙ ap (λ rs. rs ++ at.others.now) c.in_ok-row.ensures.cases.0 in
    let up = subst AreInOrder is c.self.invariant.0 in
    subst (λ e. All (AtMost (event_cmp order.ghosts.cmp) e) (map_from (n + 1) event_of rest)) (sym c.event_of-event.ensures)
    (at_most_rows order.ghosts.cmp (event_of n row) (n + 1) rest refl (omega arith) up.1)
