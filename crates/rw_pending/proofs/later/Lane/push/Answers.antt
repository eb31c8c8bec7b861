use Rattle.std.proofs.Common.{◌≡◌, ◌≤◌, ◌++◌, [], ◌∷◌, ◌∙◌, All, ap, arith, min, subst, sym}
use Rattle.rw_pending.specs.Later.{IsLane, IsLeastOr, never}
use Rattle.rw_pending.proofs.ByTime.{lane_push, least_or_append, least_or_one}
use Rattle.rw_pending.proofs.later.Lane.push.Goals as goal
use Rattle.rw_pending.proofs.later.Lane.push.Goals.{then-len-capacity+in_ok-make_room, else-len-capacity}

pub invariant_of-self-2 : goal.invariant_of-self-2
invariant_of-self-2 g c =
    let before = c.self.inside in
    let e = c.args.event.now in
    let room = c.if-len-capacity.self-inside in
    let late = subst (All (λ f. f.time ≤ e.time)) (sym c.self.view_is) c.requires in
    let kept : (room.events.items ≡ before.events.items) × (room.first ≡ before.first) = elim c.if-len-capacity.branch [
      | then-len-capacity+in_ok-make_room w ↦ (ap (λ r. r.events.items) w.self-inside-is ∙ w.make_room.ensures.same, ap (λ r. r.first) w.self-inside-is)
      | else-len-capacity w ↦ (ap (λ r. r.events.items) w.self-inside-is, ap (λ r. r.first) w.self-inside-is)
    ] in
    let items : c.push_back_reserved.new.self.items ≡ before.events.items ++ e ∷ [] = c.push_back_reserved.ensures.items ∙ ap (λ l. l ++ e ∷ []) kept.0 in
    let first : c.min-self-inside.result ≡ min before.first e.time = c.min-self-inside.ensures ∙ ap (λ t. min t e.time) kept.1 in (
      subst (λ l. IsLane l e.time) (sym items) (lane_push before.events.items e late c.self.invariant.0.by_time),
      subst (λ l. IsLeastOr never l c.min-self-inside.result) (sym items) (subst (IsLeastOr never (before.events.items ++ e ∷ [])) (sym first) (least_or_append c.self.invariant.1 (least_or_one e (omega arith)))),
    )
