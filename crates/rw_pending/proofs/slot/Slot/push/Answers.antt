use Rattle.std.proofs.Common.{◌≡◌, ◌++◌, [], ◌∷◌, ◌∙◌, ap, arith, min, subst, sym}
use Rattle.rw_pending.specs.Later.{IsLeastOr, never}
use Rattle.rw_pending.proofs.ByTime.{least_or_append, least_or_one}
use Rattle.rw_pending.proofs.slot.Slot.push.Goals as goal
use Rattle.rw_pending.proofs.slot.Slot.push.Goals.{then-len-capacity+in_ok-make_room, else-len-capacity}

pub invariant_of-self-2 : goal.invariant_of-self-2
invariant_of-self-2 g c =
    let before = c.self.inside in
    let e = c.args.event.now in
    let room = c.if-len-capacity.self-inside in
    let kept : (room.events.items ≡ before.events.items) × (room.least ≡ before.least) = elim c.if-len-capacity.branch [
      | then-len-capacity+in_ok-make_room w ↦ (ap (λ r. r.events.items) w.self-inside-is ∙ w.make_room.ensures.same, ap (λ r. r.least) w.self-inside-is)
      | else-len-capacity w ↦ (ap (λ r. r.events.items) w.self-inside-is, ap (λ r. r.least) w.self-inside-is)
    ] in
    let items : c.push_reserved.new.self.items ≡ before.events.items ++ e ∷ [] = c.push_reserved.ensures.items ∙ ap (λ l. l ++ e ∷ []) kept.0 in
    let least : c.min-self-inside.result ≡ min before.least e.time = c.min-self-inside.ensures ∙ ap (λ t. min t e.time) kept.1 in
    subst (λ l. IsLeastOr never l c.min-self-inside.result) (sym items) (subst (IsLeastOr never (before.events.items ++ e ∷ [])) (sym least) (least_or_append c.self.invariant (least_or_one e (omega arith))))
