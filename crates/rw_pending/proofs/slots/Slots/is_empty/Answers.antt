use Rattle.std.proofs.Common.{◌≡◌, ℕ, ◌∙◌, ap, arith, refl, sym, true≢false}
use Rattle.rw_pending.specs.Wheel.{all_of}
use Rattle.rw_pending.proofs.Wheels.{none_of_all, slot_none}
use Rattle.rw_pending.proofs.slots.Slots.is_empty.Goals as goal

pub returns-in-Some : goal.returns-in-Some
returns-in-Some g c =
    let at = c.in-Some.field-0 in (
      λ off. absurd (true≢false (sym off)),
      λ none.
          let unmarked = (c.self.invariant.marked at).1 (slot_none c.self.inside.slots.items at (ap (λ l. all_of l) c.self.view_is ∙ none)) in
          let two : ◌≡◌ {A = ℕ} 0 1 = sym unmarked ∙ c.in-Some.ensures.marked.1 in absurd (omega arith),
    )

pub returns-in-None : goal.returns-in-None
returns-in-None g c = (λ on. rw (← c.self.view_is) (none_of_all c.self.inside.slots.items (λ k. (c.self.invariant.marked k).0 (c.in-None.ensures.none k))), λ none. refl)
