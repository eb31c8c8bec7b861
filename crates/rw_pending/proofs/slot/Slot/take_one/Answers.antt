use Rattle.std.proofs.Common.{◌<◌, ◌∷◌, ◌∙◌, IsPermutation, ap, get_or, length, subst, sym}
use Rattle.std.proofs.lemmas.List.Sorted.{IsPermutation-swap_remove}
use Rattle.rw_pending.proofs.slot.Slot.take_one.Goals as goal

pub returns-else-is_empty-clause-taken : goal.returns-else-is_empty-clause-taken
returns-else-is_empty-clause-taken g c =
    let xs = c.self.inside.events.items in
    let x = c.swap_remove.result in
    let at = c.in-Some.at in
    let within : at < length xs = subst (λ l. at < length l) c.deref.ensures.value c.in-Some.ensures.found.0 in
    rw (← c.self.view_is) (subst (λ l. IsPermutation xs (x ∷ l)) (sym c.swap_remove.ensures.items) (IsPermutation-swap_remove xs at x within c.swap_remove.ensures.value))

pub returns-else-is_empty-clause-of_time : goal.returns-else-is_empty-clause-of_time
returns-else-is_empty-clause-of_time g c =
    let x = c.swap_remove.result in
    let at = c.in-Some.at in
    ap (λ e. e.time) c.swap_remove.ensures.value ∙ ap (λ l. (get_or l at x).time) (sym c.deref.ensures.value) ∙ c.in-Some.ensures.found.1 x
