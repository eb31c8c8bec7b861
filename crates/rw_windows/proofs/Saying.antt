-- How far a worker says that it has come, and that nothing is to be handed over then.
use Prim.Native.Nat.{min, max}
use Rattle.std.proofs.Common.{◌≡◌, ◌≢◌, ℕ, ◌+◌, ◌<◌, ◌≤◌, List, [], length, sym, ◌∙◌, ap, subst, arith, inl, inr, Option, Some, None}
use Rattle.std.proofs.lemmas.Bool.{cases_eq, cases_lt}
use Rattle.std.proofs.lemmas.List.{get_or-set_same, get_or-set_other, get_or_past}
use Rattle.std.proofs.lemmas.List.Elements.{All-nil}
use Rattle.std.specs.declared.cmp.Ordering.{Ordering}
use Rattle.std.specs.List.{All}
use Rattle.std.specs.Option.{unwrap_or}
use Rattle.std.specs.Prelude.{slice_set}
use Rattle.rw_vt.specs.declared.event.Event.{Event}
use Rattle.rw_vt.specs.declared.model.Model.{Ghosts}
use Rattle.rw_pending.specs.Later.{IsLeastTime}
use Rattle.rw_windows.specs.Working.{ShareState, IsAtWork, HandedOver, outbox_to}
use Rattle.rw_windows.proofs.Workers.{at_times}

-- none of these events is before the least time, or before whatever time where there is none
least_before : {B : Type 0} (events : List (Event B)) (t : Option ℕ) (d : ℕ) → IsLeastTime events t → All (λ a. unwrap_or t d ≤ a.time) events
least_before events (Some t) d h = h.0
least_before events None d h = subst (All (λ a. d ≤ a.time)) (sym h) (All-nil (λ a. d ≤ a.time))

module _ {M S B : Type 0} where
  -- after one worker more nothing is to be handed over to those before the next
  pub handed_next : (x y : ShareState M S B) (to : ℕ) → to < length x.outbox → ((v : ℕ) → v < to → outbox_to x v ≡ []) → y.outbox ≡ slice_set x.outbox to [] → (v : ℕ) → v < to + 1 → outbox_to y v ≡ []
  handed_next x y to within before set v h = elim (cases_eq v to) [
    | inl e ↦ ap (outbox_to y) e ∙ ap (λ l. outbox_to (record y { outbox = l }) to) set ∙ get_or-set_same x.outbox to [] [] within
    | inr ne ↦ ap (λ l. outbox_to (record y { outbox = l }) v) set ∙ get_or-set_other x.outbox to v [] [] ne ∙ before v (below ne)
  ]
    where
      below : v ≢ to → v < to
      below ne = omega (arith, h, ne)

  pub handed_own : (x : ShareState M S B) (to : ℕ) → ((v : ℕ) → v < to → outbox_to x v ≡ []) → outbox_to x to ≡ [] → (v : ℕ) → v < to + 1 → outbox_to x v ≡ []
  handed_own x to before own v h = elim (cases_eq v to) [
    | inl e ↦ ap (outbox_to x) e ∙ own
    | inr ne ↦ before v (below ne)
  ]
    where
      below : v ≢ to → v < to
      below ne = omega (arith, h, ne)

  pub handed_all : (x : ShareState M S B) (to : ℕ) → length x.outbox ≤ to → ((v : ℕ) → v < to → outbox_to x v ≡ []) → HandedOver x
  handed_all x to all before v = elim (cases_lt v to) [
    | inl h ↦ before v h
    | inr h ↦ get_or_past x.outbox v [] (omega (arith, all, h))
  ]

-- a worker at work that says no less than before
sending_at_work : {M S B U : Type 0} {model : Ghosts M S B U} {order : B → B → Ordering} (m : M) (x : ShareState M S B) → IsAtWork model order m x
    → (t : ℕ) → x.bound_out ≤ t → All (λ a. t ≤ a.time + x.lookahead) x.waiting → t ≤ x.bound_in + x.lookahead → IsAtWork model order m (record x { bound_out = t })
sending_at_work m x work t more far hears =
    at_times m x work x.until x.bound_in t (omega arith) (record {
      until = (work.times.until.0, omega (arith, work.times.until.1, more), work.times.until.2);
      reached = work.times.reached;
      bound_in = work.times.bound_in;
      told = λ v o. let s = work.times.told v o in omega (arith, s, more);
      far = far;
      hears = hears;
      outbox = work.times.outbox;
    })

-- what it says: no less than before, and so far ahead of all that waits or is heard
pub next_sending : {M S B U : Type 0} {model : Ghosts M S B U} {order : B → B → Ordering} (m : M) (x : ShareState M S B) → IsAtWork model order m x
    → (least : Option ℕ) (d n s t : ℕ) → IsLeastTime x.waiting least → n ≡ min (unwrap_or least d) x.bound_in → s ≡ min (n + x.lookahead) d → t ≡ max x.bound_out s
    → IsAtWork model order m (record x { bound_out = t })
next_sending m x work least d n s t is_least n_is s_is t_is =
    sending_at_work m x work t (omega (arith, t_is))
    (λ k e h. let low = least_before x.waiting least d is_least k e h in let far = work.times.far k e h in omega (arith, t_is, s_is, n_is, low, far))
    (let hears = work.times.hears in omega (arith, t_is, s_is, n_is, hears))
