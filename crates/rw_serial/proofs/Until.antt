-- A run that goes on to a moment: all that it has executed is before it, and at the end nothing else is.
use Rattle.std.proofs.Common.{◌≡◌, ℕ, ◌<◌, ◌≤◌, List, [], ◌∷◌, ◌++◌, Option, Some, None, IfNone, IfSome, All, sym, ◌∙◌, ap, subst, arith, inl, inr, get_or, length, replicate}
use Rattle.std.specs.List.{slice_set}
use Rattle.std.proofs.lemmas.List.{get_or-set_same, get_or-set_other}
use Rattle.rw_vt.specs.declared.event.Event.{Event}
use Rattle.rw_vt.specs.Moments.{HasReached}
use Rattle.rw_vt.specs.Order.{Has, copies}
use Rattle.rw_vt.specs.System.{System}
use Rattle.rw_vt.proofs.Moments.{midway_reached}
use Rattle.rw_vt.proofs.Sorting.{IsExactOrder, Has-append, Has-cons, each_of_all}
use Rattle.rw_pending.specs.Pending.{Waiting}
use Rattle.rw_serial.proofs.Lists.{at_list}
use Rattle.rw_serial.proofs.Midrun.{IsMidrun, none_at, same_or_other}

-- all that these journals have is before t
abbrev pub AreEarly : {S B : Type 0} → System S B → ℕ → List (List (Event B)) → Type 0
AreEarly {B = B} y t js = (q : ℕ) (a : Event B) → Has y.rules.order (at_list js q) a → a.time < t

pub early_none : {S B : Type 0} (y : System S B) (t n : ℕ) → AreEarly y t (replicate n [])
early_none y t n q a h = let none = ap (copies y.rules.order a) (none_at n q) in absurd (omega arith)

-- an event more that is before t
pub early_entered : {S B : Type 0} (y : System S B) → IsExactOrder y.rules.order → (t : ℕ) (js : List (List (Event B))) (x : Event B) → x.to < length js → x.time < t → AreEarly y t js
    → AreEarly y t (slice_set js x.to (get_or js x.to [] ++ x ∷ []))
early_entered y o t js x there soon early q a h = elim (same_or_other q x.to) [
  | inl e ↦
      let is = ap (at_list (slice_set js x.to (get_or js x.to [] ++ x ∷ []))) e ∙ get_or-set_same js x.to (get_or js x.to [] ++ x ∷ []) [] there in
      elim (Has-append o a (get_or js x.to []) (x ∷ []) (subst (λ l. Has y.rules.order l a) is h)) [
        | inl m ↦ early x.to a m
        | inr m ↦ elim (Has-cons o a x [] m) [ inl k ↦ subst (λ (w : Event _). w.time < t) (sym k) soon | inr k ↦ absurd (omega arith) ]
      ]
  | inr ne ↦ early q a (subst (λ l. Has y.rules.order l a) (get_or-set_other js x.to q (get_or js x.to [] ++ x ∷ []) [] ne) h)
]

-- then the run has reached t
pub midrun_reached : {S B : Type 0} {y : System S B} {WellFormed : ℕ → S → Type 0} {ss : List S} {js : List (List (Event B))} {P : List (Event B)} → IsMidrun y WellFormed ss js P → (t : ℕ) → AreEarly y t js → All (λ e. t ≤ e.time) P
    → HasReached y t ss P
midrun_reached {y} {js} {P} run t early late =
    subst (λ l. HasReached y t l P) (sym run.states_are)
    (midway_reached y run.law t (at_list js) P run.mid (each_of_all run.law.rules.exact (λ e. t ≤ e.time) P late) early)

-- where no event before t is found
pub midrun_reached_to : {S B : Type 0} {y : System S B} {WellFormed : ℕ → S → Type 0} {ss : List S} {js : List (List (Event B))} {next : Option (Event B)} (before after : Waiting B) (t : ℕ) → IsMidrun y WellFormed ss js before.events → AreEarly y t js
    → next ≡ None → IfNone next (All (λ e. t ≤ e.time) before.events × (after ≡ before)) → IsMidrun y WellFormed ss js after.events × HasReached y t ss after.events
midrun_reached_to {y} {WellFormed} {ss} {js} before after t run early is none =
    let found = subst (λ o. IfNone o (All (λ e. t ≤ e.time) before.events × (after ≡ before))) is none in
    subst (λ (w : Waiting _). IsMidrun y WellFormed ss js w.events × HasReached y t ss w.events) (sym found.1) (run, midrun_reached run t early found.0)

-- one that is found is before t
pub found_before : {B : Type 0} {next : Option (Event B)} {x : Event B} (t : ℕ) → next ≡ Some x → IfSome next (λ e. e.time < t) → x.time < t
found_before t is h = subst (λ o. IfSome o (λ e. e.time < t)) is h
