-- A run that goes on: where it begins, and what is left of it where it ends.
use Rattle.std.proofs.Common.{◌≡◌, ℕ, true, List, [], ◌∷◌, refl, sym, subst, ◌∙◌, All, IsPermutation, length, replicate, Option, None, IfNone}
use Rattle.std.specs.declared.cmp.Ordering.{Ordering}
use Rattle.std.proofs.lemmas.List.Elements.{All-cons, All-nil}
use Rattle.rw_vt.specs.declared.event.Event.{Event}
use Rattle.rw_vt.specs.declared.model.Model.{Ghosts}
use Rattle.rw_vt.specs.Order.{Has}
use Rattle.rw_vt.specs.Rest.{EndsAs}
use Rattle.rw_vt.specs.System.{System, system, IsReady}
use Rattle.rw_vt.proofs.Rest.{rest_ends, rest_lawful}
use Rattle.rw_vt.proofs.Runs.{IsLawful}
use Rattle.rw_vt.proofs.Sorting.{IsExactOrder, Has-head, Has-tail}
use Rattle.rw_serial.proofs.Lists.{at_list}
use Rattle.rw_serial.proofs.Midrun.{IsMidrun, length-states, midrun_start}

all_of_each : {E : Type 0} {cmp : E → E → Ordering} → IsExactOrder cmp → (P : E → Type 0) (xs : List E) → ((a : E) → Has cmp xs a → P a) → All P xs
all_of_each o P [] h = All-nil P
all_of_each o P (x ∷ xs) h = All-cons P x xs (h x (Has-head o x xs)) (all_of_each o P xs (λ a m. h a (Has-tail o a x xs m)))

-- what is left of a run ends as the run
pub midrun_rest : {S B : Type 0} {y : System S B} {WellFormed : ℕ → S → Type 0} {ss : List S} {js : List (List (Event B))} {P : List (Event B)} → IsMidrun y WellFormed ss js P → EndsAs (record y { starts = ss; initial = P }) y
midrun_rest {y} {js} {P} run = subst (λ l. EndsAs (record y { starts = l; initial = P }) y) (sym run.states_are) (rest_ends y run.law (at_list js) P run.mid)

-- the initial events may be in any order
pub rest_permuted : {S B : Type 0} (y : System S B) {WellFormed : ℕ → S → Type 0} → IsLawful y WellFormed → (P : List (Event B)) → IsPermutation y.initial P → EndsAs (record y { initial = P }) y
rest_permuted y law P moved = midrun_rest (midrun_start y law (replicate (length y.starts) []) P refl moved)

midrun_lawful : {S B : Type 0} {y : System S B} {WellFormed : ℕ → S → Type 0} {ss : List S} {js : List (List (Event B))} {P : List (Event B)} → IsMidrun y WellFormed ss js P → IsLawful (record y { starts = ss; initial = P }) WellFormed
midrun_lawful {y} {WellFormed} {js} {P} run = subst (λ l. IsLawful (record y { starts = l; initial = P }) WellFormed) (sym run.states_are) (rest_lawful y run.law (at_list js) P run.mid)

-- and is ready to go on
pub midrun_ready : {M S B U : Type 0} (model : Ghosts M S B U) (order : B → B → Ordering) (m : M) (starts : List S) (initial : List (Event B)) {ss : List S} {js : List (List (Event B))} {P : List (Event B)} → IsReady model m starts initial
    → IsMidrun (system model order m starts initial) (model.IsWellFormed m) ss js P → IsReady model m ss P
midrun_ready model order m starts initial {ss} {js} {P} ready run =
    let law = midrun_lawful run in
    record {
      enough = length-states run ∙ ready.enough;
      well_formed = law.starts;
      valid = all_of_each law.rules.exact (λ e. model.is_valid m e ≡ true) P law.initial;
    }

-- both, where nothing was pending, and nothing is
pub none_still : {E : Type 0} {next : Option E} {before after : List E} → next ≡ None → IfNone next (before ≡ []) → IfNone next (after ≡ []) → before ≡ after
none_still {before} {after} is h k = subst (λ o. IfNone o (before ≡ [])) is h ∙ sym (subst (λ o. IfNone o (after ≡ [])) is k)
