-- What is next at several processes: the least of all, and a change of one of them.
use Rattle.std.proofs.Common.{◌≡◌, ◌≢◌, ℕ, ◌+◌, ◌<◌, ◌≤◌, List, [], length, refl, sym, ap, ◌∙◌, subst, arith, inl, inr, Option, Some, None}
use Rattle.std.specs.Prelude.{◌⊎◌, slice_get, slice_index_or, slice_set}
use Rattle.std.specs.declared.cmp.Ordering.{Ordering}
use Rattle.std.proofs.lemmas.Bool.{cases_eq, cases_lt}
use Rattle.std.proofs.lemmas.List.{get_or_past, get_or-set_same, get_or-set_other, set_past}
use Rattle.std.proofs.lemmas.Option.{slice_get_cases, slice_get_read}
use Rattle.rw_vt.specs.declared.event.Event.{Event}
use Rattle.rw_vt.specs.declared.model.Model.{Ghosts}
use Rattle.rw_vt.specs.Order.{event_cmp, AtMost, Each}
use Rattle.rw_vt.proofs.EventOrder.{time_at_most}
use Rattle.rw_vt.proofs.Bags.{Each-nil}
use Rattle.rw_vt.proofs.Sorting.{IsExactOrder, at_most_chain}
use Rattle.rw_vt.specs.System.{rules}
use Rattle.rw_bag.specs.Bags.{IsNextOf}
use Rattle.rw_lp.specs.Calls.{LogicalProcess}
use Rattle.rw_rounds.specs.Processes.{TellsNext}
use Rattle.rw_rounds.specs.Working.{IsNext, HeldBack}
use Rattle.rw_rounds.proofs.ByPlace.{get_within, get_set-same, get_set-other, length_set}

-- One more

module _ {M S B : Type 0} (xs : List (LogicalProcess M S B)) (k : ℕ) (l : LogicalProcess M S B) (there : slice_get xs k ≡ Some l) where
  -- what holds of those before, and of this one
  pub one_more : (P : LogicalProcess M S B → Type 0) → ((place : ℕ) (u : LogicalProcess M S B) → place < k → slice_get xs place ≡ Some u → P u) → P l → (place : ℕ) (u : LogicalProcess M S B) → place < k + 1 → slice_get xs place ≡ Some u → P u
  one_more P before here place u h at = go (cases_eq place k)
    where
      go : (place ≡ k) ⊎ (place ≡ k → ⊥) → P u
      go (inl e) = let same : Some l ≡ Some u = sym there ∙ ap (slice_get xs) (sym e) ∙ at in let is : l ≡ u = cc in subst P is here
      go (inr n) = before place u (omega arith) at

-- what is read at a place stands there, in the same list
pub read_there : {A : Type 0} (xs ys : List A) (place : ℕ) (x : A) → xs ≡ ys → place < length ys → x ≡ slice_index_or xs place x → slice_get ys place ≡ Some x
read_there xs ys place x same within is = ap (λ ls. slice_get ls place) (sym same) ∙ slice_get_read xs (length xs) place x refl (omega (arith, ap length same)) is

-- One changes

module _ {M S B : Type 0} (cmp : Event B → Event B → Ordering) (xs : List (LogicalProcess M S B)) (next : List (Option (Event B))) where
  -- what is next at the one that changed is told
  pub tells_set : TellsNext cmp xs next → (place : ℕ) (z : LogicalProcess M S B) (e : Option (Event B)) → IsNextOf cmp z.process.pending e → TellsNext cmp (slice_set xs place z) (slice_set next place e)
  tells_set tells place z e is = record { at = λ k l within there. go k l within there (cases_eq k place) }
    where
      here : (l : LogicalProcess M S B) → place < length next → (o : Option (LogicalProcess M S B)) → slice_get xs place ≡ o → slice_get (slice_set xs place z) place ≡ Some l → IsNextOf cmp l.process.pending e
      here l within None was there =
          let past : length xs ≤ place = outside (slice_get_cases xs place) in
          let never : None ≡ Some l = sym was ∙ ap (λ us. slice_get us place) (sym (set_past xs place z past)) ∙ there in
          cc
        where
          outside : (slice_get xs place ≡ slice_get xs place) × (((x : LogicalProcess M S B) × (place < length xs) × (slice_get xs place ≡ Some x) × (slice_index_or xs place x ≡ x)) ⊎ ((length xs ≤ place) × (slice_get xs place ≡ None))) → length xs ≤ place
          outside w = inner w.1
            where
              inner : ((x : LogicalProcess M S B) × (place < length xs) × (slice_get xs place ≡ Some x) × (slice_index_or xs place x ≡ x)) ⊎ ((length xs ≤ place) × (slice_get xs place ≡ None)) → length xs ≤ place
              inner (inl x) = let never : None ≡ Some x.0 = sym was ∙ x.2 in cc
              inner (inr y) = y.0
      here l within (Some x) was there =
          let same : Some z ≡ Some l = sym (get_set-same xs place x z was) ∙ there in
          let it : z ≡ l = cc in
          subst (λ u. IsNextOf cmp u.process.pending e) it is

      go : (k : ℕ) (l : LogicalProcess M S B) → k < length (slice_set next place e) → slice_get (slice_set xs place z) k ≡ Some l → (k ≡ place) ⊎ (k ≢ place) → IsNextOf cmp l.process.pending (slice_index_or (slice_set next place e) k None)
      go k l within there (inl eq) =
          let low : place < length next = omega (arith, length_set next place e) in
          let told : slice_index_or (slice_set next place e) k None ≡ e = ap (λ i. slice_index_or (slice_set next place e) i None) eq ∙ get_or-set_same next place e None low in
          subst (IsNextOf cmp l.process.pending) (sym told) (here l low (slice_get xs place) refl (ap (slice_get (slice_set xs place z)) (sym eq) ∙ there))
      go k l within there (inr d) =
          subst (IsNextOf cmp l.process.pending) (sym (get_or-set_other next place k e None d))
          (tells.at k l (omega (arith, length_set next place e)) (sym (get_set-other xs place k z d) ∙ there))

-- nothing is told where there is no place
pub tells_nothing : {M S B : Type 0} (cmp : Event B → Event B → Ordering) (xs : List (LogicalProcess M S B)) (next : List (Option (Event B))) → next ≡ [] → TellsNext cmp xs next
tells_nothing cmp xs next none = record { at = λ place l within there. absurd (omega (arith, ap length none)) }

-- What is told of some

module _ {M S B : Type 0} (cmp : Event B → Event B → Ordering) (xs : List (LogicalProcess M S B)) where
  -- what is told of those before k
  abbrev pub TellsBefore : List (Option (Event B)) → ℕ → Type 0
  TellsBefore next k = (place : ℕ) (l : LogicalProcess M S B) → place < k → slice_get xs place ≡ Some l → IsNextOf cmp l.process.pending (slice_index_or next place None)

  -- one more is told
  pub tells_more : (next : List (Option (Event B))) (k : ℕ) (x : LogicalProcess M S B) (e : Option (Event B)) → slice_get xs k ≡ Some x → k < length next → IsNextOf cmp x.process.pending e → TellsBefore next k → TellsBefore (slice_set next k e) (k + 1)
  tells_more next k x e here within is before place l below there = go (cases_eq place k)
    where
      go : (place ≡ k) ⊎ (place ≢ k) → IsNextOf cmp l.process.pending (slice_index_or (slice_set next k e) place None)
      go (inl eq) =
          let same : Some x ≡ Some l = sym here ∙ ap (slice_get xs) (sym eq) ∙ there in
          let it : x ≡ l = cc in
          let told : slice_index_or (slice_set next k e) place None ≡ e = ap (λ i. slice_index_or (slice_set next k e) i None) eq ∙ get_or-set_same next k e None within in
          subst (IsNextOf cmp l.process.pending) (sym told) (subst (λ u. IsNextOf cmp u.process.pending e) it is)
      go (inr d) = subst (IsNextOf cmp l.process.pending) (sym (get_or-set_other next k place e None d)) (before place l (omega arith) there)

-- The least of all

module _ {M S B U : Type 0} (model : Ghosts M S B U) (order : B → B → Ordering) (m : M) (o : IsExactOrder (event_cmp order)) (xs : List (LogicalProcess M S B)) (next : List (Option (Event B))) (all : length next ≡ length xs) (tells : TellsNext (event_cmp order) xs next) where
  told : (place : ℕ) (l : LogicalProcess M S B) → slice_get xs place ≡ Some l → IsNextOf (event_cmp order) l.process.pending (slice_index_or next place None)
  told place l at = tells.at place l (let w = get_within xs place l at in omega arith) at

  -- no event is told
  pub looked_none : ((place : ℕ) → slice_index_or next place None ≡ None) → (bound : ℕ) → HeldBack (rules model order m) bound xs
  looked_none none bound place l at =
      let nothing : l.process.pending ≡ [] = subst (IsNextOf (event_cmp order) l.process.pending) (none place) (told place l at) in
      subst (Each (event_cmp order) (λ e. bound ≤ e.time)) (sym nothing) (Each-nil o (λ e. bound ≤ e.time))

  module _ (place : ℕ) (event : Event B) (there : slice_index_or next place None ≡ Some event) (least : (other : ℕ) (f : Event B) → slice_index_or next other None ≡ Some f → AtMost (event_cmp order) event f) where
    -- this event is at most all that is pending
    at_most_all : (other : ℕ) (l : LogicalProcess M S B) → slice_get xs other ≡ Some l → Each (event_cmp order) (λ f. AtMost (event_cmp order) event f) l.process.pending
    at_most_all other l at = go (slice_index_or next other None) refl (told other l at)
      where
        go : (e : Option (Event B)) → slice_index_or next other None ≡ e → IsNextOf (event_cmp order) l.process.pending e → Each (event_cmp order) (λ f. AtMost (event_cmp order) event f) l.process.pending
        go None is nothing = subst (Each (event_cmp order) (λ f. AtMost (event_cmp order) event f)) (sym nothing) (Each-nil o (λ f. AtMost (event_cmp order) event f))
        go (Some d) is first = λ f has. at_most_chain o event d f (least other d is) (first.1.1 f has)

    pub looked_late : (bound : ℕ) → bound ≤ event.time → HeldBack (rules model order m) bound xs
    looked_late bound late other l at f has =
        let least_time : event.time ≤ f.time = time_at_most order event f (at_most_all other l at f has) in
        omega arith

    within_next : place < length next
    within_next = go (cases_lt place (length next))
      where
        go : (place < length next) ⊎ (length next ≤ place) → place < length next
        go (inl low) = low
        go (inr high) = let never : None ≡ Some event = sym (get_or_past next place None high) ∙ there in cc

    pub looked_next : (bound : ℕ) → event.time < bound → IsNext (rules model order m) bound xs place
    looked_next bound early = go (slice_get_cases xs place).1
      where
        go : ((x : LogicalProcess M S B) × (place < length xs) × (slice_get xs place ≡ Some x) × (slice_index_or xs place x ≡ x)) ⊎ ((length xs ≤ place) × (slice_get xs place ≡ None)) → IsNext (rules model order m) bound xs place
        go (inl x) =
            let first = subst (IsNextOf (event_cmp order) x.0.process.pending) there (told place x.0 x.2) in
            record {
              within = x.1;
              process = x.0;
              event = event;
              rest = first.0.0;
              there = x.2;
              pending = first.0.1;
              early = early;
              least = at_most_all;
            }
        go (inr y) = let w = within_next in absurd (omega arith)
