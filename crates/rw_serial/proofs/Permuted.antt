-- What comes of a run does not depend on the order in which its initial events are listed.
use Rattle.std.proofs.Common.{◌≡◌, ℕ, zero, suc, true, cond, ◌&&◌, ◌==◌, List, ◌++◌, filter, length, refl, sym, ◌∙◌, ap, arith}
use Rattle.std.specs.List.{sum_by}
use Rattle.std.specs.List.Sorted.{IsPermutation}
use Rattle.std.proofs.lemmas.List.Sorted.{All-permutation}
use Rattle.rw_vt.specs.declared.event.Event.{Event}
use Rattle.rw_vt.specs.declared.model.Model.{Ghosts}
use Rattle.rw_vt.specs.Order.{copies, in_order}
use Rattle.rw_vt.specs.System.{System, Rules, state_after, sends_of, map_from, flatten, all_sent, slice, journal_below, IsOutcome, IsReady, Meets}
use Rattle.rw_vt.proofs.Sorting.{IsExactOrder, IsAscending-in_order, ascending_settled, copies-append, copies-filter, copies-in_order}
use Rattle.rw_pending.proofs.Cited.{copies-IsPermutation}
use Rattle.rw_serial.specs.Counts.{events_below}
use Rattle.rw_serial.proofs.Lists.{map_from_same}

-- the same rules and starts, with these initial events
abbrev with_initial : {S B : Type 0} → Rules S B → List S → List (Event B) → System S B
with_initial rules starts initial = record { rules = rules; starts = starts; initial = initial }

module _ {S B : Type 0} (rules : Rules S B) (o : IsExactOrder rules.order) (starts : List S) (xs ys : List (Event B)) (moved : IsPermutation xs ys) where
  joined : {a b c d : List (Event B)} → a ≡ b → c ≡ d → a ++ c ≡ b ++ d
  joined p q = cc

  same_slices : (t : ℕ) (us vs : List (Event B)) → ((e : Event B) → copies rules.order e us ≡ copies rules.order e vs) → (q : ℕ)
      → slice (with_initial rules starts xs) us t q ≡ slice (with_initial rules starts ys) vs t q
  same_slices t us vs same q =
      let p = λ (e : Event B). (e.time == t) && (e.to == q) in
      ascending_settled o (in_order rules.order (filter p us)) (in_order rules.order (filter p vs)) (IsAscending-in_order o (filter p us)) (IsAscending-in_order o (filter p vs))
      (λ e.
      copies-in_order o e (filter p us) ∙ copies-filter o p e us ∙ ap (λ n. cond (p e) n 0) (same e)
      ∙ sym (copies-in_order o e (filter p vs) ∙ copies-filter o p e vs))

  -- the journals are the same
  pub same_journals : (t q : ℕ) → journal_below (with_initial rules starts xs) t q ≡ journal_below (with_initial rules starts ys) t q
  unfolding journal_below
  same_journals zero q = refl
  same_journals (suc t) q =
      joined (same_journals t q)
      (same_slices t (all_sent (with_initial rules starts xs) (λ p. journal_below (with_initial rules starts xs) t p)) (all_sent (with_initial rules starts ys) (λ p. journal_below (with_initial rules starts ys) t p))
      (λ e.
      let sends = ap (λ l. copies rules.order e (flatten l)) (map_from_same 0 (λ p s. sends_of (rules.step p) s (journal_below (with_initial rules starts xs) t p)) (λ p s. sends_of (rules.step p) s (journal_below (with_initial rules starts ys) t p)) starts (λ i j s m h. ap (sends_of (rules.step j) s) (same_journals t j))) in
      let first = copies-append o e xs (flatten (map_from 0 (λ p s. sends_of (rules.step p) s (journal_below (with_initial rules starts xs) t p)) starts)) in
      let second = copies-append o e ys (flatten (map_from 0 (λ p s. sends_of (rules.step p) s (journal_below (with_initial rules starts ys) t p)) starts)) in
      omega (arith, sends, first, second, copies-IsPermutation rules.order e xs ys moved))
      q)

  -- so is what comes of a run
  pub same_outcome : (t : ℕ) (js : List (List (Event B))) (ss : List S) → IsOutcome (with_initial rules starts ys) t js ss → IsOutcome (with_initial rules starts xs) t js ss
  same_outcome t js ss out = record {
    journals_are = out.journals_are ∙ map_from_same 0 (λ q _. journal_below (with_initial rules starts ys) t q) (λ q _. journal_below (with_initial rules starts xs) t q) starts (λ i j s m h. sym (same_journals t j));
    states_are = out.states_are ∙ map_from_same 0 (λ q s. state_after (rules.step q) s (journal_below (with_initial rules starts ys) t q)) (λ q s. state_after (rules.step q) s (journal_below (with_initial rules starts xs) t q)) starts (λ i j s m h. ap (state_after (rules.step j) s) (sym (same_journals t j)));
  }

  -- and what is met on the way
  pub same_meets : (t : ℕ) (test : S → _) → Meets (with_initial rules starts ys) t test → Meets (with_initial rules starts xs) t test
  same_meets t test met = record {
    process = met.process;
    start = met.start;
    done = met.done;
    next = met.next;
    rest = met.rest;
    starts_there = met.starts_there;
    on_the_way = same_journals t met.process ∙ met.on_the_way;
    passes = met.passes;
  }

  -- and so are as many events
  pub same_events : (t : ℕ) → events_below (with_initial rules starts xs) t ≡ events_below (with_initial rules starts ys) t
  same_events t =
      ap (sum_by length) (map_from_same 0 (λ q _. journal_below (with_initial rules starts xs) t q) (λ q _. journal_below (with_initial rules starts ys) t q) starts (λ i j s m h. same_journals t j))

-- what is ready stays so, in whatever order its initial events are listed
pub ready_permuted : {M S B U : Type 0} (model : Ghosts M S B U) (m : M) (starts : List S) (xs ys : List (Event B)) → IsPermutation xs ys → IsReady model m starts xs → IsReady model m starts ys
ready_permuted model m starts xs ys moved ready = record { enough = ready.enough; well_formed = ready.well_formed; valid = All-permutation (λ e. model.is_valid m e ≡ true) xs ys moved ready.valid }
