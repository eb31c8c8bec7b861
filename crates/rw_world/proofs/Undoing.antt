-- What the undoing of a process's last processed event leaves as it is, and that it comes to an end.
use Rattle.std.proofs.Common.{◌≡◌, ℕ, ◌+◌, ◌<◌, ◌≤◌, true, false, List, [], ◌∷◌, ◌++◌, length, length-append, refl, sym, ap, ◌∙◌, subst, arith, Option, Some, None, inl, inr}
use Rattle.std.specs.Prelude.{◌==◌, ◌⊎◌, slice_get, slice_set, slice_index_or}
use Rattle.std.specs.Option.{option_map}
use Rattle.std.specs.declared.cmp.Ordering.{Ordering}
use Rattle.std.proofs.lemmas.Bool.{cases_eq}
use Rattle.std.proofs.lemmas.Bool.Decides.{nat_tests}
use Rattle.std.proofs.lemmas.List.{length-map, length-set}
use Rattle.std.proofs.lemmas.Option.{same_Some, slice_get-map, slice_get_read, slice_get_within}
use Rattle.rw_vt.specs.declared.event.Event.{Event}
use Rattle.rw_vt.specs.declared.event.Letter.{Letter}
use Rattle.rw_vt.specs.declared.model.Model.{Ghosts}
use Rattle.rw_vt.specs.System.{Rules}
use Rattle.rw_lp.specs.declared.answer.Answer.{Answer}
use Rattle.rw_lp.specs.Calls.{LogicalProcess}
use Rattle.rw_lp.specs.Process.{ProcessState, Turn, Turned, Stays, split_last, after_undoing, undo_last, undo_one}
use Rattle.rw_lp.proofs.Splits.{IsSplit, split_is}
use Rattle.rw_world.specs.declared.parts.Parts.{Parts}
use Rattle.rw_world.specs.declared.step.Step.TheVariants.{Undo}
use Rattle.rw_world.specs.WorldState.{WorldState}
use Rattle.rw_world.specs.Steps.{world_after, turn_at}
use Rattle.rw_world.specs.Sound.{list_at}
use Rattle.rw_world.specs.Calls.{Simulation, Made, system_of, simulation_of, world_of}
use Rattle.rw_world.specs.Leaving.{AreOfOneRun, HasNothingProcessed, KeepsOthersUndone}
use Rattle.rw_world.proofs.Lookups.{get-set_same, get-set_other}

-- a world in which at most process p has changed, and letters
record IsSameButAt {S B : Type 0} (p : ℕ) (w v : WorldState S B) : Type 0 where
  collected : v.collected ≡ w.collected
  count : length v.processes ≡ length w.processes
  others : (q : ℕ) → (q ≡ p → ⊥) → slice_get v.processes q ≡ slice_get w.processes q

after_turn : {S B : Type 0} (w : WorldState S B) (p : ℕ) (ls : List (Letter B)) (t : Turn S B) → IsSameButAt p w (world_after w p ls t).0
after_turn w p ls (Stays fault) = record { collected = refl; count = refl; others = λ q ne. refl }
after_turn w p ls (Turned x out) = record { collected = refl; count = length-set w.processes p x; others = λ q ne. get-set_other w.processes p q x ne }

turned : {S B : Type 0} (w : WorldState S B) (p : ℕ) (f : ProcessState S B → Turn S B) (o : Option (ProcessState S B)) → IsSameButAt p w (turn_at w p f o).0
turned w p f None = record { collected = refl; count = refl; others = λ q ne. refl }
turned w p f (Some x) = after_turn w p w.letters (f x)

-- how many events are processed at process p
abbrev pub processed_at : {S B : Type 0} → List (ProcessState S B) → ℕ → ℕ
processed_at ps p = length (list_at (λ x. x.processed) (slice_get ps p))

fewer : {S B : Type 0} (y : Rules S B) (w : WorldState S B) (p : ℕ) (x : ProcessState S B) → slice_get w.processes p ≡ Some x → 0 < length x.processed
    → processed_at (turn_at w p (undo_one y p) (Some x)).0.processes p < length x.processed
fewer {S} {B} y w p x there some = go (split_last x.processed) (split_is x.processed)
  where
    go : (r : Option (List (Event B) × Event B)) → IsSplit x.processed r → processed_at (world_after w p w.letters (undo_last y p x r)).0.processes p < length x.processed
    go None is = absurd (let none = ap length is in omega arith)
    go (Some r) is =
        let z : ProcessState S B = after_undoing y p x r.0 r.1 x.held in
        let now : length (list_at (λ u. u.processed) (slice_get (slice_set w.processes p z) p)) ≡ length r.0 = ap (λ o. length (list_at (λ u. u.processed) o)) (get-set_same w.processes p x z there) in
        let before : length x.processed ≡ length (r.0 ++ r.1 ∷ []) = ap length is in
        let sum = length-append r.0 (r.1 ∷ []) in
        omega (arith, now, before, sum)

pub one_run_itself : {M S B U : Type 0} (x : Parts M S B U) → AreOfOneRun x x
one_run_itself x = record { model = refl; starts = refl; initial = refl; collected = refl; count = refl }

pub one_run_chain : {M S B U : Type 0} (x y z : Parts M S B U) → AreOfOneRun x y → AreOfOneRun y z → AreOfOneRun x z
one_run_chain x y z a b = record { model = b.model ∙ a.model; starts = b.starts ∙ a.starts; initial = b.initial ∙ a.initial; collected = b.collected ∙ a.collected; count = b.count ∙ a.count }

-- where process p was to undo
module _ {M S B U : Type 0} (model : Ghosts M S B U) (order : B → B → Ordering) (x z : Parts M S B U) (p : ℕ) (answer : Answer) (made : Made model order x z (Undo p) answer) where
  abbrev its : Rules S B
  its = (system_of model order (simulation_of x)).rules

  world_is : world_of z ≡ (turn_at (world_of x) p (undo_one its p) (slice_get (world_of x).processes p)).0
  world_is = ap (λ (s : Simulation M S B). s.world) made.world

  stays : IsSameButAt p (world_of x) (world_of z)
  stays = subst (IsSameButAt p (world_of x)) (sym world_is) (turned (world_of x) p (undo_one its p) (slice_get (world_of x).processes p))

  pub undo_one_run : AreOfOneRun x z
  undo_one_run = record {
    model = ap (λ (s : Simulation M S B). s.model) made.world;
    starts = ap (λ (s : Simulation M S B). s.starts) made.world;
    initial = ap (λ (s : Simulation M S B). s.initial) made.world;
    collected = stays.collected;
    count = sym (length-map z.processes.items (λ l. l.process)) ∙ stays.count ∙ length-map x.processes.items (λ l. l.process);
  }

  pub undo_keeps : KeepsOthersUndone p x z
  undo_keeps = λ q ne none u at. none u (sym (stays.others q ne) ∙ at)

  pub undo_fewer : (u : ProcessState S B) → slice_get (world_of x).processes p ≡ Some u → 0 < length u.processed → processed_at (world_of z).processes p < processed_at (world_of x).processes p
  undo_fewer u there some =
      let now = ap (λ (w : WorldState S B). processed_at w.processes p) (world_is ∙ ap (λ o. (turn_at (world_of x) p (undo_one its p) o).0) there) in
      let before = ap (λ o. length (list_at (λ u. u.processed) o)) there in
      omega (arith, now, before, fewer its (world_of x) p u there some)

some_length : {A : Type 0} (xs : List A) → (length xs == 0) ≡ false → 0 < length xs
some_length [] h = cc
some_length (x ∷ xs) h = omega arith

pub zero_test : (n : ℕ) → (n == 0) ≡ true → n ≡ 0
zero_test n h = grind (arith, nat_tests)

none_length : {A : Type 0} (xs : List A) → (length xs == 0) ≡ true → xs ≡ []
none_length [] h = refl
none_length (x ∷ xs) h = let zero = zero_test (length (x ∷ xs)) h in absurd (omega arith)

-- process p, as it stands in the parts
module _ {M S B U : Type 0} (x : Parts M S B U) (p : ℕ) (l : LogicalProcess M S B) (inside : p < length x.processes.items) (read : l ≡ slice_index_or x.processes.items p l) (its : List (Event B)) (its_are : its ≡ l.process.processed) where
  pub stands_at : slice_get (world_of x).processes p ≡ Some l.process
  stands_at = slice_get-map (λ l. l.process) x.processes.items p ∙ ap (option_map (λ l. l.process)) (slice_get_read x.processes.items (length x.processes.items) p l refl inside read)

  pub some_left : (length its == 0) ≡ false → 0 < length l.process.processed
  some_left h = subst (λ es. 0 < length es) its_are (some_length its h)

  pub none_left : (length its == 0) ≡ true → HasNothingProcessed p x
  none_left h u at = ap (λ u. u.processed) (same_Some u l.process (sym at ∙ stands_at)) ∙ sym its_are ∙ none_length its h

-- where process n has nothing processed left either, none up to it has
pub none_more : {M S B U : Type 0} (x z : Parts M S B U) (n : ℕ) → ((p : ℕ) → p < n → HasNothingProcessed p x) → KeepsOthersUndone n x z → HasNothingProcessed n z → (p : ℕ) → p < n + 1 → HasNothingProcessed p z
none_more x z n before others here p h = go (cases_eq p n)
  where
    go : (p ≡ n) ⊎ (p ≡ n → ⊥) → HasNothingProcessed p z
    go (inl e) = subst (λ q. HasNothingProcessed q z) (sym e) here
    go (inr ne) = others p ne (before p (omega arith))

-- what holds of each process that is there holds at each number
pub none_at_all : {M S B U : Type 0} (x : Parts M S B U) (n : ℕ) → length x.processes.items ≤ n → ((p : ℕ) → p < n → HasNothingProcessed p x) → (p : ℕ) → HasNothingProcessed p x
none_at_all x n all known p u at = known p (omega (arith, all, slice_get_within (world_of x).processes p u at, length-map x.processes.items (λ l. l.process))) u at
