-- From what a loop did with all processes, one after another, to a collection.
use Rattle.std.proofs.Common.{◌≡◌, ℕ, ◌+◌, ◌-◌, ◌<◌, ◌≤◌, max, true, List, [], ◌∷◌, ◌++◌, length, map, take, drop, get_or, refl, sym, ap, ◌∙◌, subst, arith, append-nil, length-append, length-drop, Option, Some, None}
use Rattle.std.specs.Prelude.{slice_get, nat_le}
use Rattle.std.specs.Option.{option_map}
use Rattle.std.specs.declared.cmp.Ordering.{Ordering}
use Rattle.std.proofs.lemmas.Bool.{le-leb}
use Rattle.std.proofs.lemmas.List.{length-map, length-take-le, take_all, drop_all, get_or-append_right, get_or-drop}
use Rattle.std.proofs.lemmas.Option.{slice_get-map, slice_get_read}
use Rattle.rw_vt.specs.declared.model.Model.{Ghosts}
use Rattle.rw_vt.specs.Order.{event_cmp, Each}
use Rattle.rw_vt.proofs.Laws.{Laws}
use Rattle.rw_lp.specs.declared.answer.Answer.TheVariants.{Done}
use Rattle.rw_lp.specs.Process as process
use Rattle.rw_lp.specs.Calls.{LogicalProcess}
use Rattle.rw_world.specs.declared.parts.Parts.{Parts}
use Rattle.rw_world.specs.declared.step.Step.TheVariants.{Collect}
use Rattle.rw_world.specs.WorldState.{WorldState, floor}
use Rattle.rw_world.specs.Steps.{collect_to}
use Rattle.rw_world.specs.Sound.{IsQuiet, list_at}
use Rattle.rw_world.specs.Calls.{after_collecting, system_of, with_world, world_of, simulation_of, AreNumbered, IsWhole, Made}
use Rattle.rw_world.proofs.Wholes.{law_of}
use Rattle.rw_world.proofs.Outstanding.{quiet_to_floor}

-- the processes of which the first k have collected
abbrev pub collected_to : {M S B : Type 0} → ℕ → ℕ → List (LogicalProcess M S B) → List (LogicalProcess M S B)
collected_to t k xs = map (after_collecting t) (take k xs) ++ drop k xs

pub length-collected_to : {M S B : Type 0} (t k : ℕ) (xs : List (LogicalProcess M S B)) → k ≤ length xs → length (collected_to t k xs) ≡ length xs
length-collected_to t k xs h =
    let a : length (take k xs) ≡ k = length-take-le k xs h in
    omega (arith, length-append (map (after_collecting t) (take k xs)) (drop k xs), length-map (take k xs) (after_collecting t), length-drop k xs, a)

-- the next one has not collected yet
pub next_is : {M S B : Type 0} (t k : ℕ) (xs : List (LogicalProcess M S B)) (l : LogicalProcess M S B) → k < length xs → l ≡ get_or (collected_to t k xs) k l → slice_get xs k ≡ Some l
next_is t k xs l h is =
    let a : length (map (after_collecting t) (take k xs)) ≡ k = length-map (take k xs) (after_collecting t) ∙ length-take-le k xs (omega arith) in
    let z : k - k ≡ 0 = omega arith in
    let n : k + 0 ≡ k = omega arith in
    slice_get_read xs (length xs) k l refl h (is ∙ get_or-append_right (map (after_collecting t) (take k xs)) (drop k xs) k k l a (omega arith) ∙ ap (λ i. get_or (drop k xs) i l) z ∙ get_or-drop k xs 0 l ∙ ap (λ i. get_or xs i l) n)

-- all have collected
pub collected_all : {M S B : Type 0} (t k : ℕ) (xs : List (LogicalProcess M S B)) → length xs ≤ k → collected_to t k xs ≡ map (after_collecting t) xs
collected_all t k xs h =
    ap (λ l. map (after_collecting t) l ++ drop k xs) (take_all k xs h)
    ∙ ap (λ l. map (after_collecting t) xs ++ l) (drop_all k xs h)
    ∙ append-nil (map (after_collecting t) xs)

same_processes : {M S B : Type 0} (t : ℕ) (xs : List (LogicalProcess M S B)) → map (λ l. l.process) (map (after_collecting t) xs) ≡ map (process.collect t) (map (λ l. l.process) xs)
same_processes t [] = refl
same_processes t (x ∷ xs) = ap (λ l. process.collect t x.process ∷ l) (same_processes t xs)

numbered_all : {M S B : Type 0} (t : ℕ) (m : M) (xs : List (LogicalProcess M S B)) → AreNumbered m xs → AreNumbered m (map (after_collecting t) xs)
numbered_all {M} {S} {B} t m xs known q l at = go (slice_get xs q) refl (sym (slice_get-map (after_collecting t) xs q) ∙ at)
  where
    go : (o : Option (LogicalProcess M S B)) → slice_get xs q ≡ o → option_map (after_collecting t) o ≡ Some l → (l.model ≡ m) × (l.number ≡ q)
    go None h k = cc
    go (Some x) h k =
        let is : after_collecting t x ≡ l = cc in
        let was = known q x h in
        (sym (ap (λ a. a.model) is) ∙ was.0, sym (ap (λ a. a.number) is) ∙ was.1)

module _ {M S B U : Type 0} {model : Ghosts M S B U} {order : B → B → Ordering} (x : Parts M S B U) (whole : IsWhole model order x) (t : ℕ) where
  -- at each process nothing is pending or owed before the floor
  pub none_early : Laws model order → t ≤ floor (world_of x) → (k : ℕ) (l : LogicalProcess M S B) → slice_get x.processes.items k ≡ Some l → Each (event_cmp order) (λ e. t ≤ e.time) l.process.pending × Each (event_cmp order) (λ e. t ≤ e.time) l.process.debts
  none_early laws h k l at =
      let y = system_of model order (simulation_of x) in
      let quiet : IsQuiet y t (world_of x) = quiet_to_floor y (law_of laws (simulation_of x) whole.ready) t (world_of x) h in
      let there : slice_get (world_of x).processes k ≡ Some l.process = slice_get-map (λ a. a.process) x.processes.items k ∙ ap (option_map (λ a. a.process)) at in
      (subst (λ o. Each (event_cmp order) (λ e. t ≤ e.time) (list_at (λ u. u.pending) o)) there (quiet.pending k), subst (λ o. Each (event_cmp order) (λ e. t ≤ e.time) (list_at (λ u. u.debts) o)) there (quiet.debts k))

  pub made_collect : (z : Parts M S B U) → z.model ≡ x.model → z.starts ≡ x.starts → z.initial ≡ x.initial → z.letters ≡ x.letters → z.collected ≡ max x.collected t → z.processes.items ≡ map (after_collecting t) x.processes.items → t ≤ floor (world_of x) → Made model order x z (Collect t) Done
  made_collect z same_model same_starts same_initial same_letters later all h =
      let now : WorldState S B = record { processes = map (process.collect t) (world_of x).processes; letters = x.letters.items; collected = max x.collected t } in
      let test : nat_le t (floor (world_of x)) ≡ true = le-leb t (floor (world_of x)) h in
      let processes_are : map (λ l. l.process) z.processes.items ≡ map (process.collect t) (world_of x).processes = ap (map (λ l. l.process)) all ∙ same_processes t x.processes.items in
      let world_is : world_of z ≡ now = rw (processes_are, same_letters, later) refl in
      let made : collect_to (world_of x) t ≡ (now, Done) = rw test refl in
      record {
        world = rw (same_model, same_starts, same_initial, world_is) (ap (λ r. with_world (simulation_of x) r.0) (sym made));
        answered = sym (ap (λ r. r.1) made);
        numbered = subst (λ m. AreNumbered m z.processes.items) (sym same_model) (subst (AreNumbered x.model) (sym all) (numbered_all t x.model x.processes.items whole.numbered));
      }
