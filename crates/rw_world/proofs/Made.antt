-- From what a body did with one process to the step that it made.
use Rattle.std.proofs.Common.{◌≡◌, ℕ, zero, suc, ◌<◌, ◌≤◌, List, [], ◌∷◌, ◌++◌, length, map, take, drop, refl, sym, ap, ◌∙◌, subst, arith, append-nil, inl, inr, Some, None}
use Rattle.std.specs.Prelude.{◌⊎◌, slice_get, slice_set}
use Rattle.std.specs.Option.{option_map}
use Rattle.std.specs.declared.cmp.Ordering.{Ordering}
use Rattle.std.proofs.lemmas.Bool.{cases_eq}
use Rattle.std.proofs.lemmas.List.{map-set, length-map}
use Rattle.std.proofs.lemmas.Option.{slice_get-map, slice_get_past}
use Rattle.rw_vt.specs.declared.event.Letter.{Letter}
use Rattle.rw_vt.specs.declared.model.Model.{Ghosts}
use Rattle.rw_vt.specs.Order.{event_cmp}
use Rattle.rw_vt.specs.System.{Rules, System, rules}
use Rattle.rw_lp.specs.declared.answer.Answer.{Answer}
use Rattle.rw_lp.specs.declared.answer.Answer.TheVariants.{Done, Refused}
use Rattle.rw_lp.specs.declared.answer.StepFault.{StepFault}
use Rattle.rw_lp.specs.declared.answer.StepFault.TheVariants.{NoSuchProcess, NoSuchLetter}
use Rattle.rw_lp.specs.Process as process
use Rattle.rw_lp.specs.declared.way.Way.{Way}
use Rattle.rw_lp.specs.declared.way.Way.TheVariants.{Aggressive, Lazy}
use Rattle.rw_lp.specs.Arrival.{undo_by}
use Rattle.rw_lp.specs.Process.{ProcessState, Turn, Turned, Stays, execute_next}
use Rattle.rw_lp.specs.Calls.{LogicalProcess, MeetsNext, Took}
use Rattle.rw_world.specs.declared.parts.Parts.{Parts}
use Rattle.rw_world.specs.declared.step.Step.{Step}
use Rattle.rw_world.specs.declared.step.Step.TheVariants.{Execute, Deliver}
use Rattle.rw_world.specs.WorldState.{WorldState}
use Rattle.rw_world.specs.Steps.{refusal, world_after, turn_at, remove_at, deliver_to, deliver_letter, undoing, apply}
use Rattle.rw_world.specs.Calls.{system_of, with_world, world_of, simulation_of, AreNumbered, IsWhole, Made, ExecutesAt}
use Rattle.rw_world.proofs.Lookups.{get-set_same, get-set_other, set_there}

-- a list without the one at a place, in two parts
pub remove_at_is : {A : Type 0} (xs : List A) (i : ℕ) → take i xs ++ drop (suc i) xs ≡ remove_at xs i
remove_at_is [] zero = refl
remove_at_is [] (suc i) = refl
remove_at_is (x ∷ xs) zero = refl
remove_at_is (x ∷ xs) (suc i) = ap (λ l. x ∷ l) (remove_at_is xs i)

-- what was appended stays
pub remove_at-append : {A : Type 0} (xs more : List A) (i : ℕ) → i < length xs → remove_at (xs ++ more) i ≡ remove_at xs i ++ more
remove_at-append [] more i h = absurd (omega arith)
remove_at-append (x ∷ xs) more zero h = refl
remove_at-append (x ∷ xs) more (suc i) h = ap (λ l. x ∷ l) (remove_at-append xs more i (omega arith))

module _ {S B : Type 0} (w : WorldState S B) (p : ℕ) (u v : ProcessState S B) (answer : Answer) (at : slice_get w.processes p ≡ Some u) where
  -- the world after process p took a turn, by what the process did
  pub turned_is : (given : List (Letter B)) (t : Turn S B) → Took u v answer given t → world_after w p w.letters t ≡ (record { processes = slice_set w.processes p v; letters = w.letters ++ given; collected = w.collected }, answer)
  turned_is given (Turned after out) k = rw (k.0, k.1, k.2) refl
  turned_is given (Stays f) k = let same = set_there w.processes p u at in rw (k.0, k.1, k.2, same, append-nil w.letters) refl

  -- the same where a letter was taken up
  pub delivered_is : (left given : List (Letter B)) (t : Turn S B) → answer ≡ Done → Took u v answer given t → world_after w p left t ≡ (record { processes = slice_set w.processes p v; letters = left ++ given; collected = w.collected }, answer)
  delivered_is left given (Turned after out) done k = rw (k.0, k.1, k.2) refl
  delivered_is left given (Stays f) done k = let never : Done ≡ Refused f = sym done ∙ k.1 in cc

  -- where it was refused, nothing was given out
  pub undelivered_is : (left given : List (Letter B)) (t : Turn S B) → (answer ≡ Done → ⊥) → Took u v answer given t → world_after w p left t ≡ (record { processes = slice_set w.processes p v; letters = w.letters ++ given; collected = w.collected }, answer)
  undelivered_is left given (Turned after out) not_done k = absurd (not_done k.1)
  undelivered_is left given (Stays f) not_done k = let same = set_there w.processes p u at in rw (k.0, k.1, k.2, same, append-nil w.letters) refl

-- an undoing is a turn
undoing_is : {S B : Type 0} (y : System S B) (w : WorldState S B) (p : ℕ) (way : Way) → apply y w (undoing way p) ≡ turn_at w p (undo_by way y.rules p) (slice_get w.processes p)
undoing_is y w p Aggressive = refl
undoing_is y w p Lazy = refl

-- process p of the parts x, which was `old`, is `new` in the parts z
module _ {M S B U : Type 0} (model : Ghosts M S B U) (order : B → B → Ordering) (x z : Parts M S B U) (whole : IsWhole model order x)
    (same_model : z.model ≡ x.model) (same_starts : z.starts ≡ x.starts) (same_initial : z.initial ≡ x.initial) (same_collected : z.collected ≡ x.collected)
    (p : ℕ) (old new : LogicalProcess M S B) (there : slice_get x.processes.items p ≡ Some old) (same : (new.model ≡ old.model) × (new.number ≡ old.number)) (back : z.processes.items ≡ slice_set x.processes.items p new) where
  process_there : slice_get (world_of x).processes p ≡ Some old.process
  process_there = slice_get-map (λ l. l.process) x.processes.items p ∙ ap (option_map (λ l. l.process)) there

  numbered_still : AreNumbered x.model (slice_set x.processes.items p new)
  numbered_still q l at = go (cases_eq q p)
    where
      go : (q ≡ p) ⊎ (q ≡ p → ⊥) → (l.model ≡ x.model) × (l.number ≡ q)
      go (inl here) =
          let is : Some l ≡ Some new = sym at ∙ ap (slice_get (slice_set x.processes.items p new)) here ∙ get-set_same x.processes.items p old new there in
          let l_is : l ≡ new = cc in
          let known = whole.numbered p old there in
          (ap (λ a. a.model) l_is ∙ same.0 ∙ known.0, ap (λ a. a.number) l_is ∙ same.1 ∙ known.1 ∙ sym here)
      go (inr other) = whole.numbered q l (sym (get-set_other x.processes.items p q new other) ∙ at)

  pub made : (step : Step) (answer : Answer) (ls : List (Letter B)) → z.letters.items ≡ ls → apply (system_of model order (simulation_of x)) (world_of x) step ≡ (record { processes = slice_set (world_of x).processes p new.process; letters = ls; collected = x.collected }, answer) → Made model order x z step answer
  made step answer ls is eq =
      let now : WorldState S B = record { processes = slice_set (world_of x).processes p new.process; letters = ls; collected = x.collected } in
      let processes_are : map (λ l. l.process) z.processes.items ≡ slice_set (world_of x).processes p new.process = ap (map (λ l. l.process)) back ∙ map-set (λ l. l.process) x.processes.items p new in
      let world_is : world_of z ≡ now = rw (processes_are, is, same_collected) refl in
      record {
        world = rw (same_model, same_starts, same_initial, world_is) (ap (λ r. with_world (simulation_of x) r.0) (sym eq));
        answered = sym (ap (λ r. r.1) eq);
        numbered = subst (λ m. AreNumbered m z.processes.items) (sym same_model) (subst (AreNumbered x.model) (sym back) numbered_still);
      }

  -- a turn by its own model and number is one by those of the parts
  turn_there : (turn : Rules S B → ℕ → ProcessState S B → Turn S B) (answer : Answer) (given : List (Letter B)) → Took old.process new.process answer given (turn (rules model order old.model) old.number old.process)
      → Took old.process new.process answer given (turn (rules model order x.model) p old.process)
  turn_there turn answer given took =
      let known = whole.numbered p old there in
      subst (λ n. Took old.process new.process answer given (turn (rules model order x.model) n old.process)) known.1
      (subst (λ m. Took old.process new.process answer given (turn (rules model order m) old.number old.process)) known.0 took)

  pub made_execute : (answer : Answer) (given : List (Letter B)) → z.letters.items ≡ x.letters.items ++ given → Took old.process new.process answer given (execute_next (rules model order old.model) old.number old.process) → Made model order x z (Execute p) answer
  made_execute answer given is took =
      let y : Rules S B = rules model order x.model in
      let turn_taken = turn_there (λ y q u. execute_next y q u) answer given took in
      made (Execute p) answer (x.letters.items ++ given) is
      (ap (turn_at (world_of x) p (execute_next y p)) process_there ∙ turned_is (world_of x) p old.process new.process answer process_there given (execute_next y p old.process) turn_taken)

  pub made_undo : (way : Way) (answer : Answer) (given : List (Letter B)) → z.letters.items ≡ x.letters.items ++ given → Took old.process new.process answer given (undo_by way (rules model order old.model) old.number old.process) → Made model order x z (undoing way p) answer
  made_undo way answer given is took =
      let y : Rules S B = rules model order x.model in
      let turn_taken = turn_there (undo_by way) answer given took in
      made (undoing way p) answer (x.letters.items ++ given) is
      (undoing_is (system_of model order (simulation_of x)) (world_of x) p way ∙ ap (turn_at (world_of x) p (undo_by way y p)) process_there ∙ turned_is (world_of x) p old.process new.process answer process_there given (undo_by way y p old.process) turn_taken)

  -- letter i, which goes to p, comes
  module _ (i : ℕ) (letter : Letter B) (letter_there : slice_get x.letters.items i ≡ Some letter) (to : letter.event.to ≡ p) (answer : Answer) (given : List (Letter B)) (took : Took old.process new.process answer given (process.deliver (event_cmp order) letter old.process)) where
    deliver_is : apply (system_of model order (simulation_of x)) (world_of x) (Deliver i) ≡ world_after (world_of x) p (remove_at x.letters.items i) (process.deliver (event_cmp order) letter old.process)
    deliver_is =
        let y : System S B = system_of model order (simulation_of x) in
        ap (deliver_letter y (world_of x) i) letter_there
        ∙ ap (λ q. deliver_to y (world_of x) i letter (slice_get (world_of x).processes q)) to
        ∙ ap (deliver_to y (world_of x) i letter) process_there
        ∙ ap (λ q. world_after (world_of x) q (remove_at x.letters.items i) (process.deliver (event_cmp order) letter old.process)) to

    -- what it gave out was appended, and then the letter taken out
    pub made_deliver : (all : List (Letter B)) → all ≡ x.letters.items ++ given → i < length x.letters.items → answer ≡ Done → z.letters.items ≡ take i all ++ drop (suc i) all → Made model order x z (Deliver i) answer
    made_deliver all all_are within done is = made (Deliver i) answer (remove_at x.letters.items i ++ given)
        (is ∙ remove_at_is all i ∙ ap (λ ls. remove_at ls i) all_are ∙ remove_at-append x.letters.items given i within)
        (deliver_is ∙ delivered_is (world_of x) p old.process new.process answer process_there (remove_at x.letters.items i) given (process.deliver (event_cmp order) letter old.process) done took)

    pub made_no_delivery : (answer ≡ Done → ⊥) → z.letters.items ≡ x.letters.items ++ given → Made model order x z (Deliver i) answer
    made_no_delivery not_done is = made (Deliver i) answer (x.letters.items ++ given) is
        (deliver_is ∙ undelivered_is (world_of x) p old.process new.process answer process_there (remove_at x.letters.items i) given (process.deliver (event_cmp order) letter old.process) not_done took)

module _ {M S B U : Type 0} (model : Ghosts M S B U) (order : B → B → Ordering) (x : Parts M S B U) (whole : IsWhole model order x) where
  -- one process a start
  pub processes_count : length x.processes.items ≡ model.process_count x.model
  processes_count =
      sym (length-map x.processes.items (λ l. l.process))
      ∙ sym (length-map (world_of x).processes (λ u. u.start))
      ∙ ap length whole.sound.starts
      ∙ whole.ready.enough

  pub exhausted_at : (p : ℕ) (old : LogicalProcess M S B) → slice_get x.processes.items p ≡ Some old → MeetsNext (event_cmp order) old.process (model.is_exhausted old.model)
      → ExecutesAt (event_cmp order) (world_of x) (model.is_exhausted x.model) (Execute p)
  exhausted_at p old there h = record {
    number = p;
    process = old.process;
    executes = refl;
    there = slice_get-map (λ l. l.process) x.processes.items p ∙ ap (option_map (λ l. l.process)) there;
    meets = subst (λ m. MeetsNext (event_cmp order) old.process (model.is_exhausted m)) (whole.numbered p old there).0 h;
  }

  -- a step that the world refuses leaves the parts as they are
  pub made_refused : (step : Step) (fault : StepFault) → apply (system_of model order (simulation_of x)) (world_of x) step ≡ refusal (world_of x) fault → Made model order x x step (Refused fault)
  made_refused step fault eq = record {
    world = ap (λ r. with_world (simulation_of x) r.0) (sym eq);
    answered = sym (ap (λ r. r.1) eq);
    numbered = whole.numbered;
  }

  -- where there is no process p, it takes no turn
  nowhere : (p : ℕ) → length x.processes.items ≤ p → slice_get (world_of x).processes p ≡ None
  nowhere p h = slice_get_past (world_of x).processes p (omega (arith, h, length-map x.processes.items (λ l. l.process)))

  pub execute_nowhere : (p : ℕ) → length x.processes.items ≤ p → Made model order x x (Execute p) (Refused NoSuchProcess)
  execute_nowhere p h = made_refused (Execute p) NoSuchProcess (ap (turn_at (world_of x) p (execute_next (rules model order x.model) p)) (nowhere p h))

  pub undo_nowhere : (way : Way) (p : ℕ) → length x.processes.items ≤ p → Made model order x x (undoing way p) (Refused NoSuchProcess)
  undo_nowhere way p h = made_refused (undoing way p) NoSuchProcess (undoing_is (system_of model order (simulation_of x)) (world_of x) p way ∙ ap (turn_at (world_of x) p (undo_by way (rules model order x.model) p)) (nowhere p h))

  -- where there is no letter i, none comes
  pub deliver_nowhere : (i : ℕ) → length x.letters.items ≤ i → Made model order x x (Deliver i) (Refused NoSuchLetter)
  deliver_nowhere i h = made_refused (Deliver i) NoSuchLetter (ap (deliver_letter (system_of model order (simulation_of x)) (world_of x) i) (slice_get_past x.letters.items i h))
