-- Each refusal is answered exactly where it applies.
use Rattle.std.proofs.Common.{◌≡◌, ℕ, zero, suc, ◌<◌, ◌≤◌, max, Bool, true, false, cond, List, [], ◌∷◌, length, map, refl, ap, ◌∙◌, subst, arith, inl, inr, Option, Some, None}
use Rattle.std.specs.Prelude.{slice_get, nat_le, ◌↔◌, ◌⊎◌}
use Rattle.std.proofs.lemmas.Bool.{lt-leb, leb-false}
use Rattle.rw_vt.specs.declared.event.Event.{Event}
use Rattle.rw_vt.specs.declared.event.Letter.{Letter}
use Rattle.rw_vt.specs.Order.{has, without, insert_in_order}
use Rattle.rw_vt.specs.System.{System}
use Rattle.rw_lp.specs.HeldMessages.{unheld_sends}
use Rattle.rw_lp.specs.Process as process
use Rattle.rw_lp.specs.Process.{ProcessState, Turn, Turned, Stays, done, is_less_than_last, split_last, execute_event, execute_least, execute_next, undo_last, undo_one, undo_last_lazily, undo_lazily, annihilate, deliver_anti, deliver_message}
use Rattle.rw_lp.proofs.Cited.{with_bags}
use Rattle.rw_lp.specs.declared.answer.StepFault.{StepFault}
use Rattle.rw_lp.specs.declared.answer.StepFault.TheVariants.{NoSuchProcess, NoSuchLetter, NothingPending, Straggler, NothingToUndo, StillDone, AboveFloor}
use Rattle.rw_lp.specs.declared.answer.Answer.{Answer}
use Rattle.rw_lp.specs.declared.answer.Answer.TheVariants.{Done, Refused}
use Rattle.rw_world.specs.declared.step.Step.{Step}
use Rattle.rw_world.specs.declared.step.Step.TheVariants.{Execute, Undo, UndoLazily, Deliver, Collect}
use Rattle.rw_world.specs.WorldState.{WorldState, floor}
use Rattle.rw_world.specs.Steps.{refusal, world_after, turn_at, remove_at, deliver_to, deliver_letter, apply}
use Rattle.rw_world.specs.Faults.{Applies, IsUndoing}

absent : {A : Type 0} (xs : List A) (p : ℕ) → slice_get xs p ≡ None → length xs ≤ p
absent [] p h = omega arith
absent (x ∷ xs) zero h = cc
absent (x ∷ xs) (suc p) h = let r = absent xs p h in omega arith

none_past : {A : Type 0} (xs : List A) (p : ℕ) → length xs ≤ p → slice_get xs p ≡ None
none_past [] p h = refl
none_past (x ∷ xs) zero h = absurd (omega arith)
none_past (x ∷ xs) (suc p) h = none_past xs p (omega arith)

-- the list without its last element is there where the list is not empty
some_last : {A : Type 0} (xs : List A) → split_last xs ≡ None → xs ≡ []
some_last [] h = refl
some_last (x ∷ xs) h = cc

module _ {S B : Type 0} (y : System S B) (w : WorldState S B) where
  -- an answer that is a refusal is this one
  same_fault : (step : Step) (f g : StepFault) → Refused f ≡ Refused g → Applies y.rules.order w step f → Applies y.rules.order w step g
  same_fault step f g e h = let is : f ≡ g = cc in subst (Applies y.rules.order w step) is h

  when_executed : (p : ℕ) (g : StepFault) → (apply y w (Execute p)).1 ≡ Refused g → Applies y.rules.order w (Execute p) g
  when_executed p g e = go (slice_get w.processes p) refl e
    where
      at_bool : (x : ProcessState S B) (least : Event B) (rest : List (Event B)) → slice_get w.processes p ≡ Some x → x.pending ≡ least ∷ rest → (b : Bool) → is_less_than_last y.rules.order least (split_last (done x)) ≡ b
          → (world_after w p w.letters (cond b (Stays Straggler) (execute_event y.rules p x least rest (unheld_sends y.rules.order (y.rules.step p x.state least).1 x.held)))).1 ≡ Refused g → Applies y.rules.order w (Execute p) g
      at_bool x least rest at is true late e = same_fault (Execute p) Straggler g e (record { number = p; process = x; least = least; rest = rest; step_is = refl; there = at; pending = is; late = late })
      at_bool x least rest at is false late e = cc

      at_pending : (x : ProcessState S B) → slice_get w.processes p ≡ Some x → (es : List (Event B)) → x.pending ≡ es → (world_after w p w.letters (execute_least y.rules p x es)).1 ≡ Refused g → Applies y.rules.order w (Execute p) g
      at_pending x at [] is e = same_fault (Execute p) NothingPending g e (record { number = p; process = x; step_is = refl; there = at; none = is })
      at_pending x at (least ∷ rest) is e = at_bool x least rest at is (is_less_than_last y.rules.order least (split_last (done x))) refl e

      go : (o : Option (ProcessState S B)) → slice_get w.processes p ≡ o → (turn_at w p (execute_next y.rules p) o).1 ≡ Refused g → Applies y.rules.order w (Execute p) g
      go None at e = same_fault (Execute p) NoSuchProcess g e (record { number = p; step_is = inl refl; absent = absent w.processes p at })
      go (Some x) at e = at_pending x at x.pending refl e

  when_undone : (p : ℕ) (g : StepFault) → (apply y w (Undo p)).1 ≡ Refused g → Applies y.rules.order w (Undo p) g
  when_undone p g e = go (slice_get w.processes p) refl e
    where
      at_last : (x : ProcessState S B) → slice_get w.processes p ≡ Some x → (o : Option (List (Event B) × Event B)) → split_last x.processed ≡ o → (world_after w p w.letters (undo_last y.rules p x o)).1 ≡ Refused g → Applies y.rules.order w (Undo p) g
      at_last x at None is e = same_fault (Undo p) NothingToUndo g e (record { number = p; process = x; step_is = inl refl; there = at; none = some_last x.processed is })
      at_last x at (Some r) is e = cc

      go : (o : Option (ProcessState S B)) → slice_get w.processes p ≡ o → (turn_at w p (undo_one y.rules p) o).1 ≡ Refused g → Applies y.rules.order w (Undo p) g
      go None at e = same_fault (Undo p) NoSuchProcess g e (record { number = p; step_is = inr (inl refl); absent = absent w.processes p at })
      go (Some x) at e = at_last x at (split_last x.processed) refl e

  when_undone_lazily : (p : ℕ) (g : StepFault) → (apply y w (UndoLazily p)).1 ≡ Refused g → Applies y.rules.order w (UndoLazily p) g
  when_undone_lazily p g e = go (slice_get w.processes p) refl e
    where
      at_last : (x : ProcessState S B) → slice_get w.processes p ≡ Some x → (o : Option (List (Event B) × Event B)) → split_last x.processed ≡ o → (world_after w p w.letters (undo_last_lazily y.rules p x o)).1 ≡ Refused g → Applies y.rules.order w (UndoLazily p) g
      at_last x at None is e = same_fault (UndoLazily p) NothingToUndo g e (record { number = p; process = x; step_is = inr refl; there = at; none = some_last x.processed is })
      at_last x at (Some r) is e = cc

      go : (o : Option (ProcessState S B)) → slice_get w.processes p ≡ o → (turn_at w p (undo_lazily y.rules p) o).1 ≡ Refused g → Applies y.rules.order w (UndoLazily p) g
      go None at e = same_fault (UndoLazily p) NoSuchProcess g e (record { number = p; step_is = inr (inr refl); absent = absent w.processes p at })
      go (Some x) at e = at_last x at (split_last x.processed) refl e

  when_collected : (t : ℕ) (g : StepFault) → (apply y w (Collect t)).1 ≡ Refused g → Applies y.rules.order w (Collect t) g
  when_collected t g e = go (nat_le t (floor w)) refl e
    where
      go : (b : Bool) → nat_le t (floor w) ≡ b → (cond {A = WorldState S B × Answer} b (record { processes = map (process.collect t) w.processes; letters = w.letters; collected = max w.collected t }, Done) (refusal w AboveFloor)).1 ≡ Refused g → Applies y.rules.order w (Collect t) g
      go true test e = cc
      go false test e = same_fault (Collect t) AboveFloor g e (record { time = t; step_is = refl; above = leb-false t (floor w) test })

  module _ (inside : (i : ℕ) (l : Letter B) → slice_get w.letters i ≡ Some l → l.event.to < length w.processes) where
    when_delivered : (i : ℕ) (g : StepFault) → (apply y w (Deliver i)).1 ≡ Refused g → Applies y.rules.order w (Deliver i) g
    when_delivered i g e = go (slice_get w.letters i) refl e
      where
        at_message : (l : Letter B) (x : ProcessState S B) (b : Bool) → (world_after w l.event.to (remove_at w.letters i) (cond b (Turned (with_bags x x.pending (without y.rules.order l.event x.debts) x.held) []) (Turned (with_bags x (insert_in_order y.rules.order l.event x.pending) x.debts x.held) []))).1 ≡ Refused g → Applies y.rules.order w (Deliver i) g
        at_message l x true e = cc
        at_message l x false e = cc

        at_annihilated : (l : Letter B) (x : ProcessState S B) (b : Bool) → (u v : ProcessState S B) (ls : List (Letter B)) → (world_after w l.event.to (remove_at w.letters i) (cond b (Turned u []) (Turned v ls))).1 ≡ Refused g → Applies y.rules.order w (Deliver i) g
        at_annihilated l x true u v ls e = cc
        at_annihilated l x false u v ls e = cc

        at_processed : (l : Letter B) (x : ProcessState S B) → slice_get w.letters i ≡ Some l → slice_get w.processes l.event.to ≡ Some x → l.anti ≡ true → has y.rules.order l.event x.pending ≡ false → (b : Bool) → has y.rules.order l.event x.processed ≡ b
            → (world_after w l.event.to (remove_at w.letters i) (cond b (Stays StillDone) (Turned (with_bags x x.pending (insert_in_order y.rules.order l.event x.debts) x.held) []))).1 ≡ Refused g → Applies y.rules.order w (Deliver i) g
        at_processed l x here there anti not_pending true found e = same_fault (Deliver i) StillDone g e (record { number = i; letter = l; process = x; step_is = refl; letter_there = here; there = there; anti = anti; not_pending = not_pending; processed = found })
        at_processed l x here there anti not_pending false found e = cc

        at_anti : (l : Letter B) (x : ProcessState S B) → slice_get w.letters i ≡ Some l → slice_get w.processes l.event.to ≡ Some x → l.anti ≡ true → (b : Bool) → has y.rules.order l.event x.pending ≡ b
            → (world_after w l.event.to (remove_at w.letters i) (cond b (annihilate y.rules.order l.event x) (cond (has y.rules.order l.event x.processed) (Stays StillDone) (Turned (with_bags x x.pending (insert_in_order y.rules.order l.event x.debts) x.held) [])))).1 ≡ Refused g → Applies y.rules.order w (Deliver i) g
        at_anti l x here there anti true found e = at_annihilated l x (has y.rules.order l.event (without y.rules.order l.event x.pending)) _ _ _ e
        at_anti l x here there anti false found e = at_processed l x here there anti found (has y.rules.order l.event x.processed) refl e

        at_letter : (l : Letter B) (x : ProcessState S B) → slice_get w.letters i ≡ Some l → slice_get w.processes l.event.to ≡ Some x → (b : Bool) → l.anti ≡ b → (world_after w l.event.to (remove_at w.letters i) (cond b (deliver_anti y.rules.order l.event x) (deliver_message y.rules.order l.event x))).1 ≡ Refused g → Applies y.rules.order w (Deliver i) g
        at_letter l x here there true is e = at_anti l x here there is (has y.rules.order l.event x.pending) refl e
        at_letter l x here there false is e = at_message l x (has y.rules.order l.event x.debts) e

        at_process : (l : Letter B) → slice_get w.letters i ≡ Some l → (o : Option (ProcessState S B)) → slice_get w.processes l.event.to ≡ o → (deliver_to y w i l o).1 ≡ Refused g → Applies y.rules.order w (Deliver i) g
        at_process l here None there e = let h = absent w.processes l.event.to there in let k = inside i l here in absurd (omega arith)
        at_process l here (Some x) there e = at_letter l x here there l.anti refl e

        go : (o : Option (Letter B)) → slice_get w.letters i ≡ o → (deliver_letter y w i o).1 ≡ Refused g → Applies y.rules.order w (Deliver i) g
        go None at e = same_fault (Deliver i) NoSuchLetter g e (record { number = i; step_is = refl; absent = absent w.letters i at })
        go (Some l) at e = at_process l at (slice_get w.processes l.event.to) refl e

    applies : (step : Step) (g : StepFault) → (apply y w step).1 ≡ Refused g → Applies y.rules.order w step g
    applies (Execute p) g e = when_executed p g e
    applies (Undo p) g e = when_undone p g e
    applies (UndoLazily p) g e = when_undone_lazily p g e
    applies (Deliver i) g e = when_delivered i g e
    applies (Collect t) g e = when_collected t g e

  -- where a refusal applies, it is answered
  refuses : (step : Step) (g : StepFault) → Applies y.rules.order w step g → (apply y w step).1 ≡ Refused g
  refuses step NoSuchProcess h = go h.step_is
    where
      none : slice_get w.processes h.number ≡ None
      none = none_past w.processes h.number h.absent

      go : (step ≡ Execute h.number) ⊎ IsUndoing step h.number → (apply y w step).1 ≡ Refused NoSuchProcess
      go (inl is) = ap (λ s. (apply y w s).1) is ∙ ap (λ o. (turn_at w h.number (execute_next y.rules h.number) o).1) none
      go (inr (inl is)) = ap (λ s. (apply y w s).1) is ∙ ap (λ o. (turn_at w h.number (undo_one y.rules h.number) o).1) none
      go (inr (inr is)) = ap (λ s. (apply y w s).1) is ∙ ap (λ o. (turn_at w h.number (undo_lazily y.rules h.number) o).1) none
  refuses step NoSuchLetter h = ap (λ s. (apply y w s).1) h.step_is ∙ ap (λ o. (deliver_letter y w h.number o).1) (none_past w.letters h.number h.absent)
  refuses step NothingPending h =
      ap (λ s. (apply y w s).1) h.step_is
      ∙ ap (λ o. (turn_at w h.number (execute_next y.rules h.number) o).1) h.there
      ∙ ap (λ es. (world_after w h.number w.letters (execute_least y.rules h.number h.process es)).1) h.none
  refuses step Straggler h =
      ap (λ s. (apply y w s).1) h.step_is
      ∙ ap (λ o. (turn_at w h.number (execute_next y.rules h.number) o).1) h.there
      ∙ ap (λ es. (world_after w h.number w.letters (execute_least y.rules h.number h.process es)).1) h.pending
      ∙ ap (λ b. (world_after w h.number w.letters (cond b (Stays Straggler) (execute_event y.rules h.number h.process h.least h.rest (unheld_sends y.rules.order (y.rules.step h.number h.process.state h.least).1 h.process.held)))).1) h.late
  refuses step NothingToUndo h = go h.step_is
    where
      go : IsUndoing step h.number → (apply y w step).1 ≡ Refused NothingToUndo
      go (inl is) =
          ap (λ s. (apply y w s).1) is
          ∙ ap (λ o. (turn_at w h.number (undo_one y.rules h.number) o).1) h.there
          ∙ ap (λ es. (world_after w h.number w.letters (undo_last y.rules h.number h.process (split_last es))).1) h.none
      go (inr is) =
          ap (λ s. (apply y w s).1) is
          ∙ ap (λ o. (turn_at w h.number (undo_lazily y.rules h.number) o).1) h.there
          ∙ ap (λ es. (world_after w h.number w.letters (undo_last_lazily y.rules h.number h.process (split_last es))).1) h.none
  refuses step StillDone h =
      let owed : Turn S B = Turned (with_bags h.process h.process.pending (insert_in_order y.rules.order h.letter.event h.process.debts) h.process.held) [] in
      ap (λ s. (apply y w s).1) h.step_is
      ∙ ap (λ o. (deliver_letter y w h.number o).1) h.letter_there
      ∙ ap (λ o. (deliver_to y w h.number h.letter o).1) h.there
      ∙ ap (λ b. (world_after w h.letter.event.to (remove_at w.letters h.number) (cond b (deliver_anti y.rules.order h.letter.event h.process) (deliver_message y.rules.order h.letter.event h.process))).1) h.anti
      ∙ ap (λ b. (world_after w h.letter.event.to (remove_at w.letters h.number) (cond b (annihilate y.rules.order h.letter.event h.process) (cond (has y.rules.order h.letter.event h.process.processed) (Stays StillDone) owed))).1) h.not_pending
      ∙ ap (λ b. (world_after w h.letter.event.to (remove_at w.letters h.number) (cond b (Stays StillDone) owed)).1) h.processed
  refuses step AboveFloor h =
      ap (λ s. (apply y w s).1) h.step_is
      ∙ ap (λ b. (cond {A = WorldState S B × Answer} b (record { processes = map (process.collect h.time) w.processes; letters = w.letters; collected = max w.collected h.time }, Done) (refusal w AboveFloor)).1) (lt-leb h.time (floor w) h.above)

-- exactly there
pub exactly : {S B : Type 0} (y : System S B) (w : WorldState S B) → ((i : ℕ) (l : Letter B) → slice_get w.letters i ≡ Some l → l.event.to < length w.processes) → (step : Step) (fault : StepFault) → ((apply y w step).1 ≡ Refused fault) ↔ Applies y.rules.order w step fault
exactly y w inside step fault = (applies y w inside step fault, refuses y w step fault)
