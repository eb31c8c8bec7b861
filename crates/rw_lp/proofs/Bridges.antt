-- From what a body found to the turn that it took.
use Rattle.std.proofs.Common.{◌≡◌, ℕ, true, false, cond, List, [], ◌∷◌, ◌++◌, refl, sym, ap, ◌∙◌, subst, Some}
use Rattle.rw_vt.specs.declared.event.Event.{Event}
use Rattle.rw_vt.specs.declared.event.Letter.{Letter}
use Rattle.rw_vt.specs.Letters.{letters_of}
use Rattle.rw_vt.specs.System.{Rules}
use Rattle.rw_lp.specs.declared.answer.StepFault.TheVariants.{NothingPending, Straggler, NothingToUndo}
use Rattle.rw_lp.specs.declared.answer.Answer.TheVariants.{Done, Refused}
use Rattle.rw_lp.specs.HeldMessages.{held_of, unheld_sends}
use Rattle.rw_lp.specs.HeldBack.{letters_given}
use Rattle.rw_lp.specs.Process.{ProcessState, done, Stays, split_last, is_less_than_last, after_execution, execute_event, execute_least, execute_next, after_undoing, sends_of_last, undo_last, undo_one, undo_last_lazily, undo_lazily}
use Rattle.rw_lp.specs.Calls.{Took}

-- the last element of a list that ends in it
pub split_push : {A : Type 0} (xs : List A) (l : A) → split_last (xs ++ l ∷ []) ≡ Some (xs, l)
split_push [] l = refl
split_push (x ∷ xs) l = let h = split_push xs l in rw h refl

module _ {S B : Type 0} (y : Rules S B) (p : ℕ) (x : ProcessState S B) where
  pub nothing_pending : x.pending ≡ [] → Took x x (Refused NothingPending) [] (execute_next y p x)
  nothing_pending none = subst (λ es. Took x x (Refused NothingPending) [] (execute_least y p x es)) (sym none) (refl, refl, refl)

  pub is_straggler : (e : Event B) (rest : List (Event B)) → x.pending ≡ e ∷ rest → is_less_than_last y.order e (split_last (done x)) ≡ true → Took x x (Refused Straggler) [] (execute_next y p x)
  is_straggler e rest there late =
      subst (λ es. Took x x (Refused Straggler) [] (execute_least y p x es)) (sym there)
      (subst (λ b. Took x x (Refused Straggler) [] (cond b (Stays Straggler) (execute_event y p x e rest (unheld_sends y.order (y.step p x.state e).1 x.held)))) (sym late) (refl, refl, refl))

  pub is_executed : (e : Event B) (rest : List (Event B)) → x.pending ≡ e ∷ rest → is_less_than_last y.order e (split_last (done x)) ≡ false → (z : ProcessState S B) (given : List (Letter B))
      → z ≡ after_execution y p x e rest (unheld_sends y.order (y.step p x.state e).1 x.held).1 → given ≡ letters_given y.order e (y.step p x.state e).1 x.held → Took x z Done given (execute_next y p x)
  is_executed e rest there late z given is sent =
      subst (λ es. Took x z Done given (execute_least y p x es)) (sym there)
      (subst (λ b. Took x z Done given (cond b (Stays Straggler) (execute_event y p x e rest (unheld_sends y.order (y.step p x.state e).1 x.held)))) (sym late) (is, refl, sent))

  pub nothing_to_undo : x.processed ≡ [] → Took x x (Refused NothingToUndo) [] (undo_one y p x)
  nothing_to_undo none = subst (λ o. Took x x (Refused NothingToUndo) [] (undo_last y p x o)) (sym (ap split_last none)) (refl, refl, refl)

  pub is_undone : (front : List (Event B)) (e : Event B) → x.processed ≡ front ++ e ∷ [] → (z : ProcessState S B) (given : List (Letter B)) → z ≡ after_undoing y p x front e x.held → given ≡ letters_of true (sends_of_last y p x front e) → Took x z Done given (undo_one y p x)
  is_undone front e there z given is sent = subst (λ o. Took x z Done given (undo_last y p x o)) (sym (ap split_last there ∙ split_push front e)) (is, refl, sent)

  pub nothing_to_undo_lazily : x.processed ≡ [] → Took x x (Refused NothingToUndo) [] (undo_lazily y p x)
  nothing_to_undo_lazily none = subst (λ o. Took x x (Refused NothingToUndo) [] (undo_last_lazily y p x o)) (sym (ap split_last none)) (refl, refl, refl)

  pub is_undone_lazily : (front : List (Event B)) (e : Event B) → x.processed ≡ front ++ e ∷ [] → (z : ProcessState S B) → z ≡ after_undoing y p x front e (x.held ++ held_of e (sends_of_last y p x front e)) → Took x z Done [] (undo_lazily y p x)
  is_undone_lazily front e there z is = subst (λ o. Took x z Done [] (undo_last_lazily y p x o)) (sym (ap split_last there ∙ split_push front e)) (is, refl, refl)
