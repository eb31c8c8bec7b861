-- From an event that was taken back to the turn of the process.
use Rattle.std.proofs.Common.{◌≡◌, true, List, [], ◌++◌, refl, sym, ap, ◌∙◌, subst, append-nil, Option, Some, None}
use Rattle.std.specs.Prelude.{All}
use Rattle.std.specs.declared.cmp.Ordering.{Ordering}
use Rattle.rw_vt.specs.declared.event.Event.{Event}
use Rattle.rw_vt.specs.declared.model.Model.{Ghosts}
use Rattle.rw_vt.specs.Letters.{letters_of}
use Rattle.rw_vt.specs.Order.{event_cmp, AtMost, Has}
use Rattle.rw_vt.specs.System.{state_after, rules}
use Rattle.rw_vt.proofs.Sorting.{IsExactOrder}
use Rattle.rw_lp.specs.declared.held.Held.{Held}
use Rattle.rw_lp.specs.declared.answer.Answer.{Answer}
use Rattle.rw_lp.specs.declared.undo_record.Undone.{Undone}
use Rattle.rw_lp.specs.HeldMessages.{held_of}
use Rattle.rw_lp.specs.Past.{HistoryState, TookBack, IsTakenBack, done_in}
use Rattle.rw_lp.specs.PendingAgain.{IsPendingAgain, sent_by, held_by}
use Rattle.rw_lp.specs.Process.{after_undoing, undo_one, undo_lazily}
use Rattle.rw_lp.specs.Calls.{process_of, Took}
use Rattle.rw_lp.specs.Own.{AreFor}
use Rattle.rw_lp.specs.Sound.{Balance}
use Rattle.rw_lp.proofs.Bridges.{nothing_to_undo, is_undone, nothing_to_undo_lazily, is_undone_lazily}
use Rattle.rw_lp.proofs.Own.{still_for, undone_own, may_be_held, undone_lazily_own}
use Rattle.rw_lp.proofs.Balance.{unchanged, undoing_balanced, lazy_undoing_balanced}

module _ {M S B U : Type 0} (model : Ghosts M S B U) (order : B → B → Ordering) (o : IsExactOrder (event_cmp order)) (x z : HistoryState M S B) (ps ds qs : List (Event B)) (hs : List (Held B)) where
  -- where nothing was taken back, the process is as it was
  as_before : (a : Answer) (ks : List (Held B)) → TookBack model (event_cmp order) x z None → IsPendingAgain (event_cmp order) None ps a qs → ks ≡ hs → (process_of z qs ds ks).process ≡ (process_of x ps ds hs).process
  as_before a ks back again same =
      ap (λ (h : HistoryState M S B). (process_of h qs ds ks).process) back.1 ∙ ap (λ l. (process_of x l ds ks).process) again.1 ∙ ap (λ k. (process_of x ps ds k).process) same

  -- and else it is as after the undoing
  as_undone : (u : Undone B) (a : Answer) (ks : List (Held B)) → IsTakenBack model (event_cmp order) x z u.event u.sends → IsPendingAgain (event_cmp order) (Some u) ps a qs → (process_of z qs ds ks).process ≡ after_undoing (rules model order x.model) x.number (process_of x ps ds hs).process z.processed u.event ks
  as_undone u a ks back again =
      ap (λ (h : HistoryState M S B). (process_of h qs ds ks).process) back.rest
      ∙ ap (λ l. (process_of (record x { processed = z.processed; state = state_after (model.step x.model x.number) x.start (x.committed ++ z.processed) }) l ds ks).process) again.1

  module _ (own : AreFor model order x ps ds hs) where
    none_own : (a : Answer) → TookBack model (event_cmp order) x z None → IsPendingAgain (event_cmp order) None ps a qs → AreFor model order z qs ds hs
    none_own a back again =
        subst (λ l. AreFor model order z l ds hs) (sym again.1)
        (still_for model x ps ds hs own z (ap (λ (w : HistoryState M S B). w.model) back.1) (ap (λ (w : HistoryState M S B). w.number) back.1) (λ e k. subst (λ (w : HistoryState M S B). Has (event_cmp order) (done_in w) e) back.1 k))

    -- what had been sent is cancelled
    pub cancelled_own : (u : Option (Undone B)) (a : Answer) → TookBack model (event_cmp order) x z u → IsPendingAgain (event_cmp order) u ps a qs → AreFor model order z qs ds hs
    cancelled_own None a back again = none_own a back again
    cancelled_own (Some u) a back again = undone_own model o x z ps ds qs u.sends hs u.event own back again.1

    -- or held
    pub held_own : (u : Option (Undone B)) (a : Answer) (ks : List (Held B)) → TookBack model (event_cmp order) x z u → IsPendingAgain (event_cmp order) u ps a qs → ks ≡ hs ++ held_by u → AreFor model order z qs ds ks
    held_own None a ks back again more = subst (AreFor model order z qs ds) (sym (more ∙ append-nil hs)) (none_own a back again)
    held_own (Some u) a ks back again more = undone_lazily_own model o x z ps ds qs u.sends hs u.event own back ks again.1 more

    pub no_held_less : (u : Option (Undone B)) → TookBack model (event_cmp order) x z u → (v : Undone B) → u ≡ Some v → All (λ (k : Held B). AtMost (event_cmp order) v.event k.undone) hs
    no_held_less u back v is = may_be_held model o x z ps ds qs v.sends hs v.event own (subst (TookBack model (event_cmp order) x z) is back)

  pub cancelled_turn : (u : Option (Undone B)) (a : Answer) → TookBack model (event_cmp order) x z u → IsPendingAgain (event_cmp order) u ps a qs → Took (process_of x ps ds hs).process (process_of z qs ds hs).process a (letters_of true (sent_by u)) (undo_one (rules model order x.model) x.number (process_of x ps ds hs).process)
  cancelled_turn None a back again =
      subst (λ v. Took (process_of x ps ds hs).process v a [] (undo_one (rules model order x.model) x.number (process_of x ps ds hs).process)) (sym (as_before a hs back again refl))
      (subst (λ b. Took (process_of x ps ds hs).process (process_of x ps ds hs).process b [] (undo_one (rules model order x.model) x.number (process_of x ps ds hs).process)) (sym again.0) (nothing_to_undo (rules model order x.model) x.number (process_of x ps ds hs).process back.0))
  cancelled_turn (Some u) a back again =
      subst (λ b. Took (process_of x ps ds hs).process (process_of z qs ds hs).process b (letters_of true u.sends) (undo_one (rules model order x.model) x.number (process_of x ps ds hs).process)) (sym again.0)
      (is_undone (rules model order x.model) x.number (process_of x ps ds hs).process z.processed u.event back.last (process_of z qs ds hs).process (letters_of true u.sends) (as_undone u a hs back again) (ap (letters_of true) back.sent))

  pub cancelled_balance : (u : Option (Undone B)) (a : Answer) → TookBack model (event_cmp order) x z u → IsPendingAgain (event_cmp order) u ps a qs → Balance (rules model order x.model) x.number (process_of x ps ds hs).process (process_of z qs ds hs).process [] (letters_of true (sent_by u))
  cancelled_balance None a back again = unchanged (rules model order x.model) o x.number (process_of x ps ds hs).process (process_of z qs ds hs).process (as_before a hs back again refl)
  cancelled_balance (Some u) a back again =
      undoing_balanced (rules model order x.model) o x.number (process_of x ps ds hs).process (process_of z qs ds hs).process z.processed u.event (letters_of true u.sends) back.last (as_undone u a hs back again) (ap (letters_of true) back.sent)

  module _ (ks : List (Held B)) where
    -- what is held then, by what the model says was sent
    held_sent : (u : Undone B) → IsTakenBack model (event_cmp order) x z u.event u.sends → ks ≡ hs ++ held_of u.event u.sends
        → ks ≡ hs ++ held_of u.event ((rules model order x.model).step x.number (state_after ((rules model order x.model).step x.number) x.start (x.committed ++ z.processed)) u.event).1
    held_sent u back more = more ∙ ap (λ l. hs ++ held_of u.event l) back.sent

    as_undone_lazily : (u : Undone B) (a : Answer) → IsTakenBack model (event_cmp order) x z u.event u.sends → IsPendingAgain (event_cmp order) (Some u) ps a qs → ks ≡ hs ++ held_of u.event u.sends
        → (process_of z qs ds ks).process ≡ after_undoing (rules model order x.model) x.number (process_of x ps ds hs).process z.processed u.event (hs ++ held_of u.event ((rules model order x.model).step x.number (state_after ((rules model order x.model).step x.number) x.start (x.committed ++ z.processed)) u.event).1)
    as_undone_lazily u a back again more = as_undone u a ks back again ∙ ap (λ k. after_undoing (rules model order x.model) x.number (process_of x ps ds hs).process z.processed u.event k) (held_sent u back more)

    pub held_turn : (u : Option (Undone B)) (a : Answer) → TookBack model (event_cmp order) x z u → IsPendingAgain (event_cmp order) u ps a qs → ks ≡ hs ++ held_by u → Took (process_of x ps ds hs).process (process_of z qs ds ks).process a [] (undo_lazily (rules model order x.model) x.number (process_of x ps ds hs).process)
    held_turn None a back again more =
        subst (λ v. Took (process_of x ps ds hs).process v a [] (undo_lazily (rules model order x.model) x.number (process_of x ps ds hs).process)) (sym (as_before a ks back again (more ∙ append-nil hs)))
        (subst (λ b. Took (process_of x ps ds hs).process (process_of x ps ds hs).process b [] (undo_lazily (rules model order x.model) x.number (process_of x ps ds hs).process)) (sym again.0) (nothing_to_undo_lazily (rules model order x.model) x.number (process_of x ps ds hs).process back.0))
    held_turn (Some u) a back again more =
        subst (λ b. Took (process_of x ps ds hs).process (process_of z qs ds ks).process b [] (undo_lazily (rules model order x.model) x.number (process_of x ps ds hs).process)) (sym again.0)
        (is_undone_lazily (rules model order x.model) x.number (process_of x ps ds hs).process z.processed u.event back.last (process_of z qs ds ks).process (as_undone_lazily u a back again more))

    pub held_balance : (u : Option (Undone B)) (a : Answer) → TookBack model (event_cmp order) x z u → IsPendingAgain (event_cmp order) u ps a qs → ks ≡ hs ++ held_by u → Balance (rules model order x.model) x.number (process_of x ps ds hs).process (process_of z qs ds ks).process [] []
    held_balance None a back again more = unchanged (rules model order x.model) o x.number (process_of x ps ds hs).process (process_of z qs ds ks).process (as_before a ks back again (more ∙ append-nil hs))
    held_balance (Some u) a back again more = lazy_undoing_balanced (rules model order x.model) o x.number (process_of x ps ds hs).process (process_of z qs ds ks).process z.processed u.event back.last (as_undone_lazily u a back again more)

-- what takes an event back leaves the process of that model and number
pub same_back : {M S B U : Type 0} (model : Ghosts M S B U) (cmp : Event B → Event B → Ordering) (x z : HistoryState M S B) (undone : Option (Undone B)) → TookBack model cmp x z undone → (z.model ≡ x.model) × (z.number ≡ x.number)
same_back model cmp x z None back = (ap (λ h. h.model) back.1, ap (λ h. h.number) back.1)
same_back model cmp x z (Some u) back = (ap (λ h. h.model) back.rest, ap (λ h. h.number) back.rest)
