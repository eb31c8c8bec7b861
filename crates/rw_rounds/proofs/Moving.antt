-- What execute and undo answer of a process with an event pending, once it has collected.
use Rattle.std.proofs.Common.{◌≡◌, ℕ, ◌<◌, ◌≤◌, Bool, true, false, cond, List, [], ◌∷◌, ◌++◌, refl, sym, ap, ◌∙◌, subst, arith, append-nil, Option, Some, None}
use Rattle.std.specs.declared.cmp.Ordering.{Ordering}
use Rattle.rw_vt.specs.declared.event.Event.{Event}
use Rattle.rw_vt.specs.declared.event.Letter.{Letter}
use Rattle.rw_vt.specs.declared.model.Model.{Ghosts}
use Rattle.rw_vt.specs.Order.{event_cmp, Has, AtMost}
use Rattle.rw_vt.proofs.EventOrder.{time_at_most}
use Rattle.rw_vt.specs.System.{Rules, rules}
use Rattle.rw_vt.proofs.Sorting.{IsExactOrder, Has-head, Has-right, at_most_other}
use Rattle.rw_lp.specs.declared.answer.Answer.{Answer}
use Rattle.rw_lp.specs.declared.answer.Answer.TheVariants.{Done, Refused}
use Rattle.rw_lp.specs.declared.answer.StepFault.TheVariants.{Straggler}
use Rattle.rw_lp.specs.HeldMessages.{unheld_sends}
use Rattle.rw_lp.specs.Process.{ProcessState, Turn, Turned, Stays, done, split_last, is_less_than_last, execute_event, execute_least, execute_next, undo_last, undo_last_lazily}
use Rattle.rw_lp.specs.declared.way.Way.{Way}
use Rattle.rw_lp.specs.declared.way.Way.TheVariants.{Aggressive, Lazy}
use Rattle.rw_lp.specs.Arrival.{undo_by}
use Rattle.rw_lp.specs.Calls.{LogicalProcess, Took}
use Rattle.rw_lp.specs.Sound.{HasCollected}
use Rattle.rw_lp.proofs.Cited.{IsSplit, split_is}
use Rattle.rw_rounds.specs.Working.{Moved}

module _ {S B : Type 0} (y : Rules S B) (p : ℕ) where
  -- where it was done, it was executed
  pub taken : (x z : ProcessState S B) (a : Answer) (given : List (Letter B)) (t : Turn S B) → a ≡ Done → Took x z a given t → t ≡ Turned z given
  taken x z a given (Turned after out) done k = ap (λ w. Turned w out) (sym k.0) ∙ ap (Turned z) (sym k.2)
  taken x z a given (Stays f) done k = let never : Done ≡ Refused f = sym done ∙ k.1 in cc

  -- where an event is pending it was refused as a straggler, and nothing changed
  pub late : (x z : ProcessState S B) (a : Answer) (given : List (Letter B)) → (x.pending ≡ [] → ⊥) → (a ≡ Done → ⊥) → Took x z a given (execute_next y p x) → (execute_next y p x ≡ Stays Straggler) × (z ≡ x) × (given ≡ [])
  late x z a given some not_done took = go x.pending refl took
    where
      which : (b : Bool) (e : Event B) (rest : List (Event B)) → Took x z a given (cond b (Stays Straggler) (execute_event y p x e rest (unheld_sends y.order (y.step p x.state e).1 x.held))) → (cond b (Stays Straggler) (execute_event y p x e rest (unheld_sends y.order (y.step p x.state e).1 x.held)) ≡ Stays Straggler) × (z ≡ x) × (given ≡ [])
      which true e rest k = (refl, k.0, k.2)
      which false e rest k = absurd (not_done k.1)

      go : (es : List (Event B)) → x.pending ≡ es → Took x z a given (execute_least y p x es) → (execute_least y p x es ≡ Stays Straggler) × (z ≡ x) × (given ≡ [])
      go [] q k = absurd (some q)
      go (e ∷ rest) q k = which (is_less_than_last y.order e (split_last (done x))) e rest k

  module _ (o : IsExactOrder y.order) (by_time : (e f : Event B) → AtMost y.order e f → e.time ≤ f.time) where
    -- what is next is a straggler only where something is processed
    never_stuck : (g : ℕ) (x : ProcessState S B) → HasCollected y.order g x → execute_next y p x ≡ Stays Straggler → x.processed ≡ [] → ⊥
    never_stuck g x collected refused none = execute x.pending refl refused
      where
        least : (e : Event B) (rest : List (Event B)) → x.pending ≡ e ∷ rest → (r : Option (List (Event B) × Event B)) → IsSplit x.committed r → is_less_than_last y.order e r ≡ true → ⊥
        least e rest q None s h = cc
        least e rest q (Some r) s h =
            let order : e.time ≤ r.1.time = by_time e r.1 (at_most_other o r.1 e h) in
            let a : r.1.time < g = collected.committed r.1 (subst (λ l. Has y.order l r.1) (sym s) (Has-right o r.1 r.0 (r.1 ∷ []) (Has-head o r.1 []))) in
            let b : g ≤ e.time = collected.pending e (subst (λ l. Has y.order l e) (sym q) (Has-head o e rest)) in
            absurd (omega arith)

        execute : (es : List (Event B)) → x.pending ≡ es → execute_least y p x es ≡ Stays Straggler → ⊥
        execute [] q h = cc
        execute (e ∷ rest) q h = go (is_less_than_last y.order e (split_last (done x))) refl h
          where
            all : done x ≡ x.committed
            all = ap (λ l. x.committed ++ l) none ∙ append-nil x.committed

            go : (b : Bool) → is_less_than_last y.order e (split_last (done x)) ≡ b → cond b (Stays Straggler) (execute_event y p x e rest (unheld_sends y.order (y.step p x.state e).1 x.held)) ≡ Stays Straggler → ⊥
            go true k h = least e rest q (split_last x.committed) (split_is x.committed) (ap (λ l. is_less_than_last y.order e (split_last l)) (sym all) ∙ k)
            go false k h = cc

    pub undone : (way : Way) (g : ℕ) (x z : ProcessState S B) (a : Answer) (given : List (Letter B)) → HasCollected y.order g x → execute_next y p x ≡ Stays Straggler → Took x z a given (undo_by way y p x) → undo_by way y p x ≡ Turned z given
    undone Lazy g x z a given collected refused took = go (split_last x.processed) (split_is x.processed) took
      where
        go : (r : Option (List (Event B) × Event B)) → IsSplit x.processed r → Took x z a given (undo_last_lazily y p x r) → undo_last_lazily y p x r ≡ Turned z given
        go None q k = absurd (never_stuck g x collected refused q)
        go (Some r) q k = taken x z a given (undo_last_lazily y p x (Some r)) k.1 k
    undone Aggressive g x z a given collected refused took = go (split_last x.processed) (split_is x.processed) took
      where
        go : (r : Option (List (Event B) × Event B)) → IsSplit x.processed r → Took x z a given (undo_last y p x r) → undo_last y p x r ≡ Turned z given
        go None q k = absurd (never_stuck g x collected refused q)
        go (Some r) q k = taken x z a given (undo_last y p x (Some r)) k.1 k

-- the same from what the code knows: an execution that was refused, and then an undoing
module _ {M S B U : Type 0} (model : Ghosts M S B U) (order : B → B → Ordering) (o : IsExactOrder (event_cmp order)) (x z u : LogicalProcess M S B) (a b : Answer) (given more old mid new : List (Letter B)) (way : Way) where
  pub moved_undone : (x.process.pending ≡ [] → ⊥) → (g : ℕ) → HasCollected (event_cmp order) g x.process → (a ≡ Done → ⊥) → (z.model ≡ x.model) × (z.number ≡ x.number) →
      mid ≡ old ++ given → Took x.process z.process a given (execute_next (rules model order x.model) x.number x.process) →
      new ≡ mid ++ more → Took z.process u.process b more (undo_by way (rules model order z.model) z.number z.process) →
      (gone : List (Letter B)) × (new ≡ old ++ gone) × Moved (rules model order x.model) way x.number x.process u.process false gone
  moved_undone some g collected refused same first took second then_ =
      let l = late (rules model order x.model) x.number x.process z.process a given some refused took in
      let by_model = subst (λ k. Took z.process u.process b more (undo_by way (rules model order k) z.number z.process)) same.0 then_ in
      let by_number = subst (λ k. Took z.process u.process b more (undo_by way (rules model order x.model) k z.process)) same.1 by_model in
      let here = subst (λ k. Took k u.process b more (undo_by way (rules model order x.model) x.number k)) l.1 by_number in (
        more,
        second ∙ ap (λ k. k ++ more) (first ∙ ap (λ k. old ++ k) l.2 ∙ append-nil old),
        (undone (rules model order x.model) x.number o (time_at_most order) way g x.process u.process b more collected l.0 here, l.0),
      )
