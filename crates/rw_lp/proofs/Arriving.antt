-- The arrival of a letter: when it is barred, and what one more undoing brings.
use Rattle.std.proofs.Common.{◌≡◌, ℕ, suc, ◌<◌, ◌≤◌, Bool, true, false, cond, List, [], ◌∷◌, ◌++◌, length, length-append, refl, sym, ap, ◌∙◌, subst, arith, true≢false, Option, Some, None, inl, inr}
use Rattle.std.specs.Prelude.{not, ◌&&◌, ◌⊎◌}
use Rattle.std.specs.declared.cmp.Ordering.{Ordering}
use Rattle.std.proofs.lemmas.Bool.{cases_lt}
use Rattle.rw_vt.specs.declared.event.Event.{Event}
use Rattle.rw_vt.specs.declared.event.Letter.{Letter}
use Rattle.rw_vt.specs.Order.{AtMost, Each, Has, IsAscending, insert_in_order, has, without}
use Rattle.rw_vt.specs.Letters.{letters_of}
use Rattle.rw_vt.specs.System.{Rules}
use Rattle.rw_vt.proofs.Sorting.{IsExactOrder, at_most_chain, Has-head, Has-right}
use Rattle.rw_vt.proofs.Bags.{Each-nil, Each-cons}
use Rattle.rw_lp.specs.declared.answer.StepFault.TheVariants.{StillDone}
use Rattle.rw_lp.specs.declared.answer.Answer.{Answer}
use Rattle.rw_lp.specs.HeldMessages.{held_with, held_without}
use Rattle.rw_lp.specs.Process.{ProcessState, Turn, Turned, Stays, split_last, is_less_than_last, undo_last, undo_last_lazily, annihilate, deliver_anti, deliver_message, deliver}
use Rattle.rw_lp.proofs.WithBags.{with_bags}
use Rattle.rw_lp.specs.Calls.{LogicalProcess, Took, IsTaken}
use Rattle.rw_lp.specs.declared.way.Way.{Way}
use Rattle.rw_lp.specs.declared.way.Way.TheVariants.{Aggressive, Lazy}
use Rattle.rw_lp.specs.Arrival.{undo_by, undo_times, and_undo, with_out, is_barred, Accepts, ArrivedBy}
use Rattle.rw_lp.proofs.Splits.{IsSplit, split_is}

module _ {E : Type 0} {cmp : E → E → Ordering} (o : IsExactOrder cmp) (e : E) where
  pub all_up_to_last : (front : List E) (l : E) → IsAscending cmp (front ++ l ∷ []) → AtMost cmp l e → Each cmp (λ a. AtMost cmp a e) (front ++ l ∷ [])
  all_up_to_last [] l up h = Each-cons o (λ a. AtMost cmp a e) l [] h (Each-nil o (λ a. AtMost cmp a e))
  all_up_to_last (x ∷ xs) l up h =
      let next : AtMost cmp x l = up.0 l (Has-right o l xs (l ∷ []) (Has-head o l [])) in
      Each-cons o (λ a. AtMost cmp a e) x (xs ++ l ∷ []) (at_most_chain o x l e next h) (all_up_to_last xs l up.1 h)

  none_greater : (xs : List E) → IsAscending cmp xs → is_less_than_last cmp e (split_last xs) ≡ false → Each cmp (λ a. AtMost cmp a e) xs
  none_greater xs up h = go (split_last xs) (split_is xs) h
    where
      go : (r : Option (List E × E)) → IsSplit xs r → is_less_than_last cmp e r ≡ false → Each cmp (λ a. AtMost cmp a e) xs
      go None q k = subst (Each cmp (λ a. AtMost cmp a e)) (sym q) (Each-nil o (λ a. AtMost cmp a e))
      go (Some r) q k = subst (Each cmp (λ a. AtMost cmp a e)) (sym q) (all_up_to_last r.0 r.1 (subst (IsAscending cmp) q up) k)

  some_greater : (xs : List E) → is_less_than_last cmp e (split_last xs) ≡ true → Each cmp (λ a. AtMost cmp a e) xs → ⊥
  some_greater xs h all = go (split_last xs) (split_is xs) h
    where
      go : (r : Option (List E × E)) → IsSplit xs r → is_less_than_last cmp e r ≡ true → ⊥
      go None q k = true≢false (sym k)
      go (Some r) q k =
          let there : Has cmp xs r.1 = subst (λ l. Has cmp l r.1) (sym q) (Has-right o r.1 r.0 (r.1 ∷ []) (Has-head o r.1 [])) in
          true≢false (sym k ∙ all r.1 there)

module _ {S B : Type 0} {cmp : Event B → Event B → Ordering} (o : IsExactOrder cmp) (l : Letter B) (x : ProcessState S B) where
  message_taken : (b : Bool) → IsTaken (cond b (Turned (with_bags x x.pending (without cmp l.event x.debts) x.held) []) (Turned (with_bags x (insert_in_order cmp l.event x.pending) x.debts x.held) []))
  message_taken true = tt
  message_taken false = tt

  annihilation_taken : (b : Bool) → IsTaken (cond b (Turned (with_bags x (without cmp l.event x.pending) x.debts x.held) []) (Turned (with_bags x (without cmp l.event x.pending) x.debts (held_without cmp l.event x.held)) (letters_of true (held_with cmp l.event x.held))))
  annihilation_taken true = tt
  annihilation_taken false = tt

  anti_barred : (b d : Bool) → (d && not b) ≡ true → IsTaken (cond b (annihilate cmp l.event x) (cond d (Stays StillDone) (Turned (with_bags x x.pending (insert_in_order cmp l.event x.debts) x.held) []))) → ⊥
  anti_barred true true h t = true≢false (sym h)
  anti_barred true false h t = true≢false (sym h)
  anti_barred false true h t = t
  anti_barred false false h t = true≢false (sym h)

  anti_open : (b d : Bool) → (d && not b) ≡ false → IsTaken (cond b (annihilate cmp l.event x) (cond d (Stays StillDone) (Turned (with_bags x x.pending (insert_in_order cmp l.event x.debts) x.held) [])))
  anti_open true d h = annihilation_taken (has cmp l.event (without cmp l.event x.pending))
  anti_open false true h = absurd (true≢false h)
  anti_open false false h = tt

  pub barred_refuses : is_barred cmp l x ≡ true → Accepts cmp l x → ⊥
  barred_refuses h a = go l.anti h a.taken a.in_time
    where
      go : (b : Bool) → cond b (has cmp l.event x.processed && not (has cmp l.event x.pending)) (is_less_than_last cmp l.event (split_last x.processed)) ≡ true
          → IsTaken (cond b (deliver_anti cmp l.event x) (deliver_message cmp l.event x)) → (b ≡ false → Each cmp (λ e. AtMost cmp e l.event) x.processed) → ⊥
      go true k t n = anti_barred (has cmp l.event x.pending) (has cmp l.event x.processed) k t
      go false k t n = some_greater o l.event x.processed k (n refl)

  pub open_accepts : IsAscending cmp x.processed → is_barred cmp l x ≡ false → Accepts cmp l x
  open_accepts up h = go l.anti refl h
    where
      taken : (b : Bool) → cond b (has cmp l.event x.processed && not (has cmp l.event x.pending)) (is_less_than_last cmp l.event (split_last x.processed)) ≡ false
          → IsTaken (cond b (deliver_anti cmp l.event x) (deliver_message cmp l.event x))
      taken true k = anti_open (has cmp l.event x.pending) (has cmp l.event x.processed) k
      taken false k = message_taken (has cmp l.event x.debts)

      go : (b : Bool) → l.anti ≡ b → cond b (has cmp l.event x.processed && not (has cmp l.event x.pending)) (is_less_than_last cmp l.event (split_last x.processed)) ≡ false → Accepts cmp l x
      go true q k = record { taken = taken l.anti h; in_time = λ n. absurd (true≢false (sym q ∙ n)) }
      go false q k = record { taken = taken l.anti h; in_time = λ n. none_greater o l.event x.processed up k }

  -- where it is barred something is processed
  pub barred_some : is_barred cmp l x ≡ true → x.processed ≡ [] → ⊥
  barred_some h none = go l.anti (has cmp l.event x.pending) (subst (λ ps. cond l.anti (has cmp l.event ps && not (has cmp l.event x.pending)) (is_less_than_last cmp l.event (split_last ps)) ≡ true) none h)
    where
      go : (b d : Bool) → cond b (false && not d) false ≡ true → ⊥
      go true d k = true≢false (sym k)
      go false d k = true≢false (sym k)

module _ {S B : Type 0} (y : Rules S B) (p : ℕ) where
  -- a turn to a process with one event fewer that is processed
  fewer : (x z after : ProcessState S B) (given out : List (Letter B)) (r : List (Event B) × Event B) → x.processed ≡ r.0 ++ r.1 ∷ [] → after.processed ≡ r.0 → z ≡ after → given ≡ out → (Turned after out ≡ Turned z given) × (length z.processed < length x.processed)
  fewer x z after given out r q front is all =
      (ap (λ w. Turned w out) (sym is) ∙ ap (Turned z) (sym all), omega (arith, ap (λ (w : ProcessState S B). length w.processed) is, ap length front, ap length q, length-append r.0 (r.1 ∷ [])))

  -- an undoing where something is processed
  pub undo_taken : (way : Way) (x z : ProcessState S B) (a : Answer) (given : List (Letter B)) → (x.processed ≡ [] → ⊥) → Took x z a given (undo_by way y p x) → (undo_by way y p x ≡ Turned z given) × (length z.processed < length x.processed)
  undo_taken Aggressive x z a given some took = go (split_last x.processed) (split_is x.processed) took
    where
      go : (r : Option (List (Event B) × Event B)) → IsSplit x.processed r → Took x z a given (undo_last y p x r) → (undo_last y p x r ≡ Turned z given) × (length z.processed < length x.processed)
      go None q t = absurd (some q)
      go (Some r) q t = fewer x z _ given _ r q refl t.0 t.2
  undo_taken Lazy x z a given some took = go (split_last x.processed) (split_is x.processed) took
    where
      go : (r : Option (List (Event B) × Event B)) → IsSplit x.processed r → Took x z a given (undo_last_lazily y p x r) → (undo_last_lazily y p x r ≡ Turned z given) × (length z.processed < length x.processed)
      go None q t = absurd (some q)
      go (Some r) q t = fewer x z _ given _ r q refl t.0 t.2

module _ {S B : Type 0} (undo : ProcessState S B → Turn S B) (cmp : Event B → Event B → Ordering) (l : Letter B) where
  -- so many undoings led from x to w and gave these letters out, and no fewer would do
  pub record IsGoing (x w : ProcessState S B) (given : List (Letter B)) : Type 0 where
    pub count : ℕ
    pub undone : undo_times undo count x ≡ Turned w given
    pub sooner : (k : ℕ) (v : ProcessState S B) (out : List (Letter B)) → k < count → undo_times undo k x ≡ Turned v out → Accepts cmp l v → ⊥

  pub going_start : (x : ProcessState S B) → IsGoing x x []
  going_start x = record { count = 0; undone = refl; sooner = λ k v out h. absurd (omega arith) }

  pub going_more : (x w z : ProcessState S B) (given more : List (Letter B)) → IsGoing x w given → (Accepts cmp l w → ⊥) → undo w ≡ Turned z more → IsGoing x z (given ++ more)
  going_more x w z given more g refused one = record {
    count = suc g.count;
    undone = ap (and_undo undo) g.undone ∙ ap (with_out given) one;
    sooner = λ k v out h u a. go k v out u a (cases_lt k g.count) h;
  }
    where
      same : (v : ProcessState S B) (out : List (Letter B)) → undo_times undo g.count x ≡ Turned v out → v ≡ w
      same v out u = let both : Turned v out ≡ Turned w given = sym u ∙ g.undone in cc

      go : (k : ℕ) (v : ProcessState S B) (out : List (Letter B)) → undo_times undo k x ≡ Turned v out → Accepts cmp l v → (k < g.count) ⊎ (g.count ≤ k) → k < suc g.count → ⊥
      go k v out u a (inl h) n = g.sooner k v out h u a
      go k v out u a (inr h) n =
          let last : k ≡ g.count = omega arith in
          refused (subst (Accepts cmp l) (same v out (subst (λ i. undo_times undo i x ≡ Turned v out) last u)) a)

pub arrived : {S B : Type 0} (way : Way) (y : Rules S B) (p : ℕ) (l : Letter B) (x w z : ProcessState S B) (a : Answer) (given rest : List (Letter B)) → IsGoing (undo_by way y p) y.order l x w given → Accepts y.order l w → Took w z a rest (deliver y.order l w) → ArrivedBy way y p l x z (given ++ rest)
arrived {S} {B} way y p l x w z a given rest g accepts took = record {
  count = g.count;
  between = w;
  unsent = given;
  undone = g.undone;
  accepts = accepts;
  fewest = g.sooner;
  rest = rest;
  delivered = go (deliver y.order l w) accepts.taken took;
  all = refl;
}
  where
    go : (t : Turn S B) → IsTaken t → Took w z a rest t → t ≡ Turned z rest
    go (Stays fault) k q = absurd k
    go (Turned v out) k q = ap (λ u. Turned u out) (sym q.0) ∙ ap (Turned z) (sym q.2)

-- an arrival on its way, seen from the code
pub record IsUnderway {M S B : Type 0} (way : Way) (y : Rules S B) (l : Letter B) (from now : LogicalProcess M S B) (old new : List (Letter B)) : Type 0 where
  pub model : now.model ≡ from.model
  pub number : now.number ≡ from.number
  pub given : List (Letter B)
  pub out : new ≡ old ++ given
  pub going : IsGoing (undo_by way y from.number) y.order l from.process now.process given
