-- What a history keeps in its box: one event more, the last one taken off, and the cut moved on.
use Rattle.std.proofs.Common.{◌≡◌, ℕ, zero, suc, ◌+◌, ◌-◌, ◌≤◌, false, List, [], ◌∷◌, ◌++◌, length, take, drop, refl, sym, ap, ◌∙◌, subst, arith, length-append, zero-add}
use Rattle.std.proofs.lemmas.List.{take-append-le, drop-append-le, drop-drop, length-drop}
use Rattle.std.specs.declared.cmp.Ordering.{Ordering}
use Rattle.std.specs.Global.{Vec}
use Rattle.rw_vt.specs.declared.event.Event.{Event}
use Rattle.rw_vt.specs.declared.model.Model.{Ghosts}
use Rattle.rw_vt.specs.System.{state_after}
use Rattle.rw_vt.proofs.Sorting.{IsExactOrder}
use Rattle.rw_lp.specs.declared.history.Past.{Past}
use Rattle.rw_lp.specs.declared.undo_record.UndoRecord.{UndoRecord}
use Rattle.rw_lp.specs.Cut.{IsKept, seen_of}
use Rattle.rw_lp.specs.Past.{IsRecordOf, IsLinked}
use Rattle.rw_lp.specs.Process.{is_less_than_last, split_last}
use Rattle.rw_lp.proofs.Chains.{KeepsWell, leads_length, linked_push, linked_last, linked_commit}
use Rattle.rw_lp.proofs.Orders.{pushed_up}

-- the state after all but the last one
abbrev pub before_of : {M S B U : Type 0} → Ghosts M S B U → Past M S B U → Vec (Event B) → S
before_of model p front = state_after (model.step p.model.value p.number) p.start.value (take p.cut p.done.items ++ drop p.cut front.items)

-- without the last event e and its record r
pub record IsTakenOff {M S B U : Type 0} (model : Ghosts M S B U) (cmp : Event B → Event B → Ordering) (p : Past M S B U) (front : Vec (Event B)) (others : List (UndoRecord B U)) (e : Event B) (r : UndoRecord B U) : Type 0 where
  pub last : drop p.cut p.done.items ≡ drop p.cut front.items ++ e ∷ []
  pub same : take p.cut front.items ≡ take p.cut p.done.items
  pub well_formed : model.IsWellFormed p.model.value p.number (before_of model p front)
  pub record_of : IsRecordOf model p.model.value p.number (before_of model p front) e r
  pub state : p.state ≡ (model.step p.model.value p.number (before_of model p front) e).0
  pub left : IsKept model cmp (record p { done = front; records = others; state = before_of model p front })

take_nil : {A : Type 0} (k : ℕ) → take k (let l : List A = [] in l) ≡ []
take_nil zero = refl
take_nil (suc k) = refl

take_all : {A : Type 0} (xs : List A) → take (length xs) xs ≡ xs
take_all [] = refl
take_all (x ∷ xs) = ap (λ l. x ∷ l) (take_all xs)

-- the slice from n on
pub slice_from : {A : Type 0} (n : ℕ) (xs : List A) → take (length xs - n) (drop n xs) ≡ drop n xs
slice_from n xs = ap (λ k. take k (drop n xs)) (sym (length-drop n xs)) ∙ take_all (drop n xs)

pub take_further : {A : Type 0} (n k : ℕ) (xs : List A) → take (n + k) xs ≡ take n xs ++ take k (drop n xs)
take_further zero k xs = ap (λ j. take j xs) (zero-add k)
take_further (suc n) k [] = let next : suc n + k ≡ suc (n + k) = omega arith in rw next (sym (take_nil k))
take_further (suc n) k (x ∷ xs) = let next : suc n + k ≡ suc (n + k) = omega arith in rw next (ap (λ l. x ∷ l) (take_further n k xs))

module _ {M S B U : Type 0} (model : Ghosts M S B U) {cmp : Event B → Event B → Ordering} (o : IsExactOrder cmp) (p : Past M S B U) (h : IsKept model cmp p) where
  -- one record for each processed event
  pub as_many : length p.records ≡ length (drop p.cut p.done.items)
  as_many = leads_length model p.model.value p.number (state_after (model.step p.model.value p.number) p.start.value (take p.cut p.done.items)) p.state (drop p.cut p.done.items) p.records h.linked.leads

  pub past_push : (done : Vec (Event B)) (records : List (UndoRecord B U)) (sends : Vec (Event B)) (now : S) (e : Event B) (r : UndoRecord B U) → IsRecordOf model p.model.value p.number p.state e r
      → records ≡ p.records ++ r ∷ [] → done.items ≡ p.done.items ++ e ∷ [] → now ≡ (model.step p.model.value p.number p.state e).0 → sends.items ≡ []
      → is_less_than_last cmp e (split_last (take p.cut p.done.items ++ drop p.cut p.done.items)) ≡ false
      → IsKept model cmp (record p { done = done; records = records; state = now; sends = sends })
  past_push done records sends now e r k rs_is done_is now_is none late =
      let taken : take p.cut done.items ≡ take p.cut p.done.items = ap (take p.cut) done_is ∙ take-append-le p.cut p.done.items (e ∷ []) h.within in
      let behind : drop p.cut done.items ≡ drop p.cut p.done.items ++ e ∷ [] = ap (drop p.cut) done_is ∙ drop-append-le p.cut p.done.items (e ∷ []) h.within in
      let size : length done.items ≡ length (p.done.items ++ e ∷ []) = ap length done_is in
      let both = length-append p.done.items (e ∷ []) in
      let within = h.within in
      record {
        within = omega (arith, size, both, within);
        linked = subst (λ l. IsLinked model cmp (record { model = p.model.value; number = p.number; start = p.start.value; committed = l; processed = drop p.cut done.items; state = now }) records) (sym taken)
            (linked_push model o (seen_of p) p.records records (drop p.cut done.items) now e r h.linked k rs_is behind now_is (pushed_up o e (take p.cut p.done.items ++ drop p.cut p.done.items) h.linked.order late));
        nothing_waits = none;
      }

  pub past_pop : KeepsWell model p.model.value → (front : Vec (Event B)) (others : List (UndoRecord B U)) (e : Event B) (r : UndoRecord B U) → p.done.items ≡ front.items ++ e ∷ [] → p.records ≡ others ++ r ∷ [] → IsTakenOff model cmp p front others e r
  past_pop keeps front others e r done_is rs_is =
      let size : length p.done.items ≡ length (front.items ++ e ∷ []) = ap length done_is in
      let both = length-append front.items (e ∷ []) in
      let many : length p.records ≡ length (others ++ r ∷ []) = ap length rs_is in
      let more = length-append others (r ∷ []) in
      let rest = length-drop p.cut p.done.items in
      let equal = as_many in
      let within : p.cut ≤ length front.items = omega (arith, size, both, many, more, rest, equal) in
      let taken : take p.cut front.items ≡ take p.cut p.done.items = sym (ap (take p.cut) done_is ∙ take-append-le p.cut front.items (e ∷ []) within) in
      let behind : drop p.cut p.done.items ≡ drop p.cut front.items ++ e ∷ [] = ap (drop p.cut) done_is ∙ drop-append-le p.cut front.items (e ∷ []) within in
      let last = linked_last model o (seen_of p) (drop p.cut front.items) e p.records others r keeps behind rs_is h.linked in
      record {
        last = behind;
        same = taken;
        well_formed = last.0;
        record_of = last.1;
        state = last.2;
        left = record {
          within = within;
          linked = subst (λ l. IsLinked model cmp (record { model = p.model.value; number = p.number; start = p.start.value; committed = l; processed = drop p.cut front.items; state = before_of model p front }) others) (sym taken) last.3;
          nothing_waits = h.nothing_waits;
        };
      }

  pub past_commit : KeepsWell model p.model.value → (k : ℕ) (left : List (UndoRecord B U)) → k ≤ length (drop p.cut p.done.items) → left ≡ drop k p.records
      → IsKept model cmp (record p { cut = p.cut + k; records = left })
  past_commit keeps k left within left_is =
      let rest = length-drop p.cut p.done.items in
      let inside = h.within in
      record {
        within = omega (arith, rest, inside, within);
        linked = linked_commit model o (seen_of p) p.records k (take (p.cut + k) p.done.items) (drop (p.cut + k) p.done.items) left keeps h.linked (take_further p.cut k p.done.items) (sym (drop-drop k p.cut p.done.items)) left_is;
        nothing_waits = h.nothing_waits;
      }
