-- Chains of events with the records that take them back: one more, the last one taken off, and the first ones committed.
use Rattle.std.proofs.Common.{◌≡◌, ℕ, zero, suc, true, List, [], ◌∷◌, ◌++◌, length, refl, sym, ◌∙◌, ap, subst, take, drop, arith, append_assoc}
use Rattle.std.proofs.Math.ListN.{take-append-drop}
use Rattle.std.specs.declared.cmp.Ordering.{Ordering}
use Rattle.rw_vt.specs.declared.event.Event.{Event}
use Rattle.rw_vt.specs.declared.model.Model.{Ghosts}
use Rattle.rw_vt.specs.System.{state_after}
use Rattle.rw_vt.specs.Order.{Each, IsAscending}
use Rattle.rw_vt.proofs.Runs.{after-append}
use Rattle.rw_vt.proofs.Sorting.{IsExactOrder}
use Rattle.rw_vt.proofs.Bags.{Each-nil, Each-cons, Each-append, Each-front, IsAscending-front}
use Rattle.rw_lp.specs.declared.undo_record.UndoRecord.{UndoRecord}
use Rattle.rw_lp.specs.Past.{HistoryState, IsFor, IsRecordOf, LeadsByRecords, IsLinked}

-- a step keeps a state well formed
abbrev pub KeepsWell : {M S B U : Type 0} → Ghosts M S B U → M → Type 0
KeepsWell {M} {S} {B} model m = (p : ℕ) (s : S) (e : Event B) → model.IsWellFormed m p s → model.is_valid m e ≡ true → e.to ≡ p → model.IsWellFormed m p (model.step m p s e).0

module _ {M S B U : Type 0} (model : Ghosts M S B U) (m : M) (p : ℕ) where
  pub leads_push : (s t : S) (es : List (Event B)) (rs : List (UndoRecord B U)) (e : Event B) (r : UndoRecord B U) → LeadsByRecords model m p s es rs t → IsRecordOf model m p t e r → LeadsByRecords model m p s (es ++ e ∷ []) (rs ++ r ∷ []) (model.step m p t e).0
  leads_push s t [] [] e r h k = (subst (λ w. IsRecordOf model m p w e r) h k, ap (λ w. (model.step m p w e).0) h)
  leads_push s t [] (x ∷ xs) e r h k = absurd h
  leads_push s t (x ∷ xs) [] e r h k = absurd h
  leads_push s t (x ∷ xs) (y ∷ ys) e r h k = (h.0, leads_push (model.step m p s x).0 t xs ys e r h.1 k)

  none_left : (s t : S) (ys : List (UndoRecord B U)) (r : UndoRecord B U) → LeadsByRecords model m p s [] (ys ++ r ∷ []) t → ⊥
  none_left s t [] r h = h
  none_left s t (y ∷ ys) r h = h

  none_taken : (s t : S) (xs : List (Event B)) (e : Event B) → LeadsByRecords model m p s (xs ++ e ∷ []) [] t → ⊥
  none_taken s t [] e h = h
  none_taken s t (x ∷ xs) e h = h

  pub leads_pop : (s t : S) (es : List (Event B)) (rs : List (UndoRecord B U)) (e : Event B) (r : UndoRecord B U) → LeadsByRecords model m p s (es ++ e ∷ []) (rs ++ r ∷ []) t → (u : S) × LeadsByRecords model m p s es rs u × IsRecordOf model m p u e r × (t ≡ (model.step m p u e).0)
  leads_pop s t [] [] e r h = (s, refl, h.0, h.1)
  leads_pop s t [] (y ∷ ys) e r h = absurd (none_left (model.step m p s e).0 t ys r h.1)
  leads_pop s t (x ∷ xs) [] e r h = absurd (none_taken (model.step m p s x).0 t xs e h.1)
  leads_pop s t (x ∷ xs) (y ∷ ys) e r h = let q = leads_pop (model.step m p s x).0 t xs ys e r h.1 in (q.0, (h.0, q.1), q.2, q.3)

  -- what a chain leads to is the fold of its events
  pub leads_after : (s t : S) (es : List (Event B)) (rs : List (UndoRecord B U)) → LeadsByRecords model m p s es rs t → t ≡ state_after (model.step m p) s es
  leads_after s t [] [] h = h
  leads_after s t [] (r ∷ rs) h = absurd h
  leads_after s t (e ∷ es) [] h = absurd h
  leads_after s t (e ∷ es) (r ∷ rs) h = leads_after (model.step m p s e).0 t es rs h.1

  pub leads_length : (s t : S) (es : List (Event B)) (rs : List (UndoRecord B U)) → LeadsByRecords model m p s es rs t → length rs ≡ length es
  leads_length s t [] [] h = refl
  leads_length s t [] (r ∷ rs) h = absurd h
  leads_length s t (e ∷ es) [] h = absurd h
  leads_length s t (e ∷ es) (r ∷ rs) h = let n = leads_length (model.step m p s e).0 t es rs h.1 in omega arith

  pub leads_well_formed : KeepsWell model m → (s t : S) (es : List (Event B)) (rs : List (UndoRecord B U)) → model.IsWellFormed m p s → LeadsByRecords model m p s es rs t → model.IsWellFormed m p t
  leads_well_formed keeps s t [] [] w h = subst (model.IsWellFormed m p) (sym h) w
  leads_well_formed keeps s t [] (r ∷ rs) w h = absurd h
  leads_well_formed keeps s t (e ∷ es) [] w h = absurd h
  leads_well_formed keeps s t (e ∷ es) (r ∷ rs) w h = leads_well_formed keeps (model.step m p s e).0 t es rs (keeps p s e w h.0.valid h.0.here) h.1

  -- the first k done, the rest is a chain from there
  pub leads_drop : KeepsWell model m → (k : ℕ) (s t : S) (es : List (Event B)) (rs : List (UndoRecord B U)) → model.IsWellFormed m p s → LeadsByRecords model m p s es rs t
      → model.IsWellFormed m p (state_after (model.step m p) s (take k es)) × LeadsByRecords model m p (state_after (model.step m p) s (take k es)) (drop k es) (drop k rs) t
  leads_drop keeps zero s t es rs w h = (w, h)
  leads_drop keeps (suc k) s t [] [] w h = (w, h)
  leads_drop keeps (suc k) s t [] (r ∷ rs) w h = absurd h
  leads_drop keeps (suc k) s t (e ∷ es) [] w h = absurd h
  leads_drop keeps (suc k) s t (e ∷ es) (r ∷ rs) w h = leads_drop keeps k (model.step m p s e).0 t es rs (keeps p s e w h.0.valid h.0.here) h.1

module _ {M S B U : Type 0} (model : Ghosts M S B U) {cmp : Event B → Event B → Ordering} (o : IsExactOrder cmp) where
  -- the state is the fold of what is done
  pub linked_after : (x : HistoryState M S B) (rs : List (UndoRecord B U)) → IsLinked model cmp x rs → x.state ≡ state_after (model.step x.model x.number) x.start (x.committed ++ x.processed)
  linked_after x rs h =
      leads_after model x.model x.number (state_after (model.step x.model x.number) x.start x.committed) x.state x.processed rs h.leads
      ∙ sym (after-append (model.step x.model x.number) x.start x.committed x.processed)

  pub linked_well_formed : (x : HistoryState M S B) (rs : List (UndoRecord B U)) → KeepsWell model x.model → IsLinked model cmp x rs → model.IsWellFormed x.model x.number x.state
  linked_well_formed x rs keeps h = leads_well_formed model x.model x.number keeps (state_after (model.step x.model x.number) x.start x.committed) x.state x.processed rs h.well_formed h.leads

  leads_for : (m : M) (p : ℕ) (s t : S) (es : List (Event B)) (rs : List (UndoRecord B U)) → LeadsByRecords model m p s es rs t → Each cmp (IsFor model m p) es
  leads_for m p s t [] [] h = Each-nil o (IsFor model m p)
  leads_for m p s t [] (r ∷ rs) h = absurd h
  leads_for m p s t (e ∷ es) [] h = absurd h
  leads_for m p s t (e ∷ es) (r ∷ rs) h = Each-cons o (IsFor model m p) e es (h.0.valid, h.0.here) (leads_for m p (model.step m p s e).0 t es rs h.1)

  -- what is processed is for the process
  pub linked_for : (x : HistoryState M S B) (rs : List (UndoRecord B U)) → IsLinked model cmp x rs → Each cmp (IsFor model x.model x.number) x.processed
  linked_for x rs h = leads_for x.model x.number (state_after (model.step x.model x.number) x.start x.committed) x.state x.processed rs h.leads

  -- one more is executed
  pub linked_push : (x : HistoryState M S B) (rs all : List (UndoRecord B U)) (events : List (Event B)) (now : S) (e : Event B) (r : UndoRecord B U) → IsLinked model cmp x rs → IsRecordOf model x.model x.number x.state e r
      → all ≡ rs ++ r ∷ [] → events ≡ x.processed ++ e ∷ [] → now ≡ (model.step x.model x.number x.state e).0 → IsAscending cmp ((x.committed ++ x.processed) ++ e ∷ [])
      → IsLinked model cmp (record { model = x.model; number = x.number; start = x.start; committed = x.committed; processed = events; state = now }) all
  linked_push x rs all events now e r h k rs_is es_is now_is up = record {
    number = h.number;
    start = h.start;
    well_formed = h.well_formed;
    leads = rw (rs_is, es_is, now_is) (leads_push model x.model x.number (state_after (model.step x.model x.number) x.start x.committed) x.state x.processed rs e r h.leads k);
    committed = h.committed;
    order = subst (IsAscending cmp) (append_assoc x.committed x.processed (e ∷ []) ∙ ap (λ l. x.committed ++ l) (sym es_is)) up;
  }

  -- the last one and its record
  pub linked_last : (x : HistoryState M S B) (front : List (Event B)) (e : Event B) (all rs : List (UndoRecord B U)) (r : UndoRecord B U) → KeepsWell model x.model → x.processed ≡ front ++ e ∷ [] → all ≡ rs ++ r ∷ [] → IsLinked model cmp x all
      → let u : S = state_after (model.step x.model x.number) x.start (x.committed ++ front) in model.IsWellFormed x.model x.number u × IsRecordOf model x.model x.number u e r × (x.state ≡ (model.step x.model x.number u e).0) × IsLinked model cmp (record { model = x.model; number = x.number; start = x.start; committed = x.committed; processed = front; state = u }) rs
  linked_last x front e all rs r keeps is all_is h =
      let m = x.model in
      let p = x.number in
      let s : S = state_after (model.step m p) x.start x.committed in
      let q = leads_pop model m p s x.state front rs e r (subst (λ l. LeadsByRecords model m p s (front ++ e ∷ []) l x.state) all_is (subst (λ es. LeadsByRecords model m p s es all x.state) is h.leads)) in
      let u : S = state_after (model.step m p) x.start (x.committed ++ front) in
      let same : q.0 ≡ u = leads_after model m p s q.0 front rs q.1 ∙ sym (after-append (model.step m p) x.start x.committed front) in (
        subst (model.IsWellFormed m p) same (leads_well_formed model m p keeps s q.0 front rs h.well_formed q.1),
        subst (λ w. IsRecordOf model m p w e r) same q.2,
        subst (λ w. x.state ≡ (model.step m p w e).0) same q.3,
        record {
          number = h.number;
          start = h.start;
          well_formed = h.well_formed;
          leads = subst (LeadsByRecords model m p s front rs) same q.1;
          committed = h.committed;
          order = IsAscending-front o (x.committed ++ front) (e ∷ []) (subst (IsAscending cmp) (ap (λ l. x.committed ++ l) is ∙ sym (append_assoc x.committed front (e ∷ []))) h.order);
        },
      )

  -- the first k are committed
  pub linked_commit : (x : HistoryState M S B) (rs : List (UndoRecord B U)) (k : ℕ) (committed kept : List (Event B)) (left : List (UndoRecord B U)) → KeepsWell model x.model → IsLinked model cmp x rs
      → committed ≡ x.committed ++ take k x.processed → kept ≡ drop k x.processed → left ≡ drop k rs
      → IsLinked model cmp (record { model = x.model; number = x.number; start = x.start; committed = committed; processed = kept; state = x.state }) left
  linked_commit x rs k committed kept left keeps h c_is k_is l_is =
      let m = x.model in
      let p = x.number in
      let s : S = state_after (model.step m p) x.start x.committed in
      let q = leads_drop model m p keeps k s x.state x.processed rs h.well_formed h.leads in
      let first : Each cmp (IsFor model m p) (take k x.processed) =
      Each-front o (IsFor model m p) (take k x.processed) (drop k x.processed) (subst (Each cmp (IsFor model m p)) (sym (take-append-drop k x.processed)) (linked_for x rs h)) in
      let joined : committed ++ kept ≡ x.committed ++ x.processed =
      ap (λ l. l ++ kept) c_is
      ∙ ap (λ l. (x.committed ++ take k x.processed) ++ l) k_is
      ∙ append_assoc x.committed (take k x.processed) (drop k x.processed)
      ∙ ap (λ l. x.committed ++ l) (take-append-drop k x.processed) in
      let same : state_after (model.step m p) s (take k x.processed) ≡ state_after (model.step m p) x.start committed = sym (ap (state_after (model.step m p) x.start) c_is ∙ after-append (model.step m p) x.start x.committed (take k x.processed)) in
      record {
        number = h.number;
        start = h.start;
        well_formed = subst (model.IsWellFormed m p) same q.0;
        leads = rw (k_is, l_is) (subst (λ w. LeadsByRecords model m p w (drop k x.processed) (drop k rs) x.state) same q.1);
        committed = subst (Each cmp (IsFor model m p)) (sym c_is) (Each-append o (IsFor model m p) x.committed (take k x.processed) h.committed first);
        order = subst (IsAscending cmp) (sym joined) h.order;
      }

pub past_same : {M S B : Type 0} (m : M) (n : ℕ) (s t : S) (a b c d : List (Event B)) → a ≡ b → c ≡ d → (let x : HistoryState M S B = record { model = m; number = n; start = s; committed = a; processed = c; state = t } in x) ≡ record { model = m; number = n; start = s; committed = b; processed = d; state = t }
past_same {M} {S} {B} m n s t a b c d p q =
    let made : List (Event B) → List (Event B) → HistoryState M S B = λ u v. record { model = m; number = n; start = s; committed = u; processed = v; state = t } in
    ap (λ u. made u c) p ∙ ap (made b) q
