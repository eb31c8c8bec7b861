-- Rows and columns of rings, as they grow, and the ports that are made of them.
use Rattle.std.proofs.Common.{◌≡◌, ◌≢◌, ℕ, zero, suc, ◌+◌, ◌<◌, List, [], ◌∷◌, ◌++◌, map, length, get_or, sym, refl, ap, ◌∙◌, subst, All, Option, Some, None, IsSome, not, ne_eqb, arith}
use Rattle.std.proofs.lemmas.List.{get_or-map, get_or_push, get_or_append_left, get_or_at, length-append, length-map, map_push, append_assoc, append-nil}
use Rattle.std.proofs.lemmas.List.Elements.{All-nil, All-head, All-tail, All-push, All-cons}
use native.Mathlib.Decide.{ℕ_discrete}
use Rattle.std.specs.declared.alloc.Global.{Global}
use Rattle.rtrb.specs.declared.producer.Producer.{Producer}
use Rattle.rtrb.specs.declared.consumer.Consumer.{Consumer}
use Rattle.rw_exchange.specs.Rings.{Ring, Row, out_table, out_ring, in_ring, out_free, KnowsFree, push_each, AllButOwn, cell, AreCrossed}
use Rattle.rw_exchange.specs.Ports.{PortState, IsOpening, IsOther, free_to, outs_of, intos_of}
use Rattle.rw_exchange.proofs.Tables.{length-push_each}

-- the last of a list that is one longer than n, or one before it
pub at_or_before : (P : ℕ → Type 0) (n i : ℕ) → i < n + 1 → (i < n → P i) → P n → Dec (i ≡ n) → P i
at_or_before P n i lt f p (yes e) = subst P (sym e) p
at_or_before P n i lt f p (no ne) = f (omega arith)

module _ {X : Type 0} where
  pub push_get : (cs : List (List X)) (xs : List X) (j : ℕ) (d : X) → j < length cs → length xs ≡ length cs → get_or (push_each cs xs) j [] ≡ get_or cs j [] ++ get_or xs j d ∷ []
  push_get [] xs j d lt e = absurd (omega arith)
  push_get (c ∷ cs) [] j d lt e = absurd (omega arith)
  push_get (c ∷ cs) (x ∷ xs) zero d lt e = refl
  push_get (c ∷ cs) (x ∷ xs) (suc j) d lt e = push_get cs xs j d (omega arith) (omega arith)

  pub all_pushed : (m : ℕ) (cs : List (List X)) (xs : List X) → length xs ≡ length cs → All (λ (c : List X). length c ≡ m) cs → All (λ (c : List X). length c ≡ m + 1) (push_each cs xs)
  all_pushed m [] xs e all = All-nil (λ (c : List X). length c ≡ m + 1)
  all_pushed m (c ∷ cs) [] e all = absurd (omega arith)
  all_pushed m (c ∷ cs) (x ∷ xs) e all = All-cons (λ (c : List X). length c ≡ m + 1) (c ++ x ∷ []) (push_each cs xs) (length-append c (x ∷ []) ∙ ap (λ (n : ℕ). n + 1) (All-head (λ (c : List X). length c ≡ m) c cs all))
      (all_pushed m cs xs (omega arith) (All-tail (λ (c : List X). length c ≡ m) c cs all))

pub crossed_none : (n : ℕ) (columns : List (List (Option Ring))) → length columns ≡ n → All (λ (c : List (Option Ring)). length c ≡ 0) columns → AreCrossed n 0 [] columns
crossed_none n columns long none = record {
  senders = refl;
  receivers = long;
  wide = All-nil (λ (r : List (Option Ring)). length r ≡ n);
  deep = none;
  paired = λ i j l k. absurd (omega arith);
  others = λ i l. absurd (omega arith);
}

module _ (n m : ℕ) (rows columns : List (List (Option Ring))) (r : List (Option Ring)) (h : AreCrossed n m rows columns) (long : length r ≡ n) (own : AllButOwn m r) where
  now : List (List (Option Ring))
  now = rows ++ r ∷ []

  last_row : get_or (rows ++ r ∷ []) m [] ≡ r
  last_row = get_or_push rows r [] m h.senders

  earlier_row : (i : ℕ) → i < m → get_or (rows ++ r ∷ []) i [] ≡ get_or rows i []
  earlier_row i l = get_or_append_left rows (r ∷ []) [] i (omega (arith, h.senders))

  column : (j : ℕ) → j < n → get_or (push_each columns r) j [] ≡ get_or columns j [] ++ get_or r j None ∷ []
  column j l = push_get columns r j None (omega (arith, h.receivers)) (long ∙ sym h.receivers)

  pub crossed_more : AreCrossed n (m + 1) (rows ++ r ∷ []) (push_each columns r)
  crossed_more = record {
    senders = length-append rows (r ∷ []) ∙ ap (λ (k : ℕ). k + 1) h.senders;
    receivers = length-push_each columns r ∙ h.receivers;
    wide = All-push (λ (r : List (Option Ring)). length r ≡ n) rows r h.wide long;
    deep = all_pushed m columns r (long ∙ sym h.receivers) h.deep;
    paired = λ i j l k. let deep : length (get_or columns j []) ≡ m = h.deep j [] (omega (arith, h.receivers)) in
        at_or_before (λ i. cell (rows ++ r ∷ []) i j ≡ cell (push_each columns r) j i) m i l
        (λ before. ap (λ xs. get_or xs j None) (earlier_row i before) ∙ (h.paired i j before k
        ∙ (sym (get_or_append_left (get_or columns j []) (get_or r j None ∷ []) None i (omega arith)) ∙ ap (λ xs. get_or xs i None) (sym (column j k)))))
        (ap (λ xs. get_or xs j None) last_row ∙ (sym (get_or_push (get_or columns j []) (get_or r j None) None m deep) ∙ ap (λ xs. get_or xs m None) (sym (column j k)))) (ℕ_discrete i m);
    others = λ i l. at_or_before (λ i. AllButOwn i (get_or (rows ++ r ∷ []) i [])) m i l
        (λ before. subst (AllButOwn i) (sym (earlier_row i before)) (h.others i before)) (subst (AllButOwn m) (sym last_row) own) (ℕ_discrete i m);
  }

module _ {T P : Type 0} where
  out_there : (x : Option (Producer T Global P)) → IsSome (out_ring x) → IsSome x
  out_there None h = h
  out_there (Some p) h = refl

  out_here : (x : Option (Producer T Global P)) → IsSome x → IsSome (out_ring x)
  out_here None h = h
  out_here (Some p) h = refl

  in_there : (x : Option (Consumer T Global P)) → IsSome (in_ring x) → IsSome x
  in_there None h = h
  in_there (Some c) h = refl

  in_here : (x : Option (Consumer T Global P)) → IsSome x → IsSome (in_ring x)
  in_here None h = h
  in_here (Some c) h = refl

  -- an end is still there where all rings are the same
  pub end_there : (olds news : List (Option (Consumer T Global P))) (k : ℕ) → map in_ring news ≡ map in_ring olds → k < length olds → IsSome (get_or olds k None) → IsSome (get_or news k None)
  end_there olds news k e lt some =
      let lt' : k < length news = subst (λ z. k < z) (sym (length-map olds in_ring) ∙ (ap length (sym e) ∙ length-map news in_ring)) lt in
      in_there (get_or news k None) (subst IsSome (sym (get_or-map in_ring olds k None None lt) ∙ (ap (λ z. get_or z k None) (sym e) ∙ get_or-map in_ring news k None None lt')) (in_here (get_or olds k None) some))

  pub out_end_there : (olds news : List (Option (Producer T Global P))) (k : ℕ) → map out_ring news ≡ map out_ring olds → k < length olds → IsSome (get_or olds k None) → IsSome (get_or news k None)
  out_end_there olds news k e lt some =
      let lt' : k < length news = subst (λ z. k < z) (sym (length-map olds out_ring) ∙ (ap length (sym e) ∙ length-map news out_ring)) lt in
      out_there (get_or news k None) (subst IsSome (sym (get_or-map out_ring olds k None None lt) ∙ (ap (λ z. get_or z k None) (sym e) ∙ get_or-map out_ring news k None None lt')) (out_here (get_or olds k None) some))

  -- the ends of one worker
  pub ends_fit : (n own : ℕ) (rows columns : List (List (Option Ring))) (outs : List (Option (Producer T Global P))) (ins : List (Option (Consumer T Global P))) → AreCrossed n n rows columns → own < n
      → get_or rows own [] ≡ map out_ring outs → get_or columns own [] ≡ map in_ring ins
      → (length outs ≡ n) × (length ins ≡ n) × ((k : ℕ) → k < length outs → k ≢ own → IsSome (get_or outs k None) × IsSome (get_or ins k None))
  ends_fit n own rows columns outs ins h within row column =
      let wide : length outs ≡ n = sym (length-map outs out_ring) ∙ (ap length (sym row) ∙ h.wide own [] (omega (arith, h.senders))) in
      let deep : length ins ≡ n = sym (length-map ins in_ring) ∙ (ap length (sym column) ∙ h.deep own [] (omega (arith, h.receivers))) in (
        wide,
        deep,
        λ k l other. (
          out_there (get_or outs k None) (subst IsSome (ap (λ xs. get_or xs k None) row ∙ get_or-map out_ring outs k None None l)
              (h.others own within k (subst (λ z. k < z) (sym (ap length row ∙ length-map outs out_ring)) l) ∙ ap not (ne_eqb k own other))),
          in_there (get_or ins k None) (subst IsSome (h.paired k own (omega arith) within ∙ (ap (λ xs. get_or xs k None) column ∙ get_or-map in_ring ins k None None (omega arith)))
              (h.others k (omega arith) own (subst (λ z. own < z) (sym (h.wide k [] (omega (arith, h.senders)))) within) ∙ ap not (ne_eqb own k (λ e. other (sym e))))),
        ),
      )

pub all_nothing : {A X : Type 0} (f : A → List X) (xs : List A) → All (λ x. f x ≡ []) xs → (k : ℕ) → get_or (map f xs) k [] ≡ []
all_nothing f [] all k = refl
all_nothing f (x ∷ xs) all zero = All-head (λ x. f x ≡ []) x xs all
all_nothing f (x ∷ xs) all (suc k) = all_nothing f xs (All-tail (λ x. f x ≡ []) x xs all) k

module _ {T P : Type 0} where
  free_is : (n : ℕ) (x : Option (Producer T Global P)) → KnowsFree n x → IsSome x → out_free x ≡ n
  free_is n None h some = absurd (cc)
  free_is n (Some p) h some = h

  -- what a new port knows to be free
  pub all_free : (n : ℕ) (outs : List (Option (Producer T Global P))) (p : PortState T) → All (KnowsFree n) outs → p.out ≡ map out_ring outs → p.free ≡ map out_free outs
      → ((k : ℕ) → k < length outs → k ≢ p.worker → IsSome (get_or outs k None)) → (k : ℕ) → IsOther p k → free_to p k ≡ n
  all_free n outs p all out free some k other =
      let lt : k < length outs = subst (λ z. k < z) (ap length out ∙ length-map outs out_ring) other.0 in
      ap (λ z. get_or z k 0) free ∙ (get_or-map out_free outs k None 0 lt ∙ free_is n (get_or outs k None) (all k None lt) (some k lt other.1))

module _ {T P : Type 0} where
  known_of : (n : ℕ) (ps : List (PortState T)) (rows : List (Row T P)) (d : Row T P) → IsOpening ps → outs_of ps ≡ out_table rows → map (λ (p : PortState T). p.free) ps ≡ map (λ (r : Row T P). map out_free r.items) rows
      → All (λ (r : Row T P). All (KnowsFree n) r.items) rows → All (λ (p : PortState T). (k : ℕ) → IsOther p k → free_to p k ≡ n) ps
  known_of n ps rows d h out free all i e lt =
      let within : i < length rows = subst (λ z. i < z) (sym (length-map ps (λ p. p.out)) ∙ (ap length out ∙ length-map rows (λ r. map out_ring r.items))) lt in
      let row : (get_or ps i e).out ≡ map out_ring (get_or rows i d).items = sym (get_or-map (λ p. p.out) ps i e [] lt) ∙ (ap (λ z. get_or z i []) out ∙ get_or-map (λ r. map out_ring r.items) rows i d [] within) in
      all_free n (get_or rows i d).items (get_or ps i e) (all i d within) row
      (sym (get_or-map (λ p. p.free) ps i e [] lt) ∙ (ap (λ z. get_or z i []) free ∙ get_or-map (λ r. map out_free r.items) rows i d [] within))
      (λ k l other. out_there (get_or (get_or rows i d).items k None) (subst IsSome (ap (λ xs. get_or xs k None) (get_or-map (λ p. p.out) ps i e [] lt ∙ row) ∙ get_or-map out_ring (get_or rows i d).items k None None l)
      (h.others i lt k (subst (λ z. k < z) (sym (ap length (get_or-map (λ p. p.out) ps i e [] lt ∙ row) ∙ length-map (get_or rows i d).items out_ring)) l) ∙ ap not (ne_eqb k i (λ same. other (same ∙ sym (h.numbered i e lt)))))))

  -- what the ports of an opening know to be free
  pub all_know : (n : ℕ) (ps : List (PortState T)) (rows : List (Row T P)) → IsOpening ps → outs_of ps ≡ out_table rows → map (λ (p : PortState T). p.free) ps ≡ map (λ (r : Row T P). map out_free r.items) rows
      → All (λ (r : Row T P). All (KnowsFree n) r.items) rows → All (λ (p : PortState T). (k : ℕ) → IsOther p k → free_to p k ≡ n) ps
  all_know n ps [] h out free all = λ i e lt. let none : length ps ≡ 0 = sym (length-map ps (λ p. p.out)) ∙ ap length out in absurd (omega (arith, none))
  all_know n ps (r ∷ rs) h out free all = known_of n ps (r ∷ rs) r h out free all

-- the next of a list that is walked
pub next_is : {A B : Type 0} (f : A → B) (done whole : List B) (rest rest' : List A) (x : A) (n : ℕ) (d : B) → done ++ map f rest ≡ whole → rest ≡ x ∷ rest' → length done ≡ n → get_or whole n d ≡ f x
next_is f done whole rest rest' x n d e r long = ap (λ w. get_or w n d) (sym e) ∙ (ap (λ r. get_or (done ++ map f r) n d) r ∙ get_or_at done (f x) (map f rest') d n long)

pub moves_on : {A B C : Type 0} (f : A → B) (h : C → B) (done done' : List C) (whole : List B) (rest rest' : List A) (x : A) (p : C) → map h done ++ map f rest ≡ whole → rest ≡ x ∷ rest' → h p ≡ f x → done' ≡ done ++ p ∷ []
    → map h done' ++ map f rest' ≡ whole
moves_on f h done done' whole rest rest' x p e r same more =
    ap (λ z. map h z ++ map f rest') more ∙ (ap (λ z. z ++ map f rest') (map_push h done p)
    ∙ (append_assoc (map h done) (h p ∷ []) (map f rest') ∙ (ap (λ z. map h done ++ (z ∷ map f rest')) same ∙ (ap (λ z. map h done ++ map f z) (sym r) ∙ e))))

pub all_walked : {A B C : Type 0} (f : A → B) (h : C → B) (done : List C) (whole : List B) (rest : List A) → map h done ++ map f rest ≡ whole → rest ≡ [] → map h done ≡ whole
all_walked f h done whole rest e none = sym (append-nil (map h done)) ∙ (ap (λ z. map h done ++ map f z) (sym none) ∙ e)

module _ {T : Type 0} where
  pub numbered_more : (fs fs' : List (PortState T)) (f : PortState T) → ((i : ℕ) (d : PortState T) → i < length fs → (get_or fs i d).worker ≡ i) → f.worker ≡ length fs → fs' ≡ fs ++ f ∷ []
      → (i : ℕ) (d : PortState T) → i < length fs' → (get_or fs' i d).worker ≡ i
  numbered_more fs fs' f old new more i d lt =
      let lt' : i < length fs + 1 = subst (λ z. i < z) (ap length more ∙ length-append fs (f ∷ [])) lt in
      ap (λ z. (get_or z i d).worker) more ∙ at_or_before (λ i. (get_or (fs ++ f ∷ []) i d).worker ≡ i) (length fs) i lt'
      (λ before. ap (λ z. z.worker) (get_or_append_left fs (f ∷ []) d i before) ∙ old i d before)
      (ap (λ z. z.worker) (get_or_push fs f d (length fs) refl) ∙ new) (ℕ_discrete i (length fs))

  pub opening_of : (fs : List (PortState T)) (n : ℕ) (rows columns : List (List (Option Ring))) → length fs ≡ n → outs_of fs ≡ rows → intos_of fs ≡ columns → AreCrossed n n rows columns
      → ((i : ℕ) (d : PortState T) → i < length fs → (get_or fs i d).worker ≡ i) → All (λ (f : PortState T). (length f.sent ≡ length f.out) × (length f.received ≡ length f.into)) fs → IsOpening fs
  opening_of fs n rows columns long out into h numbered lists = record {
    numbered = numbered;
    wide = λ k d lt.
        let o : length (get_or fs k d).out ≡ length fs = ap length (sym (get_or-map (λ f. f.out) fs k d [] lt)) ∙ (ap (λ z. length (get_or z k [])) out ∙ (h.wide k [] (omega (arith, h.senders)) ∙ sym long)) in
        let e : length (get_or fs k d).into ≡ length fs = ap length (sym (get_or-map (λ f. f.into) fs k d [] lt)) ∙ (ap (λ z. length (get_or z k [])) into ∙ (h.deep k [] (omega (arith, h.receivers)) ∙ sym long)) in
        (o, e, (lists k d lt).0 ∙ o, (lists k d lt).1 ∙ e);
    others = λ i l. subst (λ z. AllButOwn i (get_or z i [])) (sym out) (h.others i (omega arith));
    paired = λ i j l k. ap (λ z. cell z i j) out ∙ (h.paired i j (omega arith) (omega arith) ∙ ap (λ z. cell z j i) (sym into));
  }

  row_fits : (fs : List (PortState T)) (d : PortState T) (out into : List (List (Option Ring))) (i : ℕ) (xs : List (Option Ring)) → IsOpening fs → out ≡ outs_of fs → into ≡ intos_of fs → i < length fs → get_or out i [] ≡ xs
      → (length xs ≡ length fs) × (length into ≡ length fs) × ((j : ℕ) → j < length fs → i < length (get_or into j [])) × ((j : ℕ) → j < length fs → get_or xs j None ≡ cell into j i)
  row_fits fs d out into i xs h o e lt is = (
    ap length (sym is) ∙ (ap (λ z. length (get_or z i [])) o ∙ (ap length (get_or-map (λ f. f.out) fs i d [] lt) ∙ (h.wide i d lt).0)),
    ap length e ∙ length-map fs (λ f. f.into),
    λ j l. subst (λ z. i < z) (sym (ap (λ z. length (get_or z j [])) e ∙ (ap length (get_or-map (λ f. f.into) fs j d [] l) ∙ (h.wide j d l).1))) lt,
    λ j l. ap (λ z. get_or z j None) (sym is) ∙ (ap (λ z. cell z i j) o ∙ (h.paired i j lt l ∙ ap (λ z. cell z j i) (sym e))),
  )

  pub row_fit : (fs : List (PortState T)) (out into : List (List (Option Ring))) (i : ℕ) (xs : List (Option Ring)) → IsOpening fs → out ≡ outs_of fs → into ≡ intos_of fs → i < length fs → get_or out i [] ≡ xs
      → (length xs ≡ length fs) × (length into ≡ length fs) × ((j : ℕ) → j < length fs → i < length (get_or into j [])) × ((j : ℕ) → j < length fs → get_or xs j None ≡ cell into j i)
  row_fit [] out into i xs h o e lt is = absurd (omega arith)
  row_fit (f ∷ fs) out into i xs h o e lt is = row_fits (f ∷ fs) f out into i xs h o e lt is
