-- What a change of one end does to what a contract sees of a port.
use Rattle.std.proofs.Common.{◌≡◌, ℕ, ◌+◌, ◌<◌, ◌≤◌, List, [], ◌∷◌, ◌++◌, map, length, take, get_or, set, sym, ap, ◌∙◌, subst, refl, Option, Some, None, IfSome, IfNone, Result, Ok, Err, OnOk, OnErr, IfErr, arith}
use Rattle.std.proofs.lemmas.List.{get_or_read, get_or-map, get_or-set_same, map-set, length-map, length-set}
use Rattle.std.proofs.Math.Seq.{take-append_seam}
use lib.Seq.{map-set_same}
use Rattle.std.specs.declared.alloc.Global.{Global}
use Rattle.rtrb.specs.declared.producer.Producer.{Producer}
use Rattle.rtrb.specs.declared.consumer.Consumer.{Consumer}
use Rattle.rw_exchange.specs.Rings.{out_ring, in_ring, out_sent, out_free, in_received}
use Rattle.rw_exchange.specs.Ports.{PortState, SamePort, sent_to, free_to, received_from, after_sending, after_receiving}

pub if_none_then : {X P Q : Type 0} (r : Option X) → (P → Q) → IfNone r P → IfNone r Q
if_none_then None f p = f p
if_none_then (Some x) f p = p

pub err_too : {X E : Type 0} (P : E → Type 0) (Q : Type 0) (r : Result X E) → IfErr r P → OnErr r Q → IfErr r (λ e. P e × Q)
err_too P Q (Ok x) p q = p
err_too P Q (Err e) p q = (p, q)

pub one_less : (a b c d : ℕ) → a ≡ b → c ≡ d → b ≤ d + 1 → a ≤ c + 1
one_less a b c d e f le = omega (arith, e, f, le)

pub stays : {A B : Type 0} (f : A → B) (l : List A) (k : ℕ) (old new : A) → k < length l → old ≡ get_or l k old → f new ≡ f old → map f (set l k new) ≡ map f l
stays f l k old new lt at e = map-set_same f l k new new (e ∙ ap f (get_or_read l k old lt at new))

-- a list that was changed in place, as long as it was
pub whole : {A : Type 0} (n : ℕ) (xs ys : List A) → n ≡ length xs → take n (xs ++ ys) ≡ xs
whole n xs ys e = ap (λ m. take m (xs ++ ys)) e ∙ take-append_seam xs ys

grows : {A X : Type 0} (f : A → List X) (l : List A) (k : ℕ) (old new : A) (x : X) → k < length l → old ≡ get_or l k old → f new ≡ f old ++ x ∷ []
    → map f (set l k new) ≡ set (map f l) k (get_or (map f l) k [] ++ x ∷ [])
grows f l k old new x lt at e = map-set f l k new ∙ ap (set (map f l) k) (e ∙ ap (λ y. y ++ x ∷ []) (sym (get_or-map f l k old [] lt ∙ ap f (sym at))))

module _ {T P : Type 0} where
  abbrev pub shows : ℕ → ℕ → List (Option (Producer T Global P)) → List (Option (Consumer T Global P)) → PortState T
  shows w n outs ins = record { worker = w; capacity = n; out = map out_ring outs; into = map in_ring ins; sent = map out_sent outs; received = map in_received ins; free = map out_free outs }

  module _ (w n : ℕ) (outs : List (Option (Producer T Global P))) (ins : List (Option (Consumer T Global P))) (f : PortState T) (is : shows w n outs ins ≡ f) (k : ℕ) where
    pub within_outs : k < length f.out → k < length outs
    within_outs h = subst (λ (z : ℕ). k < z) (ap (λ (h : PortState T). length h.out) (sym is) ∙ length-map outs out_ring) h

    pub within_ins : length ins ≡ length outs → k < length f.out → k < length ins
    within_ins same h = subst (λ (z : ℕ). k < z) (sym same) (within_outs h)

    -- what the port knows to be free, once the end k is another one
    pub free_now : (new : Option (Producer T Global P)) → k < length outs → free_to (shows w n (set outs k new) ins) k ≡ out_free new
    free_now new lt = ap (λ l. get_or l k 0) (map-set out_free outs k new) ∙ get_or-set_same (map out_free outs) k (out_free new) 0 (subst (λ (z : ℕ). k < z) (sym (length-map outs out_free)) lt)

    pub sends : (old new : Option (Producer T Global P)) (x : T) → k < length outs → old ≡ get_or outs k old → out_ring new ≡ out_ring old → out_sent new ≡ out_sent old ++ x ∷ []
        → shows w n (set outs k new) ins ≡ after_sending f k x (free_to (shows w n (set outs k new) ins) k)
    sends old new x lt at ring more =
        let now = shows w n (set outs k new) ins in
        let a = stays out_ring outs k old new lt at ring in
        let b = grows out_sent outs k old new x lt at more in
        let e : map out_free (set outs k new) ≡ set (map out_free outs) k (free_to now k) = map-set out_free outs k new ∙ ap (set (map out_free outs) k) (sym (free_now new lt)) in
        let c : now ≡ after_sending (shows w n outs ins) k x (free_to now k) = λ i. record { worker = w; capacity = n; out = a i; into = map in_ring ins; sent = b i; received = map in_received ins; free = e i } in
        c ∙ ap (λ h. after_sending h k x (free_to now k)) is

    pub sends_nothing : (old new : Option (Producer T Global P)) → k < length outs → old ≡ get_or outs k old → out_ring new ≡ out_ring old → out_sent new ≡ out_sent old → out_free new ≡ out_free old → shows w n (set outs k new) ins ≡ f
    sends_nothing old new lt at ring same known =
        let a = stays out_ring outs k old new lt at ring in
        let b = stays out_sent outs k old new lt at same in
        let e = stays out_free outs k old new lt at known in
        let c : shows w n (set outs k new) ins ≡ shows w n outs ins = λ i. record { worker = w; capacity = n; out = a i; into = map in_ring ins; sent = b i; received = map in_received ins; free = e i } in
        c ∙ is

    pub receives : (old new : Option (Consumer T Global P)) (x : T) → k < length ins → old ≡ get_or ins k old → in_ring new ≡ in_ring old → in_received new ≡ in_received old ++ x ∷ []
        → shows w n outs (set ins k new) ≡ after_receiving f k x
    receives old new x lt at ring more =
        let a = stays in_ring ins k old new lt at ring in
        let b = grows in_received ins k old new x lt at more in
        let c : shows w n outs (set ins k new) ≡ after_receiving (shows w n outs ins) k x = λ i. record { worker = w; capacity = n; out = map out_ring outs; into = a i; sent = map out_sent outs; received = b i; free = map out_free outs } in
        c ∙ ap (λ h. after_receiving h k x) is

    pub receives_nothing : (old new : Option (Consumer T Global P)) → k < length ins → old ≡ get_or ins k old → in_ring new ≡ in_ring old → in_received new ≡ in_received old → shows w n outs (set ins k new) ≡ f
    receives_nothing old new lt at ring same =
        let a = stays in_ring ins k old new lt at ring in
        let b = stays in_received ins k old new lt at same in
        let c : shows w n outs (set ins k new) ≡ shows w n outs ins = λ i. record { worker = w; capacity = n; out = map out_ring outs; into = a i; sent = map out_sent outs; received = b i; free = map out_free outs } in
        c ∙ is

    pub sent_is : (old : Option (Producer T Global P)) → k < length outs → old ≡ get_or outs k old → sent_to f k ≡ out_sent old
    sent_is old lt at = ap (λ (h : PortState T). sent_to h k) (sym is) ∙ (get_or-map out_sent outs k old [] lt ∙ ap out_sent (sym at))

    pub free_is : (old : Option (Producer T Global P)) → k < length outs → old ≡ get_or outs k old → free_to f k ≡ out_free old
    free_is old lt at = ap (λ (h : PortState T). free_to h k) (sym is) ∙ (get_or-map out_free outs k old 0 lt ∙ ap out_free (sym at))

module _ {T : Type 0} where
  pub same_still : (p : PortState T) → SamePort p p
  same_still p = record { worker = refl; capacity = refl; out = refl; into = refl; sent = refl; received = refl }

  -- whatever a send answers, the port is the same
  pub same_sent : (result : Result Unit T) (p q : PortState T) (k : ℕ) (x : T) → OnOk result (q ≡ after_sending p k x (free_to q k)) → IfErr result (λ y. (y ≡ x) × (q ≡ p)) → SamePort p q
  same_sent (Ok u) p q k x ok err = subst (SamePort p) (sym ok) (record { worker = refl; capacity = refl; out = refl; into = refl; sent = length-set p.sent k (sent_to p k ++ x ∷ []); received = refl })
  same_sent (Err y) p q k x ok err = subst (SamePort p) (sym err.1) (same_still p)

  -- whatever a receive answers, the port is the same
  pub same_received : (result : Option T) (p q : PortState T) (k : ℕ) → IfSome result (λ x. q ≡ after_receiving p k x) → IfNone result (q ≡ p) → SamePort p q
  same_received (Some x) p q k some none = subst (SamePort p) (sym some) (record { worker = refl; capacity = refl; out = refl; into = refl; sent = refl; received = length-set p.received k (received_from p k ++ x ∷ []) })
  same_received None p q k some none = subst (SamePort p) (sym none) (same_still p)
