-- The different ones of some texts: each has a place, which stays, and no two have one.
use Rattle.std.proofs.Common.{◌≡◌, ◌<◌, ◌+◌, ◌∙◌, ℕ, List, [], ◌∷◌, ◌++◌, Bool, true, false, All, Some, None, cond, fold, length, map, zero, suc, refl, sym, ap, arith}
use Rattle.std.specs.Prelude.{◌||◌, nat_lt, not, slice_index, slice_index_or}
use Rattle.std.specs.List.{list_any, position, position_or_len}
use Rattle.std.specs.Global.{Vec}
use Rattle.std.specs.Cmp.Lexicographic.{same_text}
use Rattle.std.proofs.lemmas.Cmp.{nat_list_eq_equiv}
use Rattle.std.proofs.lemmas.Grind.{common_steps}
use Rattle.std.proofs.lemmas.List.{get_or-map, length-append, map-append}
use Rattle.std.proofs.lemmas.List.Elements.{All-cons, All-nil}
use Rattle.std.proofs.lemmas.List.Sums.{fold-append, position_or_len_is, prefix_len_stops}
use Rattle.csv.specs.Records.{field_at}
use Rattle.indexmap.specs.IndexSet.{insert_key}
use Rattle.rw_trace.specs.Words.{Text}
use Rattle.rw_import.specs.Csv.{HaveOneNumberEach, different, field_in, is_same_text, number_among, with_text}

-- ---- where a test first passes
-- a place before the end stays where more comes behind
place-stays : {X : Type 0} (p : X → Bool) (xs ys : List X) → position_or_len p xs < length xs → position_or_len p (xs ++ ys) ≡ position_or_len p xs
place-stays p [] ys h = absurd (omega arith)
place-stays p (x ∷ xs) ys h = by (p x) refl (place-stays p xs ys)
  where
    by : (b : Bool) → p x ≡ b → (position_or_len p xs < length xs → position_or_len p (xs ++ ys) ≡ position_or_len p xs) → position_or_len p ((x ∷ xs) ++ ys) ≡ position_or_len p (x ∷ xs)
    by true e more = rw e refl
    by false e more =
        let less : 1 + position_or_len p xs < length (x ∷ xs) = rw e at h in
        rw e (ap (λ (n : ℕ). 1 + n) (more (omega arith)))

-- where some element passes there is such a place
place-there : {X : Type 0} (p : X → Bool) (xs : List X) → list_any p xs ≡ true → position_or_len p xs < length xs
place-there p [] h = absurd (cc)
place-there p (x ∷ xs) h = by (p x) refl (place-there p xs)
  where
    by : (b : Bool) → p x ≡ b → (list_any p xs ≡ true → position_or_len p xs < length xs) → position_or_len p (x ∷ xs) < length (x ∷ xs)
    by true e more = rw e (omega arith)
    by false e more =
        let less = more (rw e at h) in
        rw e (omega arith)

-- where none does the last one may
place-last : {X : Type 0} (p : X → Bool) (xs : List X) (x : X) → list_any p xs ≡ false → p x ≡ true → (position_or_len p (xs ++ x ∷ []) ≡ length xs) × (position_or_len p xs ≡ length xs)
place-last p [] x h e = (rw e refl, refl)
place-last p (y ∷ xs) x h e = by (p y) refl (place-last p xs x)
  where
    by : (b : Bool) → p y ≡ b → (list_any p xs ≡ false → p x ≡ true → (position_or_len p (xs ++ x ∷ []) ≡ length xs) × (position_or_len p xs ≡ length xs))
        → (position_or_len p ((y ∷ xs) ++ x ∷ []) ≡ length (y ∷ xs)) × (position_or_len p (y ∷ xs) ≡ length (y ∷ xs))
    by true k more = let no = rw k at h in absurd (cc)
    by false k more =
        let both = more (rw k at h) e in
        let one : position_or_len p (xs ++ x ∷ []) ≡ length xs = both.0 in
        let two : position_or_len p xs ≡ length xs = both.1 in
        (rw k (omega arith), rw k (omega arith))

-- ---- the places of texts
-- a text is the same as itself
same-self : (t : Text) → is_same_text t t ≡ true
same-self t = nat_list_eq_equiv.refl t

-- with one more text its place is what it was to be
pub place-with : (texts : List Text) (t : Text) → (position_or_len (is_same_text t) (with_text texts t) ≡ position_or_len (is_same_text t) texts)
    × (position_or_len (is_same_text t) (with_text texts t) < length (with_text texts t))
place-with texts t = by (list_any (is_same_text t) texts) refl
  where
    by : (b : Bool) → list_any (is_same_text t) texts ≡ b
        → (position_or_len (is_same_text t) (with_text texts t) ≡ position_or_len (is_same_text t) texts)
        × (position_or_len (is_same_text t) (with_text texts t) < length (with_text texts t))
    by true e = rw e (refl, place-there (is_same_text t) texts e)
    by false e =
        let both = place-last (is_same_text t) texts t e (same-self t) in
        let size : length (texts ++ t ∷ []) ≡ length texts + 1 = length-append texts (t ∷ []) in
        rw e (both.0 ∙ sym both.1, rw (both.0, size) (omega arith))

-- a place stays, with one more text
place-kept : (texts : List Text) (t u : Text) → position_or_len (is_same_text t) texts < length texts
    → (position_or_len (is_same_text t) (with_text texts u) ≡ position_or_len (is_same_text t) texts) × (position_or_len (is_same_text t) (with_text texts u) < length (with_text texts u))
place-kept texts t u h = by (list_any (is_same_text u) texts) refl
  where
    by : (b : Bool) → list_any (is_same_text u) texts ≡ b
        → (position_or_len (is_same_text t) (with_text texts u) ≡ position_or_len (is_same_text t) texts)
        × (position_or_len (is_same_text t) (with_text texts u) < length (with_text texts u))
    by true e = rw e (refl, h)
    by false e =
        let stays = place-stays (is_same_text t) texts (u ∷ []) h in
        let size : length (texts ++ u ∷ []) ≡ length texts + 1 = length-append texts (u ∷ []) in
        rw e (stays, rw (stays, size) (omega arith))

-- and with many more
places-kept : (us texts : List Text) (t : Text) → position_or_len (is_same_text t) texts < length texts
    → (position_or_len (is_same_text t) (fold with_text texts us) ≡ position_or_len (is_same_text t) texts)
    × (position_or_len (is_same_text t) (fold with_text texts us) < length (fold with_text texts us))
places-kept [] texts t h = (refl, h)
places-kept (u ∷ us) texts t h =
    let (same, there) = place-kept texts t u h in
    let (stays, still) = places-kept us (with_text texts u) t there in
    (stays ∙ same, still)

-- a text is one of these
abbrev pub HasPlace : List Text → Text → Type 0
HasPlace texts t = position_or_len (is_same_text t) texts < length texts

-- each of some texts is among their different ones
have-places : (us texts : List Text) → All (HasPlace (fold with_text texts us)) us
have-places [] texts = All-nil (HasPlace texts)
have-places (u ∷ us) texts =
    All-cons (HasPlace (fold with_text (with_text texts u) us)) u us (places-kept us (with_text texts u) u (place-with texts u).1).1 (have-places us (with_text texts u))

-- two texts in one place are the same
same-place : (texts : List Text) (a b : Text) → position_or_len (is_same_text a) texts ≡ position_or_len (is_same_text b) texts → HasPlace texts a → a ≡ b
same-place texts a b e h =
    let there : position_or_len (is_same_text b) texts < length texts = rw e at h in
    stands a h ∙ ap (λ (n : ℕ). slice_index_or texts n []) e ∙ sym (stands b there)
  where
    told : (x : Bool) → not x ≡ false → true ≡ x
    told true e = refl
    told false e = cc

    stands : (t : Text) → HasPlace texts t → t ≡ slice_index_or texts (position_or_len (is_same_text t) texts) []
    stands t k = same_text t _ (told _ (prefix_len_stops (λ u. not (is_same_text t u)) texts [] k))

-- the numbers of some texts are equal where these are
pub one-number-each : (texts : List Text) → HaveOneNumberEach texts (map (number_among texts) texts)
one-number-each texts i j h k =
    let f = number_among texts in
    let at_i : slice_index (map f texts) i ≡ f (slice_index_or texts i []) = get_or-map f texts i [] 0 h in
    let at_j : slice_index (map f texts) j ≡ f (slice_index_or texts j []) = get_or-map f texts j [] 0 k in (
      (λ e. same-place (different texts) (slice_index_or texts i []) (slice_index_or texts j []) (sym at_i ∙ e ∙ at_j) (have-places texts [] i [] h)),
      (λ e. at_i ∙ ap f e ∙ sym at_j),
    )

-- more texts behind change no number
pub numbers-stay : (texts more : List Text) → All (λ t. number_among texts t ≡ number_among (texts ++ more) t) texts
numbers-stay texts more k d h =
    let t = slice_index_or texts k d in
    let both = fold-append with_text [] texts more in
    sym (ap (λ (ts : List Text). position_or_len (is_same_text t) ts) both ∙ (places-kept more (different texts) t (have-places texts [] k d h)).0)

-- the different ones of some texts and one more
pub different-push : (texts : List Text) (t : Text) → different (texts ++ t ∷ []) ≡ with_text (different texts) t
different-push texts t = fold-append with_text [] texts (t ∷ [])

-- the number that a new text gets
pub number-new : (texts : List Text) (t : Text) → number_among (texts ++ t ∷ []) t ≡ position_or_len (is_same_text t) (different texts)
number-new texts t = ap (λ (ts : List Text). position_or_len (is_same_text t) ts) (different-push texts t) ∙ (place-with (different texts) t).0

-- ---- texts in a set
-- a test of their items passes first where it does among these
pub place-items : (t : Text) (vs : List (Vec ℕ)) → position_or_len (λ v. is_same_text t v.items) vs ≡ position_or_len (is_same_text t) (map (λ v. v.items) vs)
place-items t [] = refl
place-items t (v ∷ vs) = ap (λ (n : ℕ). cond (not (is_same_text t v.items)) (1 + n) 0) (place-items t vs)

pub any-items : (t : Text) (vs : List (Vec ℕ)) → list_any (λ v. is_same_text t v.items) vs ≡ list_any (is_same_text t) (map (λ v. v.items) vs)
any-items t [] = refl
any-items t (v ∷ vs) = ap (λ (b : Bool). is_same_text t v.items || b) (any-items t vs)

pub insert-items : (v : Vec ℕ) (vs : List (Vec ℕ)) → map (λ v. v.items) (insert_key (λ a b. is_same_text a.items b.items) vs v) ≡ with_text (map (λ v. v.items) vs) v.items
insert-items v vs = by (list_any (λ u. is_same_text v.items u.items) vs) refl
  where
    by : (b : Bool) → list_any (λ u. is_same_text v.items u.items) vs ≡ b
        → map (λ v. v.items) (insert_key (λ a b. is_same_text a.items b.items) vs v) ≡ with_text (map (λ v. v.items) vs) v.items
    by true e = let f = sym (any-items v.items vs) ∙ e in rw (e, f) refl
    by false e = let f = sym (any-items v.items vs) ∙ e in rw (e, f) (map-append (λ (v : Vec ℕ). v.items) vs (v ∷ []))

pub ruleset item_rules = (place-items, insert-items)

-- a text that is found in a set has its place there, and is no new one
pub known-number : (t : Text) (vs : List (Vec ℕ)) (n : ℕ) → position (λ v. is_same_text t v.items) vs ≡ Some n → n ≡ position_or_len (is_same_text t) (map (λ v. v.items) vs)
known-number t vs n e = by (nat_lt (position_or_len (λ v. is_same_text t v.items) vs) (length vs)) refl
  where
    by : (b : Bool) → nat_lt (position_or_len (λ v. is_same_text t v.items) vs) (length vs) ≡ b → n ≡ position_or_len (is_same_text t) (map (λ v. v.items) vs)
    by true k = let same : position_or_len (λ v. is_same_text t v.items) vs ≡ n = cc (rw k at e) in sym same ∙ place-items t vs
    by false k = let no = rw k at e in absurd (cc no)

pub known-texts : (t : Text) (vs : List (Vec ℕ)) → list_any (λ v. is_same_text t v.items) vs ≡ true → map (λ v. v.items) vs ≡ with_text (map (λ v. v.items) vs) t
known-texts t vs e = let found : list_any (is_same_text t) (map (λ v. v.items) vs) ≡ true = sym (any-items t vs) ∙ e in rw found refl

-- ---- the fields of a record
-- what is read at a place is the text that stands there
pub field-stands : (fields : List Text) (n : ℕ) → field_in fields n ≡ slice_index_or fields n []
unfolding field_at
field-stands [] n = refl
field-stands (f ∷ fs) zero = refl
field-stands (f ∷ fs) (suc n) = field-stands fs n

-- a test first passes where it does and did not before
pub first-passes : {X : Type 0} (p : X → Bool) (xs : List X) (i : ℕ) (d : X) → i < length xs → ((k : ℕ) → k < i → p (slice_index_or xs k d) ≡ false) → p (slice_index_or xs i d) ≡ true
    → position p xs ≡ Some i
first-passes p xs i d less before here =
    let at : position_or_len p xs ≡ i = position_or_len_is p xs i d (omega arith) before (λ _. here) in
    let there : nat_lt i (length xs) ≡ true = grind (arith, common_steps) in
    rw (at, there) refl

-- and nowhere where it never does
pub none-passes : {X : Type 0} (p : X → Bool) (xs : List X) (d : X) → ((k : ℕ) → k < length xs → p (slice_index_or xs k d) ≡ false) → position p xs ≡ None
none-passes p xs d never =
    let at : position_or_len p xs ≡ length xs = position_or_len_is p xs (length xs) d (omega arith) never (λ less. absurd (omega arith)) in
    let past : nat_lt (length xs) (length xs) ≡ false = grind (arith, common_steps) in
    rw (at, past) refl

or-right : (b c : Bool) → c ≡ true → (b || c) ≡ true
or-right true c h = refl
or-right false c h = h

-- a test that passes somewhere, or nowhere
pub any-at : {X : Type 0} (p : X → Bool) (d : X) (xs : List X) (i : ℕ) → i < length xs → p (slice_index_or xs i d) ≡ true → list_any p xs ≡ true
any-at p d [] i less h = absurd (omega (arith, less))
any-at p d (x ∷ xs) zero less h = ap (λ (b : Bool). b || list_any p xs) h
any-at p d (x ∷ xs) (suc i) less h = or-right (p x) (list_any p xs) (any-at p d xs i (omega (arith, less)) h)

pub any-nowhere : {X : Type 0} (p : X → Bool) (d : X) (xs : List X) → ((k : ℕ) → k < length xs → p (slice_index_or xs k d) ≡ false) → list_any p xs ≡ false
any-nowhere p d [] never = refl
any-nowhere p d (x ∷ xs) never = ap (λ (b : Bool). b || list_any p xs) (never 0 (omega arith)) ∙ any-nowhere p d xs (λ k less. never (suc k) (omega (arith, less)))
