-- What is dealt out of a list: some of its values, each beside its place.
use Rattle.std.proofs.Common.{◌≡◌, ℕ, zero, suc, ◌+◌, ◌<◌, Bool, true, false, cond, List, [], ◌∷◌, ◌++◌, length, map, take, get_or, refl, sym, ap, ◌∙◌, arith, All, append-nil}
use Rattle.std.specs.List.{enumerate_from, filter, flat_map}
use Rattle.std.proofs.lemmas.Grind.{flat_map-append}
use Rattle.std.proofs.lemmas.List.{map-append}
use Rattle.std.proofs.lemmas.List.Elements.{All-cons, All-filter, All-head, All-nil, All-tail, filter-append}
use Rattle.rw_vt.specs.Words.{Position}
use Rattle.rw_sweep.specs.Parts.{dealt, is_in_part}

-- one value more, beside its place
numbered-more : {A : Type 0} (k n : ℕ) (xs : List A) (d : A) → n < length xs → enumerate_from k (take (suc n) xs) ≡ enumerate_from k (take n xs) ++ (k + n, get_or xs n d) ∷ []
numbered-more k n [] d l = absurd (omega arith)
numbered-more k zero (x ∷ xs) d l =
    let none : k ≡ k + 0 = omega arith in
    ap (λ m. (m, x) ∷ []) none
numbered-more k (suc n) (x ∷ xs) d l =
    let next : k + 1 + n ≡ k + suc n = omega arith in
    ap (λ rest. (k, x) ∷ rest) (numbered-more (k + 1) n xs d (omega arith) ∙ ap (λ m. enumerate_from (k + 1) (take n xs) ++ (m, get_or xs n d) ∷ []) next)

-- what is dealt out of one value more
dealt-more : {A : Type 0} (index count n : ℕ) (xs : List A) (d : A) → n < length xs
    → dealt index count (take (n + 1) xs) ≡ dealt index count (take n xs) ++ cond (is_in_part index count n) ((n, get_or xs n d) ∷ []) []
dealt-more {A} index count n xs d l =
    let own : Position × A → Bool = λ at. is_in_part index count at.0 in
    let one : n + 1 ≡ suc n = omega arith in
    let here : 0 + n ≡ n = omega arith in
    ap (λ m. filter own (enumerate_from 0 (take m xs))) one
    ∙ (ap (filter own) (numbered-more 0 n xs d l ∙ ap (λ m. enumerate_from 0 (take n xs) ++ (m, get_or xs n d) ∷ []) here)
    ∙ filter-append own (enumerate_from 0 (take n xs)) ((n, get_or xs n d) ∷ []))

-- the same, of what is made of each that is dealt out
pub dealt-in : {A B : Type 0} (f : Position × A → B) (index count n : ℕ) (xs : List A) (d : A) → n < length xs → is_in_part index count n ≡ true
    → map f (dealt index count (take (n + 1) xs)) ≡ map f (dealt index count (take n xs)) ++ f (n, get_or xs n d) ∷ []
dealt-in f index count n xs d l is =
    ap (map f) (dealt-more index count n xs d l ∙ ap (λ b. dealt index count (take n xs) ++ cond b ((n, get_or xs n d) ∷ []) []) is)
    ∙ map-append f (dealt index count (take n xs)) ((n, get_or xs n d) ∷ [])

pub dealt-out : {A : Type 0} (index count n : ℕ) (xs : List A) (d : A) → n < length xs → is_in_part index count n ≡ false
    → dealt index count (take (n + 1) xs) ≡ dealt index count (take n xs)
dealt-out index count n xs d l is =
    dealt-more index count n xs d l ∙ (ap (λ b. dealt index count (take n xs) ++ cond b ((n, get_or xs n d) ∷ []) []) is ∙ append-nil (dealt index count (take n xs)))

-- and of texts of each
pub text-in : {A : Type 0} (f : Position × A → List ℕ) (index count n : ℕ) (xs : List A) (d : A) → n < length xs → is_in_part index count n ≡ true
    → flat_map f (dealt index count (take (n + 1) xs)) ≡ flat_map f (dealt index count (take n xs)) ++ f (n, get_or xs n d)
text-in f index count n xs d l is =
    ap (flat_map f) (dealt-more index count n xs d l ∙ ap (λ b. dealt index count (take n xs) ++ cond b ((n, get_or xs n d) ∷ []) []) is)
    ∙ (flat_map-append f (dealt index count (take n xs)) ((n, get_or xs n d) ∷ [])
    ∙ ap (λ t. flat_map f (dealt index count (take n xs)) ++ t) (append-nil (f (n, get_or xs n d))))

module _ {A B : Type 0} (f : A → B) (own : Position → Bool) where
  -- what is dealt out of what is made of each
  pub filtered-map : (k : ℕ) (xs : List A) → filter (λ at. own at.0) (enumerate_from k (map f xs)) ≡ map (λ at. (at.0, f at.1)) (filter (λ at. own at.0) (enumerate_from k xs))
  filtered-map k [] = refl
  filtered-map k (x ∷ xs) = by (own k) _ _ (filtered-map (k + 1) xs)
    where
      by : (b : Bool) (us : List (Position × B)) (vs : List (Position × A)) → us ≡ map (λ at. (at.0, f at.1)) vs
          → cond b ((k, f x) ∷ us) us ≡ map (λ at. (at.0, f at.1)) (cond b ((k, x) ∷ vs) vs)
      by true us vs same = ap (λ l. (k, f x) ∷ l) same
      by false us vs same = same

all-numbered : {A : Type 0} (P : A → Type 0) (k : ℕ) (xs : List A) → All P xs → All (λ at. P at.1) (enumerate_from k xs)
all-numbered P k [] each = All-nil (λ at. P at.1)
all-numbered P k (x ∷ xs) each =
    All-cons (λ at. P at.1) (k, x) (enumerate_from (k + 1) xs) (All-head P x xs each) (all-numbered P (k + 1) xs (All-tail P x xs each))

-- what holds of each holds of each that is dealt out
pub all-dealt : {A : Type 0} (P : A → Type 0) (index count : ℕ) (xs : List A) → All P xs → All (λ at. P at.1) (dealt index count xs)
all-dealt P index count xs each = All-filter (λ at. is_in_part index count at.0) (λ at. P at.1) (enumerate_from 0 xs) (all-numbered P 0 xs each)

module _ {A B : Type 0} (f : A → B) (text : Position × B → List ℕ) where
  of-each : (ats : List (Position × A)) → flat_map (λ at. text (at.0, f at.1)) ats ≡ flat_map text (map (λ at. (at.0, f at.1)) ats)
  of-each [] = refl
  of-each (at ∷ ats) = ap (λ t. text (at.0, f at.1) ++ t) (of-each ats)

  -- texts of what is dealt out of what is made of each
  pub texts-dealt : (index count : ℕ) (xs : List A) → flat_map (λ at. text (at.0, f at.1)) (dealt index count xs) ≡ flat_map text (dealt index count (map f xs))
  texts-dealt index count xs = of-each (dealt index count xs) ∙ ap (flat_map text) (sym (filtered-map f (is_in_part index count) 0 xs))
