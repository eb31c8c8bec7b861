-- A text that is put together piece by piece: lines of caches, and the members of an object.
use Rattle.std.proofs.Common.{◌≡◌, ℕ, zero, suc, ◌+◌, ◌<◌, ◌≤◌, Bool, true, false, cond, List, [], ◌∷◌, ◌++◌, Option, Some, None, refl, sym, ◌∙◌, ap, arith, length, take, take_all, get_or, map, add-zero, append_assoc, append-nil, codes}
use Rattle.std.specs.Prelude.{nat_lt, unwrap_or}
use Rattle.std.specs.List.{before_first, join_with_byte, position_or_len}
use Rattle.std.proofs.lemmas.Bool.Decides.{nat_tests}
use Rattle.rw_photo.specs.declared.config.Config.{Config}
use Rattle.rw_photo.specs.declared.counters.Counters.{Counters}
use Rattle.rw_report.specs.Formats.{cache_line, each_line, json_member}

-- the line of one cache more
pub each-more : (c : Config) (p n : ℕ) (xs : List Counters) (d : Counters) → n < length xs
    → each_line c p (take (suc n) xs) ≡ each_line c p (take n xs) ++ cache_line c (p + n) (get_or xs n d)
each-more c p n [] d l = absurd (omega arith)
each-more c p zero (x ∷ xs) d l = rw add-zero (append-nil (cache_line c p x))
each-more c p (suc n) (x ∷ xs) d l =
    let next : (p + 1) + n ≡ p + suc n = omega arith in
    ap (λ rest. cache_line c p x ++ rest) (each-more c (p + 1) n xs d (omega arith) ∙ ap (λ q. each_line c (p + 1) (take n xs) ++ cache_line c q (get_or xs n d)) next)
    ∙ sym (append_assoc (cache_line c p x) (each_line c (p + 1) (take n xs)) (cache_line c (p + suc n) (get_or xs n d)))

-- what stands before the first byte that passes, where it was looked for from the front
pub front : (test : ℕ → Bool) (xs : List ℕ) (o : Option ℕ) (n : ℕ)
    → o ≡ cond (nat_lt (position_or_len test xs) (length xs)) (Some (position_or_len test xs)) None → n ≡ unwrap_or o (length xs)
    → take n xs ≡ before_first test xs
front test xs o n found is = go (nat_lt (position_or_len test xs) (length xs)) refl
  where
    go : (b : Bool) → nat_lt (position_or_len test xs) (length xs) ≡ b → take n xs ≡ before_first test xs
    go true inside =
        let some : o ≡ Some (position_or_len test xs) = found ∙ ap (λ (b : Bool). cond b (Some (position_or_len test xs)) None) inside in
        let here : n ≡ position_or_len test xs = is ∙ ap (λ (x : Option ℕ). unwrap_or x (length xs)) some in
        ap (λ k. take k xs) here
    go false outside =
        let none : o ≡ None = found ∙ ap (λ (b : Bool). cond b (Some (position_or_len test xs)) None) outside in
        let all : n ≡ length xs = is ∙ ap (λ (x : Option ℕ). unwrap_or x (length xs)) none in
        let past : length xs ≤ position_or_len test xs = grind (arith, nat_tests) in
        take_all n xs (omega (arith, all)) ∙ sym (take_all (position_or_len test xs) xs past)

-- what stands before a member: a comma behind other ones
abbrev pub comma_after : List (List ℕ) → List ℕ
comma_after [] = []
comma_after (x ∷ xs) = codes ","

pub comma-more : (xs : List (List ℕ)) (x : List ℕ) → codes "," ≡ comma_after (xs ++ x ∷ [])
comma-more [] x = refl
comma-more (y ∷ xs) x = refl

join-more : (xs : List (List ℕ)) (x : List ℕ) → join_with_byte 44 (xs ++ x ∷ []) ≡ join_with_byte 44 xs ++ (comma_after xs ++ x)
join-more [] x = refl
join-more (y ∷ []) x = refl
join-more (y ∷ z ∷ xs) x =
    ap (λ l. y ++ (44 ∷ l)) (join-more (z ∷ xs) x)
    ∙ sym (append_assoc y (44 ∷ join_with_byte 44 (z ∷ xs)) (comma_after (z ∷ xs) ++ x))

-- an object with one member more
pub object-more : (old text text₁ text₂ comma : List ℕ) (xs : List (List ℕ)) (x : List ℕ)
    → text ≡ old ++ (codes "{" ++ join_with_byte 44 xs) → comma ≡ comma_after xs → text₁ ≡ text ++ comma → text₂ ≡ text₁ ++ x
    → text₂ ≡ old ++ (codes "{" ++ join_with_byte 44 (xs ++ x ∷ []))
object-more old text text₁ text₂ comma xs x is between first second =
    let joined : old ++ (codes "{" ++ join_with_byte 44 xs) ++ comma_after xs ++ x ≡ old ++ (codes "{" ++ (join_with_byte 44 xs ++ (comma_after xs ++ x))) = simp append_assoc in
    second
    ∙ ap (λ l. l ++ x) (first ∙ (λ i. is i ++ between i))
    ∙ joined
    ∙ ap (λ l. old ++ (codes "{" ++ l)) (sym (join-more xs x))

module _ {A : Type 0} (shown : A → List ℕ × List ℕ) where
  abbrev pub members : List A → List (List ℕ)
  members xs = map json_member (map shown xs)

  pub members-more : (xs : List A) (x : A) → members (xs ++ x ∷ []) ≡ members xs ++ json_member (shown x) ∷ []
  members-more [] x = refl
  members-more (y ∷ xs) x = ap (λ l. json_member (shown y) ∷ l) (members-more xs x)
