-- Texts that are cut at a byte.
use Rattle.std.proofs.Common.{◌≡◌, ℕ, ◌<◌, List, [], ◌∷◌, ◌++◌, codes, refl, sym, ap, subst, ◌∙◌, arith, All, append_assoc}
use Rattle.std.specs.Prelude.{◌≢◌, decimal}
use Rattle.std.proofs.lemmas.List.Elements.{All-cons, All-head, All-nil, All-tail, All-weaker}
use Rattle.rw_vt.specs.Words.{Position}
use Rattle.rw_sweep.specs.Limits.{most_configurations}
use Rattle.rw_sweep.specs.Parts.{placed_line}
use Rattle.rw_sweep.proofs.WholeLines.{digits-decimal}
use Rattle.rw_sweep.specs.PartLines.{IsPlaceField, comma}

-- the first of a byte tells what stands before it and behind it
pub record Same (xs ys us vs : List ℕ) : Type 0 where
  pub front : xs ≡ ys
  pub back : us ≡ vs

pub first-at : (c : ℕ) (xs ys us vs : List ℕ) → All (λ b. b ≡ c → ⊥) xs → All (λ b. b ≡ c → ⊥) ys → xs ++ c ∷ us ≡ ys ++ c ∷ vs → Same xs ys us vs
first-at c [] [] us vs p q same = record { front = refl; back = cc }
first-at c [] (y ∷ ys) us vs p q same = let here : y ≡ c = cc in absurd (All-head (λ b. b ≡ c → ⊥) y ys q here)
first-at c (x ∷ xs) [] us vs p q same = let here : x ≡ c = cc in absurd (All-head (λ b. b ≡ c → ⊥) x xs p here)
first-at c (x ∷ xs) (y ∷ ys) us vs p q same =
    let tail : xs ++ c ∷ us ≡ ys ++ c ∷ vs = cc in
    let head : x ≡ y = cc in
    let rest = first-at c xs ys us vs (All-tail (λ b. b ≡ c → ⊥) x xs p) (All-tail (λ b. b ≡ c → ⊥) y ys q) tail in
    record { front = λ i. head i ∷ rest.front i; back = rest.back }

pub no-comma : (n : ℕ) → All (λ b. b ≡ 44 → ⊥) (decimal n)
no-comma n = All-weaker (λ b. 47 < b) (λ b. b ≡ 44 → ⊥) (λ b l e. omega arith) (decimal n) (digits-decimal n)

module _ {X : Type 0} (P : X → Type 0) where
  pub front-of : (xs ys : List X) → All P (xs ++ ys) → All P xs
  front-of [] ys all = All-nil P
  front-of (x ∷ xs) ys all = All-cons P x xs (All-head P x (xs ++ ys) all) (front-of xs ys (All-tail P x (xs ++ ys) all))

  pub back-of : (xs ys : List X) → All P (xs ++ ys) → All P ys
  back-of [] ys all = all
  back-of (x ∷ xs) ys all = back-of xs ys (All-tail P x (xs ++ ys) all)

pub taken : (p : Position) (r : List ℕ) → placed_line p r ≡ decimal p ++ 44 ∷ r
taken p r = append_assoc (decimal p) (codes ",") r

-- a text with no comma begins with no place
pub no-comma-no-place : (text : List ℕ) → All (λ b. b ≢ comma) text → (p : ℕ) (rest : List ℕ) → p < most_configurations → text ≢ placed_line p rest
no-comma-no-place text none p rest less is =
    let all : All (λ b. b ≢ 44) (decimal p ++ 44 ∷ rest) = subst (All (λ b. b ≢ 44)) (is ∙ taken p rest) none in
    All-head (λ b. b ≢ 44) 44 rest (back-of (λ b. b ≢ 44) (decimal p) (44 ∷ rest) all) refl

-- nor does one with something else before its first comma
pub other-field : (text f r : List ℕ) → text ≡ f ++ comma ∷ r → All (λ b. b ≢ comma) f → (IsPlaceField f → ⊥) → (p : ℕ) (rest : List ℕ) → p < most_configurations → text ≢ placed_line p rest
other-field text f r told one refused p rest less is =
    let parts = first-at 44 f (decimal p) r rest one (no-comma p) (sym told ∙ (is ∙ taken p rest)) in
    refused (record { place = p; within = less; written = parts.front })

-- a text with a place before its first comma begins with that
pub place-told : (text f r : List ℕ) (p : ℕ) → text ≡ f ++ comma ∷ r → f ≡ decimal p → text ≡ placed_line p r
place-told text f r p told is = told ∙ (ap (λ t. t ++ 44 ∷ r) is ∙ sym (taken p r))
