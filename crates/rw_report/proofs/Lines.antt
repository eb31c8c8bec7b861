-- A report line by line.
use Rattle.std.proofs.Common.{◌≡◌, ℕ, zero, suc, ◌+◌, ◌%◌, ◌^◌, ◌<◌, List, [], ◌∷◌, ◌++◌, sym, ◌∙◌, ap, arith, take, get_or, length, add-zero, append_assoc, append-nil, Result, Ok, Err}
use Rattle.std.specs.Prelude.{OnOk, sum_by}
use Rattle.std.proofs.lemmas.List.Sums.{sum_by-cons}
use Rattle.rw_photo.specs.declared.config.Config.{Config}
use Rattle.rw_photo.specs.declared.counters.Counters.{Counters}
use Rattle.rw_photo.specs.Counts.{sum_of, counters_by}
use Rattle.rw_report.specs.Report.{cache_lines, line, name_of, total_of, totals}

-- a line behind a text
pub line-append : (text name : List ℕ) (k : Counters) → line (text ++ name) k ≡ text ++ line name k
line-append text name k = simp append_assoc

-- the line of one cache more
pub lines-more : (c : Config) (p n : ℕ) (xs : List Counters) (d : Counters) → n < length xs
    → cache_lines c p (take (suc n) xs) ≡ cache_lines c p (take n xs) ++ line (name_of c (p + n)) (get_or xs n d)
lines-more c p n [] d l = absurd (omega arith)
lines-more c p zero (x ∷ xs) d l = rw add-zero (append-nil (line (name_of c p) x))
lines-more c p (suc n) (x ∷ xs) d l =
    let next : (p + 1) + n ≡ p + suc n = omega arith in
    ap (λ rest. line (name_of c p) x ++ rest) (lines-more c (p + 1) n xs d (omega arith) ∙ ap (λ q. cache_lines c (p + 1) (take n xs) ++ line (name_of c q) (get_or xs n d)) next)
    ∙ sym (append_assoc (line (name_of c p) x) (cache_lines c (p + 1) (take n xs)) (line (name_of c (p + suc n)) (get_or xs n d)))

sum-more : (count : Counters → ℕ) (n : ℕ) (xs : List Counters) (d : Counters) → n < length xs
    → sum_by count (take (suc n) xs) ≡ sum_by count (take n xs) + count (get_or xs n d)
sum-more count n [] d l = absurd (omega arith)
sum-more count zero (x ∷ xs) d l = omega arith
sum-more count (suc n) (x ∷ xs) d l =
    let more = sum_by-cons count x (take (suc n) xs) in
    let less = sum_by-cons count x (take n xs) in
    omega (arith, more, less, sum-more count n xs d (omega arith))

wrapped : (a b : ℕ) → (a + b) % 2 ^ 64 ≡ (a % 2 ^ 64 + b) % 2 ^ 64
wrapped a b = omega arith

total-more : (count : Counters → ℕ) (n : ℕ) (xs : List Counters) (d : Counters) → n < length xs
    → total_of count (take (suc n) xs) ≡ (total_of count (take n xs) + count (get_or xs n d)) % 2 ^ 64
total-more count n xs d l = ap (λ m. m % 2 ^ 64) (sum-more count n xs d l) ∙ wrapped (sum_by count (take n xs)) (count (get_or xs n d))

-- the totals with one cache more
pub totals-more : (n : ℕ) (xs : List Counters) (d : Counters) → n < length xs → totals (take (suc n) xs) ≡ sum_of (totals (take n xs)) (get_or xs n d)
totals-more n xs d l i = counters_by (λ which. total-more which n xs d l i)

-- six pieces, one behind another
pub six-pieces : {E : Type 0} (r : Result (Unit {0}) E) (t a b c d e f t₁ t₂ t₃ t₄ t₅ t₆ : List ℕ)
    → t₁ ≡ t ++ a → t₂ ≡ t₁ ++ b → t₃ ≡ t₂ ++ c → t₄ ≡ t₃ ++ d → t₅ ≡ t₄ ++ e → OnOk r (t₆ ≡ t₅ ++ f)
    → OnOk r (t₆ ≡ t ++ (a ++ b ++ c ++ d ++ e ++ f))
six-pieces (Ok u) t a b c d e f t₁ t₂ t₃ t₄ t₅ t₆ h₁ h₂ h₃ h₄ h₅ h₆ =
    let joined : t ++ a ++ b ++ c ++ d ++ e ++ f ≡ t ++ (a ++ b ++ c ++ d ++ e ++ f) = simp append_assoc in
    h₆ ∙ (ap (λ x. x ++ f) (h₅ ∙ ap (λ x. x ++ e) (h₄ ∙ ap (λ x. x ++ d) (h₃ ∙ ap (λ x. x ++ c) (h₂ ∙ ap (λ x. x ++ b) h₁)))) ∙ joined)
six-pieces (Err x) t a b c d e f t₁ t₂ t₃ t₄ t₅ t₆ h₁ h₂ h₃ h₄ h₅ h₆ = tt

-- the same, two by two
pub three-pairs : {E : Type 0} (r : Result (Unit {0}) E) (t a b c d e f t₁ t₂ t₃ t₄ t₅ t₆ : List ℕ)
    → t₁ ≡ t ++ a → t₂ ≡ t₁ ++ b → t₃ ≡ t₂ ++ c → t₄ ≡ t₃ ++ d → t₅ ≡ t₄ ++ e → OnOk r (t₆ ≡ t₅ ++ f)
    → OnOk r (t₆ ≡ t ++ (a ++ b ++ (c ++ d) ++ (e ++ f)))
three-pairs (Ok u) t a b c d e f t₁ t₂ t₃ t₄ t₅ t₆ h₁ h₂ h₃ h₄ h₅ h₆ =
    let joined : t ++ a ++ b ++ c ++ d ++ e ++ f ≡ t ++ (a ++ b ++ (c ++ d) ++ (e ++ f)) = simp append_assoc in
    h₆ ∙ (ap (λ x. x ++ f) (h₅ ∙ ap (λ x. x ++ e) (h₄ ∙ ap (λ x. x ++ d) (h₃ ∙ ap (λ x. x ++ c) (h₂ ∙ ap (λ x. x ++ b) h₁)))) ∙ joined)
three-pairs (Err x) t a b c d e f t₁ t₂ t₃ t₄ t₅ t₆ h₁ h₂ h₃ h₄ h₅ h₆ = tt

-- three pieces, one behind another
pub three-pieces : (t a b c t₁ t₂ t₃ : List ℕ) → t₁ ≡ t ++ a → t₂ ≡ t₁ ++ b → t₃ ≡ t₂ ++ c → t₃ ≡ t ++ (a ++ b ++ c)
three-pieces t a b c t₁ t₂ t₃ h₁ h₂ h₃ =
    let joined : t ++ a ++ b ++ c ≡ t ++ (a ++ b ++ c) = simp append_assoc in
    h₃ ∙ ap (λ x. x ++ c) (h₂ ∙ ap (λ x. x ++ b) h₁) ∙ joined

-- five pieces
pub five-pieces : (t a b c d e t₁ t₂ t₃ t₄ t₅ : List ℕ)
    → t₁ ≡ t ++ a → t₂ ≡ t₁ ++ b → t₃ ≡ t₂ ++ c → t₄ ≡ t₃ ++ d → t₅ ≡ t₄ ++ e → t₅ ≡ t ++ (a ++ b ++ c ++ d ++ e)
five-pieces t a b c d e t₁ t₂ t₃ t₄ t₅ h₁ h₂ h₃ h₄ h₅ =
    let joined : t ++ a ++ b ++ c ++ d ++ e ≡ t ++ (a ++ b ++ c ++ d ++ e) = simp append_assoc in
    h₅ ∙ ap (λ x. x ++ e) (h₄ ∙ ap (λ x. x ++ d) (h₃ ∙ ap (λ x. x ++ c) (h₂ ∙ ap (λ x. x ++ b) h₁))) ∙ joined

-- two pieces, of which the last may not be written
pub two-calls : {E : Type 0} (r : Result (Unit {0}) E) (t a b t₁ t₂ : List ℕ) → t₁ ≡ t ++ a → OnOk r (t₂ ≡ t₁ ++ b) → OnOk r (t₂ ≡ t ++ (a ++ b))
two-calls (Ok u) t a b t₁ t₂ h₁ h₂ = h₂ ∙ ap (λ x. x ++ b) h₁ ∙ append_assoc t a b
two-calls (Err x) t a b t₁ t₂ h₁ h₂ = tt

-- three pieces, of which the last may not be written
pub three-calls : {E : Type 0} (r : Result (Unit {0}) E) (t a b c t₁ t₂ t₃ : List ℕ)
    → t₁ ≡ t ++ a → t₂ ≡ t₁ ++ b → OnOk r (t₃ ≡ t₂ ++ c) → OnOk r (t₃ ≡ t ++ (a ++ b ++ c))
three-calls (Ok u) t a b c t₁ t₂ t₃ h₁ h₂ h₃ = three-pieces t a b c t₁ t₂ t₃ h₁ h₂ h₃
three-calls (Err x) t a b c t₁ t₂ t₃ h₁ h₂ h₃ = tt
