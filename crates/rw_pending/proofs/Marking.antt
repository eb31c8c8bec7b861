-- The marks of slots, as bits of words.
use Rattle.std.proofs.Common.{◌≡◌, ℕ, ◌+◌, ◌-◌, ◌*◌, ◌/◌, ◌%◌, ◌^◌, ◌<◌, ◌≤◌, List, [], ◌∷◌, ◌⊎◌, inl, inr, refl, sym, ◌∙◌, ap, arith, length, get_or, zero, suc}
use Rattle.std.proofs.Math.ListN.{set}
use Rattle.std.specs.Prelude.{◌≢◌, ◌↔◌}
use Rattle.std.specs.Int.{bit_at, w64}
use Rattle.std.specs.Int.RustNames.{bit_and, bit_or}
use Rattle.std.proofs.lemmas.Bool.{cases_eq, cases_lt}
use Rattle.std.proofs.lemmas.Grind.{get_or-set_at}
use Rattle.std.proofs.lemmas.List.{get_or-set_other}
use Rattle.std.proofs.lemmas.Nat.{and_le_l}
use Rattle.std.proofs.lemmas.Nat.Bits.{bit_at-zero, bit_at_set_same, bit_at_set_other, bit_at_clear_same, bit_at_clear_other}
use Rattle.rw_pending.specs.Wheel.{IsSummary, mark_at}

pub beyond : {E : Type 0} (xs : List E) (i : ℕ) (d : E) → length xs ≤ i → get_or xs i d ≡ d
beyond [] i d l = refl
beyond (x ∷ xs) zero d l = absurd (omega arith)
beyond (x ∷ xs) (suc i) d l = beyond xs i d (omega arith)

none_of_zero : (n i : ℕ) → n ≡ 0 → bit_at n i ≡ 0
none_of_zero n i e = ap (λ m. bit_at m i) e ∙ bit_at-zero i

some_of_bit : (n i : ℕ) → bit_at n i ≡ 1 → n ≡ 0 → ⊥
some_of_bit n i one e = let two : ◌≡◌ {A = ℕ} 0 1 = sym (none_of_zero n i e) ∙ one in absurd (omega arith)

pub changed_same : (words : List ℕ) (at x : ℕ) → at / 64 < length words → mark_at (set words (at / 64) x) at ≡ bit_at x (at % 64)
changed_same words at x l = ap (λ w. bit_at w (at % 64)) (get_or-set_at words (at / 64) (at / 64) x 0 refl l)

pub changed_other : (words : List ℕ) (at x k : ℕ) → at / 64 < length words → ((i : ℕ) → i < 64 → i ≢ at % 64 → bit_at x i ≡ bit_at (get_or words (at / 64) 0) i) → k ≢ at → mark_at (set words (at / 64) x) k ≡ mark_at words k
changed_other words at x k l same ne = go (cases_eq (k / 64) (at / 64))
  where
    go : (k / 64 ≡ at / 64) ⊎ (k / 64 ≡ at / 64 → ⊥) → mark_at (set words (at / 64) x) k ≡ mark_at words k
    go (inl e) = ap (λ w. bit_at w (k % 64)) (get_or-set_at words (at / 64) (k / 64) x 0 e l) ∙ same (k % 64) (omega arith) (λ f. ne (omega arith)) ∙ ap (λ n. bit_at (get_or words n 0) (k % 64)) (sym e)
    go (inr f) = ap (λ w. bit_at w (k % 64)) (get_or-set_other words (at / 64) (k / 64) x 0 f)

abbrev with_bit : ℕ → ℕ → ℕ
with_bit n k = bit_or n (1 * 2 ^ k % 2 ^ 64)

abbrev without_bit : ℕ → ℕ → ℕ
without_bit n k = bit_and n (2 ^ 64 - 1 - 1 * 2 ^ k % 2 ^ 64)

pub set_same : (words : List ℕ) (at : ℕ) → at / 64 < length words → mark_at (set words (at / 64) (with_bit (get_or words (at / 64) 0) (at % 64))) at ≡ 1
set_same words at l = changed_same words at (with_bit (get_or words (at / 64) 0) (at % 64)) l ∙ bit_at_set_same w64 (get_or words (at / 64) 0) (at % 64) (omega arith)

pub set_other : (words : List ℕ) (at : ℕ) → at / 64 < length words → (k : ℕ) → k ≢ at → mark_at (set words (at / 64) (with_bit (get_or words (at / 64) 0) (at % 64))) k ≡ mark_at words k
set_other words at l k ne = changed_other words at (with_bit (get_or words (at / 64) 0) (at % 64)) k l (λ i m f. bit_at_set_other w64 (get_or words (at / 64) 0) (at % 64) (omega arith) i f) ne

pub clear_same : (words : List ℕ) (at : ℕ) → at / 64 < length words → mark_at (set words (at / 64) (without_bit (get_or words (at / 64) 0) (at % 64))) at ≡ 0
clear_same words at l = changed_same words at (without_bit (get_or words (at / 64) 0) (at % 64)) l ∙ bit_at_clear_same w64 (get_or words (at / 64) 0) (at % 64) (omega arith)

pub clear_other : (words : List ℕ) (at : ℕ) → at / 64 < length words → (k : ℕ) → k ≢ at → mark_at (set words (at / 64) (without_bit (get_or words (at / 64) 0) (at % 64))) k ≡ mark_at words k
clear_other words at l k ne = changed_other words at (without_bit (get_or words (at / 64) 0) (at % 64)) k l (λ i m f. bit_at_clear_other w64 (get_or words (at / 64) 0) (at % 64) (omega arith) i m f) ne

pub summary_set : (s : ℕ) (words : List ℕ) (at : ℕ) → IsSummary s words → at / 64 < length words → at / 64 < 64 → IsSummary (with_bit s (at / 64)) (set words (at / 64) (with_bit (get_or words (at / 64) 0) (at % 64)))
summary_set s words at h l m i n = go (cases_eq i (at / 64))
  where
    x : ℕ
    x = with_bit (get_or words (at / 64) 0) (at % 64)

    go : (i ≡ at / 64) ⊎ (i ≡ at / 64 → ⊥) → (bit_at (with_bit s (at / 64)) i ≡ 0) ↔ (get_or (set words (at / 64) (with_bit (get_or words (at / 64) 0) (at % 64))) i 0 ≡ 0)
    go (inl e) =
        let one : bit_at (with_bit s (at / 64)) i ≡ 1 = ap (bit_at (with_bit s (at / 64))) e ∙ bit_at_set_same w64 s (at / 64) m in
        let here = get_or-set_at words (at / 64) i (with_bit (get_or words (at / 64) 0) (at % 64)) 0 e l in (
          λ none. let two : ◌≡◌ {A = ℕ} 0 1 = sym none ∙ one in absurd (omega arith),
          λ none. absurd (some_of_bit (with_bit (get_or words (at / 64) 0) (at % 64)) (at % 64) (bit_at_set_same w64 (get_or words (at / 64) 0) (at % 64) (omega arith)) (sym here ∙ none)),
        )
    go (inr f) =
        let same = bit_at_set_other w64 s (at / 64) m i f in
        let there = get_or-set_other words (at / 64) i (with_bit (get_or words (at / 64) 0) (at % 64)) 0 f in (
          λ none. there ∙ (h i n).0 (sym same ∙ none),
          λ none. same ∙ (h i n).1 (sym there ∙ none),
        )

pub summary_clear : (s : ℕ) (words : List ℕ) (at : ℕ) → IsSummary s words → at / 64 < length words → at / 64 < 64
    → without_bit (get_or words (at / 64) 0) (at % 64) ≡ 0 → IsSummary (without_bit s (at / 64)) (set words (at / 64) (without_bit (get_or words (at / 64) 0) (at % 64)))
summary_clear s words at h l m last i n = go (cases_eq i (at / 64))
  where
    go : (i ≡ at / 64) ⊎ (i ≡ at / 64 → ⊥) → (bit_at (without_bit s (at / 64)) i ≡ 0) ↔ (get_or (set words (at / 64) (without_bit (get_or words (at / 64) 0) (at % 64))) i 0 ≡ 0)
    go (inl e) =
        let none : bit_at (without_bit s (at / 64)) i ≡ 0 = ap (bit_at (without_bit s (at / 64))) e ∙ bit_at_clear_same w64 s (at / 64) m in
        let here = get_or-set_at words (at / 64) i (without_bit (get_or words (at / 64) 0) (at % 64)) 0 e l in
        (λ z. here ∙ last, λ z. none)
    go (inr f) =
        let same = bit_at_clear_other w64 s (at / 64) m i n f in
        let there = get_or-set_other words (at / 64) i (without_bit (get_or words (at / 64) 0) (at % 64)) 0 f in (
          λ none. there ∙ (h i n).0 (sym same ∙ none),
          λ none. same ∙ (h i n).1 (sym there ∙ none),
        )

pub summary_kept : (s : ℕ) (words : List ℕ) (at : ℕ) → IsSummary s words → at / 64 < length words → at / 64 < 64
    → (without_bit (get_or words (at / 64) 0) (at % 64) ≡ 0 → ⊥) → IsSummary s (set words (at / 64) (without_bit (get_or words (at / 64) 0) (at % 64)))
summary_kept s words at h l m more i n = go (cases_eq i (at / 64))
  where
    go : (i ≡ at / 64) ⊎ (i ≡ at / 64 → ⊥) → (bit_at s i ≡ 0) ↔ (get_or (set words (at / 64) (without_bit (get_or words (at / 64) 0) (at % 64))) i 0 ≡ 0)
    go (inl e) =
        let here = get_or-set_at words (at / 64) i (without_bit (get_or words (at / 64) 0) (at % 64)) 0 e l in (
          λ none. absurd (more (let old : get_or words (at / 64) 0 ≡ 0 = ap (λ j. get_or words j 0) (sym e) ∙ (h i n).0 none in
              let less = and_le_l (get_or words (at / 64) 0) (2 ^ 64 - 1 - 1 * 2 ^ (at % 64) % 2 ^ 64) in omega (arith, less, old))),
          λ none. absurd (more (sym here ∙ none)),
        )
    go (inr f) =
        let there = get_or-set_other words (at / 64) i (without_bit (get_or words (at / 64) 0) (at % 64)) 0 f in (
          λ none. there ∙ (h i n).0 none,
          λ none. (h i n).1 (sym there ∙ none),
        )

-- the first bit of the first word that is not 0
pub record IsFirstMark (words : List ℕ) (at : ℕ) : Type 0 where
  pub within : at < 1280
  pub set : mark_at words at ≡ 1
  pub first : (k : ℕ) → k < at → mark_at words k ≡ 0

pub word_within : (s : ℕ) (words : List ℕ) (a : ℕ) → IsSummary s words → length words ≡ 20 → a < 64 → bit_at s a ≡ 1 → a < 20
word_within s words a h all l one = go (cases_lt a 20)
  where
    go : (a < 20) ⊎ (20 ≤ a) → a < 20
    go (inl m) = m
    go (inr m) = let none = (h a l).1 (beyond words a 0 (omega arith)) in let two : ◌≡◌ {A = ℕ} 0 1 = sym none ∙ one in absurd (omega arith)

pub word_some : (s : ℕ) (words : List ℕ) (a : ℕ) → IsSummary s words → a < 64 → bit_at s a ≡ 1 → 0 < get_or words a 0
word_some s words a h l one = go (cases_eq (get_or words a 0) 0)
  where
    go : (get_or words a 0 ≡ 0) ⊎ (get_or words a 0 ≡ 0 → ⊥) → 0 < get_or words a 0
    go (inl none) = let two : ◌≡◌ {A = ℕ} 0 1 = sym ((h a l).1 none) ∙ one in absurd (omega arith)
    go (inr some) = omega arith

pub first_mark : (s : ℕ) (words : List ℕ) (a b : ℕ) → IsSummary s words → a < 20 → ((i : ℕ) → i < a → bit_at s i ≡ 0) → b < 64 → bit_at (get_or words a 0) b ≡ 1 → ((i : ℕ) → i < b → bit_at (get_or words a 0) i ≡ 0) → IsFirstMark words (a * 64 + b)
first_mark s words a b h l before m one low =
    let quotient : (a * 64 + b) / 64 ≡ a = omega arith in
    let rest : (a * 64 + b) % 64 ≡ b = omega arith in
    record {
      within = omega arith;
      set = ap (λ n. bit_at (get_or words n 0) ((a * 64 + b) % 64)) quotient ∙ ap (bit_at (get_or words a 0)) rest ∙ one;
      first = λ k n. go k n (cases_eq (k / 64) a);
    }
  where
    go : (k : ℕ) → k < a * 64 + b → (k / 64 ≡ a) ⊎ (k / 64 ≡ a → ⊥) → mark_at words k ≡ 0
    go k n (inl e) = ap (λ j. bit_at (get_or words j 0) (k % 64)) e ∙ low (k % 64) (omega arith)
    go k n (inr f) = none_of_zero (get_or words (k / 64) 0) (k % 64) ((h (k / 64) (omega arith)).0 (before (k / 64) (omega arith)))

pub no_marks : (s : ℕ) (words : List ℕ) → IsSummary s words → length words ≡ 20 → s ≡ 0 → (k : ℕ) → mark_at words k ≡ 0
no_marks s words h all none k = go (cases_lt (k / 64) 64)
  where
    go : (k / 64 < 64) ⊎ (64 ≤ k / 64) → mark_at words k ≡ 0
    go (inl l) = none_of_zero (get_or words (k / 64) 0) (k % 64) ((h (k / 64) l).0 (none_of_zero s (k / 64) none))
    go (inr l) = none_of_zero (get_or words (k / 64) 0) (k % 64) (beyond words (k / 64) 0 (omega arith))
