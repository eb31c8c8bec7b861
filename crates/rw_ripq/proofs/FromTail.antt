-- The section that a walk from tail to head comes to.
use Rattle.std.proofs.Common.{◌≡◌, ℕ, ◌+◌, ◌<◌, [], ◌∷◌, ◌++◌, sym, ap, subst, ◌∙◌, arith, Bool, true, false, ◌⊎◌, inl, inr, zero, suc, length}
use Rattle.std.specs.Prelude.{find, reverse, unwrap_or, nat_le}
use Rattle.std.specs.List.{range_with_len}
use Rattle.std.proofs.lemmas.Bool.{cases_eq, leb-true}
use Rattle.std.proofs.lemmas.List.{reverse-append}
use Rattle.rw_blocks.specs.State.{QueueState}
use Rattle.rw_ripq.specs.Levels.{reaches, slru_target}
use Rattle.rw_ripq.specs.declared.segments.Levels.{Levels}
use Rattle.rw_ripq.proofs.Basics.{by_bool, true_not_false}

range-more : (a n : ℕ) → range_with_len a (suc n) ≡ range_with_len a n ++ (a + n) ∷ []
range-more a zero = ap (λ k. k ∷ []) (let e : a ≡ a + 0 = omega arith in e)
range-more a (suc n) =
    ap (λ ks. a ∷ ks) (range-more (a + 1) n ∙ ap (λ k. range_with_len (a + 1) n ++ k ∷ []) (let e : a + 1 + n ≡ a + suc n = omega arith in e))

last-first : (n : ℕ) → reverse (range_with_len 0 (suc n)) ≡ n ∷ reverse (range_with_len 0 n)
last-first n = ap reverse (range-more 0 n ∙ ap (λ k. range_with_len 0 n ++ k ∷ []) (let e : 0 + n ≡ n = omega arith in e)) ∙ reverse-append (range_with_len 0 n) (n ∷ [])

walk : (p : ℕ → Bool) (n i : ℕ) → i < n → ((k : ℕ) → i < k → k < n → p k ≡ false) → (i ≡ 0) ⊎ (p i ≡ true) → unwrap_or (find p (reverse (range_with_len 0 n))) 0 ≡ i
walk p zero i within behind at = absurd (omega arith)
walk p (suc n) i within behind at =
    rw (last-first n)
    (by_bool (p n)
    (λ t. rw t (elim (cases_eq n i) [
      | inl e ↦ e
      | inr ne ↦ true_not_false (p n) t (behind n (omega arith) (omega arith))
    ]))
    (λ f. rw f (elim (cases_eq n i) [
      | inl e ↦ elim at [
        | inl z ↦ (let empty : n ≡ 0 = omega arith in subst (λ m. unwrap_or (find p (reverse (range_with_len 0 m))) 0 ≡ i) (sym empty) (sym z))
        | inr t ↦ true_not_false (p n) (ap p e ∙ t) f
      ]
      | inr ne ↦ walk p n i (omega arith) (λ k lt lt'. behind k lt (omega arith)) at
    ])))

pub slru-found : (levels : Levels) (q : QueueState) (l i : ℕ) → l < levels.segments → i < length q.sections → ((k : ℕ) → i < k → k < length q.sections → reaches levels q l k ≡ false) → (i ≡ 0) ⊎ (reaches levels q l i ≡ true)
    → i ≡ slru_target levels q l
slru-found levels q l i low within behind at =
    let test : nat_le levels.segments l ≡ false = by_bool (nat_le levels.segments l) (λ t. absurd (omega (arith, leb-true levels.segments l t))) (λ f. f) in
    rw test (sym (walk (reaches levels q l) (length q.sections) i within behind at))
