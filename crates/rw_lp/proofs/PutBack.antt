-- A list from which one item was taken by `swap_remove`, and in whose place another one was put.
use Rattle.std.proofs.Common.{◌≡◌, ◌≢◌, ℕ, ◌+◌, ◌-◌, ◌<◌, List, [], ◌∷◌, ◌++◌, length, take, get_or, sym, ap, ◌∙◌, arith, inl, inr}
use Rattle.std.specs.Prelude.{◌⊎◌, slice_set}
use Rattle.std.specs.List.{swap_remove, SwappedAt}
use Rattle.std.proofs.lemmas.Bool.{cases_eq}
use Rattle.std.proofs.lemmas.List.{length-set, length-take-le, get_or_default, get_or-set_same, get_or-set_other, get_or-take, get_or_append_left, get_or-append_right, same_lists}

module _ {A : Type 0} (before : List A) (place : ℕ) (taken item : A) (within : place < length before) where
  -- what is left
  rest : List A
  rest = swap_remove before place taken

  pub rest_length : length (swap_remove before place taken) + 1 ≡ length before
  unfolding rest
  rest_length =
      let all = slice_set before place (get_or before (length before - 1) taken) in
      let n : length all ≡ length before = length-set before place (get_or before (length before - 1) taken) in
      let k : length (take (length before - 1) all) ≡ length before - 1 = length-take-le (length before - 1) all (omega arith) in
      omega arith

  -- the last one stands in the place of the one that was taken
  rest_here : (d : A) → place + 1 < length before → get_or rest place d ≡ get_or before (length before - 1) d
  unfolding rest
  rest_here d h =
      let last = get_or before (length before - 1) taken in
      get_or-take (length before - 1) (slice_set before place last) place d (omega arith)
      ∙ get_or-set_same before place last d within
      ∙ default before (length before - 1) taken d (omega arith)
    where
      default : (xs : List A) (i : ℕ) (a b : A) → i < length xs → get_or xs i a ≡ get_or xs i b
      default xs i a b k = get_or_default xs i a b k

  rest_elsewhere : (k : ℕ) (d : A) → k + 1 < length before → k ≢ place → get_or rest k d ≡ get_or before k d
  unfolding rest
  rest_elsewhere k d h other =
      let last = get_or before (length before - 1) taken in
      get_or-take (length before - 1) (slice_set before place last) k d (omega arith)
      ∙ get_or-set_other before place k last d other

  pub put_back : (now : List A) → SwappedAt (swap_remove before place taken ++ item ∷ []) now place (length before - 1) → length now ≡ length before → now ≡ slice_set before place item
  unfolding rest
  put_back now swapped long =
      same_lists now (slice_set before place item) (long ∙ sym (length-set before place item)) (λ k d h. at k d (omega arith) (cases_eq k place) (cases_eq k (length before - 1)))
    where
      pushed_last : (d : A) → get_or (rest ++ item ∷ []) (length before - 1) d ≡ item
      pushed_last d =
          let n : length rest ≡ length before - 1 = omega (arith, rest_length) in
          let z : (length before - 1) - (length before - 1) ≡ 0 = omega arith in
          get_or-append_right rest (item ∷ []) (length before - 1) (length before - 1) d n (omega arith) ∙ ap (λ i. get_or (item ∷ []) i d) z

      at : (k : ℕ) (d : A) → k < length before → (k ≡ place) ⊎ (k ≡ place → ⊥) → (k ≡ length before - 1) ⊎ (k ≡ length before - 1 → ⊥) → get_or now k d ≡ get_or (slice_set before place item) k d
      at k d h (inl here) _ =
          ap (λ i. get_or now i d) here
          ∙ swapped.0 d
          ∙ pushed_last d
          ∙ sym (get_or-set_same before place item d within)
          ∙ ap (λ i. get_or (slice_set before place item) i d) (sym here)
      at k d h (inr other) (inl end) =
          let inside : place + 1 < length before = omega arith in
          ap (λ i. get_or now i d) end
          ∙ swapped.1 d
          ∙ get_or_append_left rest (item ∷ []) d place (omega (arith, rest_length))
          ∙ rest_here d inside
          ∙ ap (λ i. get_or before i d) (sym end)
          ∙ sym (get_or-set_other before place k item d other)
      at k d h (inr other) (inr inner) =
          swapped.2 k d other inner
          ∙ get_or_append_left rest (item ∷ []) d k (omega (arith, rest_length))
          ∙ rest_elsewhere k d (omega arith) other
          ∙ sym (get_or-set_other before place k item d other)
