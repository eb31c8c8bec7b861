-- Lists dealt out to so many shares, and joined of them again.
use Rattle.std.proofs.Math.Nat.{suc-mul, mul-le-mul_right}
use Rattle.std.proofs.Common.{◌≡◌, ℕ, zero, suc, ◌+◌, ◌*◌, ◌<◌, ◌≤◌, Option, List, [], ◌∷◌, ◌++◌, length, get_or, refl, sym, ap, ◌∙◌, arith, inl, inr, Some, None}
use Rattle.std.specs.Prelude.{◌⊎◌, ◌/◌, ◌%◌, slice_get, slice_set}
use Rattle.std.proofs.lemmas.Bool.{cases_eq}
use Rattle.std.proofs.lemmas.List.{get_or-set_same, get_or-set_other}
use Rattle.std.proofs.lemmas.Nat.{same_from_place}
use Rattle.rw_pool.specs.Shares.{of_shares}
use Rattle.rw_pool.proofs.Lists.{get_push, get_push-other, get_past, get_there, length_is}

-- place `place` of share w
pub number_place : (n w place : ℕ) → w < n → ((w + place * n) / n ≡ place) × ((w + place * n) % n ≡ w)
number_place n w place h =
    let q : ℕ = w + place * n in
    let m : (w + place * n) % n < n = omega arith in
    let e : ((w + place * n) / n) * n + (w + place * n) % n ≡ place * n + w = omega arith in
    same_from_place ((w + place * n) / n) ((w + place * n) % n) place w n m h e

-- where an element of the whole goes
place_apart : (n i place j : ℕ) → i < n → i + place * n ≡ j → (j / n ≡ place) × (j % n ≡ i)
place_apart n i place j within is =
    let e = number_place n i place within in
    (ap (λ k. k / n) (sym is) ∙ e.0, ap (λ k. k % n) (sym is) ∙ e.1)

-- the shares hold what was dealt: share i the elements i, i + n, i + 2n, ..
abbrev pub AreDealt : {X : Type 0} → ℕ → List (List X) → List X → Type 0
AreDealt n shares xs = (i place : ℕ) → i < n → slice_get (get_or shares i []) place ≡ slice_get xs (i + place * n)

module _ {X : Type 0} (n : ℕ) (positive : 0 < n) where
  -- so does a share have as many as were dealt to it
  share_long : (shares : List (List X)) (xs : List X) → AreDealt n shares xs → length (get_or shares (length xs % n) []) ≡ length xs / n
  share_long shares xs known =
      let k : ℕ = length xs % n in
      let a : ℕ = length xs / n in
      let small : k < n = omega arith in
      let whole : k + a * n ≡ length xs = omega arith in
      length_is (get_or shares k []) a
      (λ p within none. get_there xs (k + p * n) (below p a k within whole) (sym (known k p small) ∙ none))
      (known k a small ∙ get_past xs (k + a * n) (omega arith))
    where
      below : (p a k : ℕ) → p < a → k + a * n ≡ length xs → k + p * n < length xs
      below p a k within whole =
          let step : suc p * n ≤ a * n = mul-le-mul_right n within in
          let one : suc p * n ≡ p * n + n = omega arith in
          omega arith

  -- the next element goes to the share whose turn it is
  pub dealt_more : (shares : List (List X)) (xs : List X) (x : X) → length shares ≡ n → AreDealt n shares xs → AreDealt n (slice_set shares (length xs % n) (get_or shares (length xs % n) [] ++ x ∷ [])) (xs ++ x ∷ [])
  dealt_more shares xs x long known i place within = go (cases_eq i (length xs % n))
    where
      k : ℕ
      k = length xs % n

      a : ℕ
      a = length xs / n

      go : (i ≡ length xs % n) ⊎ (i ≡ length xs % n → ⊥) → slice_get (get_or (slice_set shares (length xs % n) (get_or shares (length xs % n) [] ++ x ∷ [])) i []) place ≡ slice_get (xs ++ x ∷ []) (i + place * n)
      go (inr other) =
          ap (λ h. slice_get h place) (get_or-set_other shares (length xs % n) i (get_or shares (length xs % n) [] ++ x ∷ []) [] other)
          ∙ known i place within
          ∙ sym (get_push-other xs x (i + place * n) (λ e. other (sym (place_apart n i place (length xs) within e).1)))
      go (inl here) = turn (cases_eq place (length xs / n))
        where
          small : length xs % n < length shares
          small = omega arith

          share : slice_get (get_or (slice_set shares (length xs % n) (get_or shares (length xs % n) [] ++ x ∷ [])) i []) place ≡ slice_get (get_or shares (length xs % n) [] ++ x ∷ []) place
          share = ap (λ j. slice_get (get_or (slice_set shares (length xs % n) (get_or shares (length xs % n) [] ++ x ∷ [])) j []) place) here ∙ ap (λ h. slice_get h place) (get_or-set_same shares (length xs % n) (get_or shares (length xs % n) [] ++ x ∷ []) [] small)

          turn : (place ≡ length xs / n) ⊎ (place ≡ length xs / n → ⊥) → slice_get (get_or (slice_set shares (length xs % n) (get_or shares (length xs % n) [] ++ x ∷ [])) i []) place ≡ slice_get (xs ++ x ∷ []) (i + place * n)
          turn (inl last) =
              let whole : length xs % n + (length xs / n) * n ≡ length xs = omega arith in
              let at : i + place * n ≡ length xs = ap (λ j. j + place * n) here ∙ ap (λ p. length xs % n + p * n) last ∙ whole in
              share
              ∙ ap (slice_get (get_or shares (length xs % n) [] ++ x ∷ [])) (last ∙ sym (share_long shares xs known))
              ∙ get_push (get_or shares (length xs % n) []) x
              ∙ sym (get_push xs x)
              ∙ ap (slice_get (xs ++ x ∷ [])) (sym at)
          turn (inr other) =
              share
              ∙ get_push-other (get_or shares (length xs % n) []) x place (λ e. other (e ∙ share_long shares xs known))
              ∙ ap (λ j. slice_get (get_or shares j []) place) (sym here)
              ∙ known i place within
              ∙ sym (get_push-other xs x (i + place * n) (λ e. other (sym (place_apart n i place (length xs) within e).0)))

-- the turn goes round
pub next_turn : (n k : ℕ) → 0 < n → (k % n + 1) % n ≡ (k + 1) % n
next_turn n k positive = go (cases_eq (k % n + 1) n)
  where
    whole : k % n + (k / n) * n ≡ k
    whole = omega arith

    go : (k % n + 1 ≡ n) ⊎ (k % n + 1 ≡ n → ⊥) → (k % n + 1) % n ≡ (k + 1) % n
    go (inl last) =
        let a = number_place n 0 1 positive in
        let b = number_place n 0 (suc (k / n)) positive in
        let one : 0 + 1 * n ≡ n = omega arith in
        let next : 0 + suc (k / n) * n ≡ k + 1 = omega (arith, suc-mul (k / n) n, whole, last) in
        ap (λ m. m % n) last ∙ ap (λ m. m % n) (sym one) ∙ a.1 ∙ sym b.1 ∙ ap (λ m. m % n) next
    go (inr other) =
        let within : k % n + 1 < n = omega arith in
        let a = number_place n (k % n + 1) 0 within in
        let b = number_place n (k % n + 1) (k / n) within in
        let same : k % n + 1 + 0 * n ≡ k % n + 1 = omega arith in
        let next : k % n + 1 + (k / n) * n ≡ k + 1 = omega (arith, whole) in
        ap (λ m. m % n) (sym same) ∙ a.1 ∙ sym b.1 ∙ ap (λ m. m % n) next

-- The other way: element q of the whole stands in share q mod n, and the shares go round, each giving its next element

-- so many were given: what the share at j has left are the elements of F from there on, each n-th
abbrev pub GoRound : {X : Type 0} → ℕ → (ℕ → Option X) → ℕ → List (List X) → Type 0
GoRound n F given shares = (j place : ℕ) → j < n → slice_get (get_or shares j []) place ≡ F (given + j + place * n)

module _ {X : Type 0} where
  pub round_start : (n : ℕ) (shares : List (List X)) → GoRound n (of_shares n shares) 0 shares
  round_start n shares j place within =
      let e = number_place n j place within in
      let z : 0 + j + place * n ≡ j + place * n = omega arith in
      ap (λ i. slice_get (get_or shares i []) place) (sym e.1) ∙ ap (λ p. slice_get (get_or shares ((j + place * n) % n) []) p) (sym e.0) ∙ ap (of_shares n shares) (sym z)

  at_end : (xs : List (List X)) (h : List X) → get_or (xs ++ h ∷ []) (length xs) [] ≡ h
  at_end [] h = refl
  at_end (x ∷ xs) h = at_end xs h

  before_end : (xs : List (List X)) (h : List X) (j : ℕ) → j < length xs → get_or (xs ++ h ∷ []) j [] ≡ get_or xs j []
  before_end [] h j within = absurd (omega arith)
  before_end (x ∷ xs) h zero within = refl
  before_end (x ∷ xs) h (suc j) within = before_end xs h j (omega arith)

  module _ (n : ℕ) (F : ℕ → Option X) (given : ℕ) (shares rest : List (List X)) (h h' : List X) (x : X) (long : length shares ≡ n) (first : shares ≡ h ∷ rest) (next : h ≡ x ∷ h') (known : GoRound n F given shares) where
    split : shares ≡ (x ∷ h') ∷ rest
    split = first ∙ ap (λ k. k ∷ rest) next

    -- the first share's next element is the one whose turn it is
    pub round_next : F given ≡ Some x
    round_next =
        let z : given + 0 + 0 * n ≡ given = omega arith in
        let some : 0 < n = omega (arith, ap length first, long) in
        sym (ap (λ hs. slice_get (get_or hs 0 []) 0) (sym split) ∙ known 0 0 some ∙ ap F z)

    pub round_more : GoRound n F (given + 1) (rest ++ h' ∷ [])
    round_more j place within = go (cases_eq j (length rest))
      where
        count : length rest + 1 ≡ n
        count = omega (arith, ap length first, long)

        go : (j ≡ length rest) ⊎ (j ≡ length rest → ⊥) → slice_get (get_or (rest ++ h' ∷ []) j []) place ≡ F (given + 1 + j + place * n)
        go (inl last) =
            let z : given + 0 + suc place * n ≡ given + 1 + j + place * n = omega (arith, suc-mul place n, count, last) in
            ap (λ i. slice_get (get_or (rest ++ h' ∷ []) i []) place) last
            ∙ ap (λ k. slice_get k place) (at_end rest h')
            ∙ ap (λ hs. slice_get (get_or hs 0 []) (suc place)) (sym split)
            ∙ known 0 (suc place) (omega arith)
            ∙ ap F z
        go (inr other) =
            let z : given + suc j + place * n ≡ given + 1 + j + place * n = omega arith in
            let inside : j < length rest = omega (arith, count) in
            ap (λ k. slice_get k place) (before_end rest h' j inside)
            ∙ ap (λ hs. slice_get (get_or hs (suc j) []) place) (sym split)
            ∙ known (suc j) place (omega (arith, count, inside))
            ∙ ap F z

  -- a first share that is empty has no element whose turn it is
  pub round_none : (n : ℕ) (F : ℕ → Option X) (given : ℕ) (shares rest : List (List X)) → length shares ≡ n → shares ≡ [] ∷ rest → GoRound n F given shares → F given ≡ None
  round_none n F given shares rest long first known =
      let z : given + 0 + 0 * n ≡ given = omega arith in
      let some : 0 < n = omega (arith, ap length first, long) in
      sym (ap (λ hs. slice_get (get_or hs 0 []) 0) (sym first) ∙ known 0 0 some ∙ ap F z)
