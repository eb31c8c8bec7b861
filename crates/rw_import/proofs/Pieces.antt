-- The records of the oracle-general format that are read one by one from any reader.
use Rattle.std.proofs.Common.{◌≡◌, ◌≤◌, ◌<◌, ◌+◌, ◌*◌, ◌/◌, ◌∙◌, ◌⊎◌, inl, inr, ℕ, zero, suc, List, [], ◌∷◌, ◌++◌, Option, Some, None, append_assoc, drop, length, map, take, refl, sym, ap, arith}
use Rattle.std.specs.Io.KnownBytes.{Consumes, IsAtEnd}
use Rattle.std.specs.List.{range_with_len}
use Rattle.std.proofs.Math.Seq.{drop-append-add, take-append-add}
use Rattle.std.proofs.lemmas.List.{append-nil, length-append, length-take-le, take-append-le, take_all}
use borrow.Rule.Slice.PartMut.{post_of, put_mid}
use Rattle.rw_trace.specs.Pieces.{Gives, GivesNone}
use Rattle.rw_trace.specs.Words.{Text}
use Rattle.rw_import.specs.Oracle.{piece_at, piece_count}
use Rattle.rw_import.specs.OracleStream.{IsFilled, pieces_ahead, pieces_of}

-- ---- one record is filled
pub consumes-more : (a b c : Option Text) (xs ys : Text) → Consumes a b xs → Consumes b c ys → Consumes a c (xs ++ ys)
consumes-more None b c xs ys h k = tt
consumes-more (Some a) None c xs ys h k = absurd h
consumes-more (Some a) (Some b) None xs ys h k = absurd k
consumes-more (Some a) (Some b) (Some c) xs ys h k = h ∙ ap (λ (l : Text). xs ++ l) k ∙ sym (append_assoc xs ys c)

pub consumes-none : (a : Option Text) → Consumes a a []
consumes-none None = tt
consumes-none (Some a) = refl

pub fill-more : (f k n : ℕ) (xs ys : Text) → f ≤ length xs → length ys ≡ k → n ≤ k → take (f + n) (put_mid f k xs ys) ≡ take f xs ++ take n ys
fill-more f k n xs ys fits long few =
    let first : length (take f xs) ≡ f = length-take-le f xs fits in
    let behind = post_of f k xs in
    ap (λ (m : ℕ). take (m + n) (take f xs ++ (ys ++ behind))) (sym first)
    ∙ take-append-add (take f xs) (ys ++ behind) n
    ∙ ap (λ (l : Text). take f xs ++ l) (take-append-le n ys behind (omega arith))

-- ---- the records of a log
shift : {X : Type 0} (f g : ℕ → X) → ((k : ℕ) → f (k + 1) ≡ g k) → (a n : ℕ) → map f (range_with_len (a + 1) n) ≡ map g (range_with_len a n)
shift f g h a zero = refl
shift f g h a (suc n) = rw (h a, shift f g h (a + 1) n) refl

piece-later : (t ys : Text) → length t ≡ 24 → (k : ℕ) → piece_at (t ++ ys) (k + 1) ≡ piece_at ys k
piece-later t ys long k =
    let place : (k + 1) * 24 ≡ length t + k * 24 = omega arith in
    ap (λ (n : ℕ). take 24 (drop n (t ++ ys))) place ∙ ap (λ (l : Text). take 24 l) (drop-append-add t ys (k * 24))

one-more : (m : ℕ) → (24 + m + 23) / 24 ≡ suc ((m + 23) / 24)
one-more m = omega arith

just-one : (m : ℕ) → 0 < m → m < 24 → (m + 23) / 24 ≡ 1
just-one m some few = omega arith

-- a record, and then those behind it
pub pieces-next : (t ys : Text) → 0 < length t → (length t ≡ 24) ⊎ ((length t < 24) × (ys ≡ [])) → pieces_of (t ++ ys) ≡ t ∷ pieces_of ys
pieces-next t ys some (inl long) =
    let count : piece_count (t ++ ys) ≡ suc (piece_count ys) = ap (λ (n : ℕ). (n + 23) / 24) (length-append t ys ∙ ap (λ (n : ℕ). n + length ys) long) ∙ one-more (length ys) in
    let first : piece_at (t ++ ys) 0 ≡ t = take-append-le 24 t ys (omega arith) ∙ take_all 24 t (omega arith) in
    ap (λ (n : ℕ). map (piece_at (t ++ ys)) (range_with_len 0 n)) count
    ∙ ap (λ (p : Text). p ∷ map (piece_at (t ++ ys)) (range_with_len 1 (piece_count ys))) first
    ∙ ap (λ (l : List Text). t ∷ l) (shift (piece_at (t ++ ys)) (piece_at ys) (piece-later t ys long) 0 (piece_count ys))
pieces-next t ys some (inr last) =
    let all : t ++ ys ≡ t = ap (λ (l : Text). t ++ l) last.1 ∙ append-nil t in
    let count : piece_count t ≡ 1 = just-one (length t) some last.0 in
    let first : piece_at t 0 ≡ t = take_all 24 t (omega (arith, last.0)) in
    ap pieces_of all
    ∙ ap (λ (n : ℕ). map (piece_at t) (range_with_len 0 n)) count
    ∙ ap (λ (p : Text). p ∷ []) first
    ∙ ap (λ (l : Text). t ∷ pieces_of l) (sym last.1)

-- bytes that are read are the next record
pub filled-gives : (old new : Option Text) (n : ℕ) (piece : Text) → length piece ≡ 24 → IsFilled old new n piece → 0 < n → Gives (pieces_ahead old) (take n piece) (pieces_ahead new)
filled-gives old new n piece long h some = by old new h.bytes h.short
  where
    size : length (take n piece) ≡ n
    size = length-take-le n piece h.within

    by : (a b : Option Text) → Consumes a b (take n piece) → (n < length piece → IsAtEnd b) → Gives (pieces_ahead a) (take n piece) (pieces_ahead b)
    by None b k short = tt
    by (Some xs) None k short = absurd k
    by (Some xs) (Some ys) k short = ap pieces_of k ∙ pieces-next (take n piece) ys (omega (arith, size)) (which (short-or-not n))
      where
        short-or-not : (m : ℕ) → (m < 24) ⊎ (24 ≤ m)
        short-or-not m = grind arith

        which : (n < 24) ⊎ (24 ≤ n) → (length (take n piece) ≡ 24) ⊎ ((length (take n piece) < 24) × (ys ≡ []))
        which (inl few) = inr (omega (arith, size), short (omega (arith, long)))
        which (inr many) = inl (omega (arith, size, h.within, long))

-- and where there are none there is none
pub filled-none : (old new : Option Text) (n : ℕ) (piece : Text) → length piece ≡ 24 → IsFilled old new n piece → n ≡ 0 → GivesNone (pieces_ahead old)
filled-none old new n piece long h none = by old new h.bytes h.short
  where
    by : (a b : Option Text) → Consumes a b (take n piece) → (n < length piece → IsAtEnd b) → GivesNone (pieces_ahead a)
    by None b k short = tt
    by (Some xs) None k short = absurd k
    by (Some xs) (Some ys) k short =
        let left : ys ≡ [] = short (omega (arith, long)) in
        let all : xs ≡ [] = k ∙ ap (λ (m : ℕ). take m piece ++ ys) none ∙ left in
        rw all refl
