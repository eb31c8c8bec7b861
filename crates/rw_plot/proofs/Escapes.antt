-- What is escaped may stand in a document, and how it goes on by a byte.
use Rattle.std.proofs.Common.{◌≡◌, ◌≢◌, ◌<◌, ◌≤◌, ◌+◌, ℕ, suc, List, [], ◌∷◌, ◌++◌, length, drop, get_or, Bool, true, false, Some, None, if◌then◌else◌, refl, sym, ap, arith, add-one, drop-cons, inl, inr, codes, append_assoc}
use Rattle.std.specs.Prelude.{◌==◌}
use Rattle.std.proofs.lemmas.List.{append-nil, drop_all}
use Rattle.std.proofs.lemmas.Grind.{common_steps}
use Rattle.rw_plot.specs.Escape.{ArePieces, IsEscaped, IsPiece, entity_of, entity_or_byte, escaped, joined}

-- what a byte becomes is a piece
piece-good : (b : ℕ) → IsPiece (entity_or_byte b (entity_of b))
unfolding entity_of
piece-good b = ampersand (b == 38) refl
  where
    quote : (t : Bool) → (b == 39) ≡ t → b ≢ 38 → b ≢ 60 → b ≢ 62 → b ≢ 34 → IsPiece (entity_or_byte b (if t then Some (codes "&apos;") else None))
    quote true e n1 n2 n3 n4 = inl (inr (inr (inr (inr refl))))
    quote false e n1 n2 n3 n4 = inr (b, refl, record { no_ampersand = n1; no_less = n2; no_greater = n3; no_double_quote = n4; no_single_quote = grind (arith, common_steps) })

    double : (t : Bool) → (b == 34) ≡ t → b ≢ 38 → b ≢ 60 → b ≢ 62
        → IsPiece (entity_or_byte b (if t then Some (codes "&quot;") else if b == 39 then Some (codes "&apos;") else None))
    double true e n1 n2 n3 = inl (inr (inr (inr (inl refl))))
    double false e n1 n2 n3 = quote (b == 39) refl n1 n2 n3 (grind (arith, common_steps))

    greater : (t : Bool) → (b == 62) ≡ t → b ≢ 38 → b ≢ 60
        → IsPiece (entity_or_byte b (if t then Some (codes "&gt;") else if b == 34 then Some (codes "&quot;") else if b == 39 then Some (codes "&apos;") else None))
    greater true e n1 n2 = inl (inr (inr (inl refl)))
    greater false e n1 n2 = double (b == 34) refl n1 n2 (grind (arith, common_steps))

    less : (t : Bool) → (b == 60) ≡ t → b ≢ 38
        → IsPiece (entity_or_byte b (if t then Some (codes "&lt;") else if b == 62 then Some (codes "&gt;") else if b == 34 then Some (codes "&quot;") else if b == 39 then Some (codes "&apos;") else None))
    less true e n1 = inl (inr (inl refl))
    less false e n1 = greater (b == 62) refl n1 (grind (arith, common_steps))

    ampersand : (t : Bool) → (b == 38) ≡ t
        → IsPiece (entity_or_byte b (if t then Some (codes "&amp;") else if b == 60 then Some (codes "&lt;") else if b == 62 then Some (codes "&gt;") else if b == 34 then Some (codes "&quot;") else if b == 39 then Some (codes "&apos;") else None))
    ampersand true e = inl (inl refl)
    ampersand false e = less (b == 60) refl (grind (arith, common_steps))

-- the pieces of what is escaped
pieces_of : List ℕ → List (List ℕ)
pieces_of [] = []
pieces_of (b ∷ bs) = entity_or_byte b (entity_of b) ∷ pieces_of bs

joined-pieces : (t : List ℕ) → escaped t ≡ joined (pieces_of t)
unfolding escaped joined pieces_of
joined-pieces [] = refl
joined-pieces (b ∷ bs) = ap (λ (r : List ℕ). entity_or_byte b (entity_of b) ++ r) (joined-pieces bs)

pieces-good : (t : List ℕ) → ArePieces (pieces_of t)
unfolding ArePieces pieces_of
pieces-good [] = tt
pieces-good (b ∷ bs) = (piece-good b, pieces-good bs)

-- what is escaped is a text of pieces
pub escaped-law : (t : List ℕ) → IsEscaped (escaped t)
escaped-law t = record { pieces = pieces_of t; whole = joined-pieces t; good = pieces-good t }

-- one more byte, as its entity
pub escaped-entity : (xs : List ℕ) (i : ℕ) (t e : List ℕ) → i < length t → entity_of (get_or t i 0) ≡ Some e → xs ++ escaped (drop i t) ≡ (xs ++ e) ++ escaped (drop (i + 1) t)
unfolding escaped
escaped-entity xs i t e h is = rw (add-one, drop-cons t i 0, is) (sym (append_assoc xs e (escaped (drop (suc i) t))))

-- one more byte, as it is
pub escaped-byte : (xs : List ℕ) (i : ℕ) (t : List ℕ) → i < length t → entity_of (get_or t i 0) ≡ None → xs ++ escaped (drop i t) ≡ (xs ++ get_or t i 0 ∷ []) ++ escaped (drop (i + 1) t)
unfolding escaped
escaped-byte xs i t h is = rw (add-one, drop-cons t i 0, is) (sym (append_assoc xs (get_or t i 0 ∷ []) (escaped (drop (suc i) t))))

-- no byte is left
pub escaped-end : (xs : List ℕ) (i : ℕ) (t : List ℕ) → length t ≤ i → xs ++ escaped (drop i t) ≡ xs
unfolding escaped
escaped-end xs i t h = rw (drop_all i t h) (append-nil xs)

pub ruleset escape_rules = (escaped-entity, escaped-byte)
