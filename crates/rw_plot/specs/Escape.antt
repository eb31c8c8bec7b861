-- What a text becomes in a document of XML, and what may stand in one.
use Rattle.std.specs.Prelude.{◌≡◌, ◌≢◌, ◌⊎◌, ℕ, List, [], ◌∷◌, ◌++◌, ◌==◌, if◌then◌else◌, codes, Option, Some, None, ⊤}
use Rattle.rw_trace.specs.Words.{Text}

-- the entity of a byte, if it is one of the five marks: `&`, `<`, `>`, the double quote and the single one
unfoldable pub entity_of : ℕ → Option Text
entity_of b =
    if b == 38 then Some (codes "&amp;")
    else if b == 60 then Some (codes "&lt;")
    else if b == 62 then Some (codes "&gt;")
    else if b == 34 then Some (codes "&quot;")
    else if b == 39 then Some (codes "&apos;")
    else None

-- an entity, or the byte itself
abbrev pub entity_or_byte : ℕ → Option Text → Text
entity_or_byte b None = b ∷ []
entity_or_byte b (Some e) = e

-- a text with each mark as its entity
unfoldable pub escaped : Text → Text
escaped [] = []
escaped (b ∷ bs) = entity_or_byte b (entity_of b) ++ escaped bs

-- ---- what may stand in a document, whatever it came from
-- a byte that is none of the five marks
pub record IsPlainByte (b : ℕ) : Type 0 where
  pub no_ampersand : b ≢ 38
  pub no_less : b ≢ 60
  pub no_greater : b ≢ 62
  pub no_double_quote : b ≢ 34
  pub no_single_quote : b ≢ 39

-- one of the five entities
abbrev pub IsEntity : Text → Type 0
IsEntity e =
    (e ≡ codes "&amp;") ⊎ ((e ≡ codes "&lt;") ⊎ ((e ≡ codes "&gt;")
    ⊎ ((e ≡ codes "&quot;") ⊎ (e ≡ codes "&apos;"))))

-- an entity, or one plain byte
abbrev pub IsPiece : Text → Type 0
IsPiece p = IsEntity p ⊎ ((b : ℕ) × (p ≡ b ∷ []) × IsPlainByte b)

-- each of some texts is a piece
unfoldable pub ArePieces : List Text → Type 0
ArePieces [] = ⊤
ArePieces (p ∷ ps) = IsPiece p × ArePieces ps

-- some texts, one behind the other
unfoldable pub joined : List Text → Text
joined [] = []
joined (p ∷ ps) = p ++ joined ps

-- a text of pieces: no mark stands in it but the `&` that begins an entity
pub record IsEscaped (t : Text) : Type 0 where
  pub pieces : List Text
  pub whole : t ≡ joined pieces
  pub good : ArePieces pieces
