-- Plain lines, as they stand in a text: fields with commas between them and an end of line, and no byte of a field has
-- a meaning of its own.
use Rattle.std.specs.Prelude.{All, ◌≡◌, ◌≢◌, ◌⊎◌, ◌+◌, ◌≤◌, ◌++◌, ◌∷◌, [], ℕ, List, Some, drop, length}
use Rattle.csv.specs.Reading.{default_config}
use Rattle.csv.specs.declared.parser.State.TheVariants as st
use Rattle.rw_numbers.specs.Words.{Count, Position}
use Rattle.rw_trace.specs.Words.{Text, Fields}
use Rattle.rw_trace.specs.Trace.{version_of, word_of}
use Rattle.rw_trace.specs.Laws.{IsNumber, WritesRow}
use Rattle.rw_trace.specs.Unread.{records_left, records_of}
use Rattle.rw_trace.specs.declared.Kind.{Kind}
use Rattle.rw_trace.specs.declared.Kind.TheVariants.{Get}
use Rattle.rw_trace.specs.declared.Row.{Row}
use Rattle.rw_trace.specs.declared.Version.{Version}
use Rattle.rw_trace.specs.declared.Version.TheVariants.{First, Second}

-- what stands from a place on is a number; behind its last digit the next place is
pub record IsNumberAt (text : Text) (from : Position) (n : ℕ) (next : Position) : Type 0 where
  pub field : Text
  pub number : IsNumber field n
  pub parts : drop from text ≡ field ++ drop next text
  pub behind : next ≡ from + length field
  pub within : next ≤ length text

-- what stands from a place on is a number and a comma (44); behind the comma the next place is
pub record IsNumberAndComma (text : Text) (from : Position) (n : ℕ) (next : Position) : Type 0 where
  pub field : Text
  pub number : IsNumber field n
  pub parts : drop from text ≡ field ++ (44 ∷ drop next text)
  pub behind : from + 1 ≤ next
  pub within : next ≤ length text

-- fields, each behind a comma, and what is behind them
abbrev pub commas : Fields → Text → Text
commas [] tail = tail
commas (f ∷ fs) tail = 44 ∷ (f ++ commas fs tail)

-- the fields of a kind: none in the first version, and its word in the second
abbrev pub kind_fields : Version → Kind → Fields
kind_fields First k = []
kind_fields Second k = word_of k ∷ []

-- what stands from a place on is a kind behind a comma, in the first version nothing, which is a get
pub record IsKindAt (version : Version) (text : Text) (from : Position) (k : Kind) (next : Position)
    : Type 0 where
  pub parts : drop from text ≡ commas (kind_fields version k) (drop next text)
  pub first : version ≡ First → k ≡ Get
  pub behind : from ≤ next
  pub within : next ≤ length text

-- a line ends with a line feed (10), or with a carriage return (13) and a line feed, before the rest of a text;
-- or the text ends
abbrev pub EndsLine : Text → Text → Type 0
EndsLine tail rest =
    (tail ≡ 10 ∷ rest) ⊎ ((tail ≡ 13 ∷ (10 ∷ rest)) ⊎ ((tail ≡ []) × (rest ≡ [])))

-- a line ends at a place; behind its end the next place is
pub record IsEndAt (text : Text) (from next : Position) : Type 0 where
  pub ends : EndsLine (drop from text) (drop next text)
  pub behind : from ≤ next
  pub within : next ≤ length text

-- a byte of a field that has no meaning of its own: no comma, quote, carriage return or line feed
pub record IsOrdinary (b : ℕ) : Type 0 where
  pub comma : b ≢ 44
  pub quote : b ≢ 34
  pub return : b ≢ 13
  pub feed : b ≢ 10

-- a field that is not empty, of such bytes
pub record IsOrdinaryField (f : Text) : Type 0 where
  pub some : 1 ≤ length f
  pub all : All IsOrdinary f

-- what stands from a place on is a plain line, which writes a row; behind it the next place is
pub record IsRowAt (version : Version) (edges : Count) (text : Text) (from : Position) (row : Row)
    (next : Position) : Type 0 where
  pub field : Text
  pub others : Fields
  pub tail : Text
  pub parts : drop from text ≡ field ++ commas others tail
  pub plain : IsOrdinaryField field
  pub plains : All IsOrdinaryField others
  pub ends : EndsLine tail (drop next text)
  pub written : WritesRow version edges (field ∷ others) row
  pub behind : from + 1 ≤ next
  pub within : next ≤ length text

-- the records of what stands from a place on
abbrev pub records_at : Text → Position → List Fields
records_at text from = records_left default_config st.StartRecord (Some (drop from text))

-- a text begins with the header of a version, and its further records stand from a place on
pub record IsHeaderAt (text : Text) (version : Version) (at : Position) : Type 0 where
  pub head : Fields
  pub parts : records_of text ≡ head ∷ records_at text at
  pub is_header : version_of head ≡ Some version
