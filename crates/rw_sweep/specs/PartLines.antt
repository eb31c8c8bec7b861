-- What the lines of a part are.
use Rattle.std.specs.Prelude.{◌≡◌, ◌≢◌, ◌⊎◌, ℕ, ◌<◌, ◌≤◌, List, [], ◌∷◌, ◌++◌, All, codes, decimal, length, slice_index_or}
use Rattle.std.specs.Char.{is_ascii_digit}
use Rattle.std.specs.List.{AllPass, Contains}
use Rattle.rw_vt.specs.Words.{Count, Position}
use Rattle.rw_trace.specs.Words.{Text}
pub use Rattle.rw_report.specs.Formats.{comma, fields_of}
use Rattle.rw_sweep.specs.Joining.{IsLine, PlacedLine, lines_of_place, part_with}
use Rattle.rw_sweep.specs.Limits.{most_configurations}
use Rattle.rw_sweep.specs.Parts.{placed_line}

-- the field at a column
abbrev pub part_field : Text → Position → Text
part_field body column = slice_index_or (fields_of body) column []

-- how many columns a part has
abbrev pub part_columns : Count
part_columns = 41

-- the words for the policies
abbrev pub policy_words : List Text
policy_words =
    codes "off" ∷ codes "lru" ∷ codes "slru2" ∷ codes "slru3" ∷ codes "slru4" ∷ codes "slru5"
    ∷ codes "slru6" ∷ codes "slru7" ∷ codes "slru8" ∷ []

-- the words for the caches of which a line tells
abbrev pub caches_words : List Text
caches_words = codes "edges" ∷ codes "origins" ∷ codes "all" ∷ []

-- the field is a place that a configuration can have, as a table writes it
pub record IsPlaceField (f : Text) : Type 0 where
  pub place : Position
  pub within : place < most_configurations
  pub written : f ≡ decimal place

-- the field has 1 to 40 digits, and nothing else
pub record IsNumberField (f : Text) : Type 0 where
  pub some : 1 ≤ length f
  pub few : length f ≤ 40
  pub digits : AllPass is_ascii_digit f

-- the field is a digit, a point and six digits
pub record IsRatioField (f : Text) : Type 0 where
  pub ones : ℕ
  pub decimals : Text
  pub told : f ≡ ones ∷ 46 ∷ decimals
  pub six : length decimals ≡ 6
  pub digits : AllPass is_ascii_digit (ones ∷ decimals)

-- the field is 1 to 40 digits, a point and six digits
pub record IsDecimalField (f : Text) : Type 0 where
  pub whole : Text
  pub decimals : Text
  pub told : f ≡ whole ++ 46 ∷ decimals
  pub number : IsNumberField whole
  pub six : length decimals ≡ 6
  pub digits : AllPass is_ascii_digit decimals

-- the field is empty, or a number with six decimals
abbrev pub IsRateField : Text → Type 0
IsRateField f = (f ≡ []) ⊎ IsDecimalField f

-- the field is one of its column: at 0 a place, at 1 a policy, at 11 caches, at 27 and 28 a ratio, at 34 a rate, and
-- else a number
pub record IsOfColumn (column : Position) (f : Text) : Type 0 where
  pub place : column ≡ 0 → IsPlaceField f
  pub policy : column ≡ 1 → Contains policy_words f
  pub caches : column ≡ 11 → Contains caches_words f
  pub ratio : (column ≡ 27) ⊎ (column ≡ 28) → IsRatioField f
  pub rate : column ≡ 34 → IsRateField f
  pub number : column ≢ 0 → column ≢ 1 → column ≢ 11 → column ≢ 27 → column ≢ 28 → column ≢ 34
      → IsNumberField f

-- a line of a part, without its end: it has a field for each column, and each is one of its column
pub record IsRowOfPart (body : Text) : Type 0 where
  pub many : length (fields_of body) ≡ part_columns
  pub each : (column : Position) → column < part_columns
      → IsOfColumn column (part_field body column)

-- the column is the first one whose field is none of it
pub record IsFirstMisfit (body : Text) (column : Position) : Type 0 where
  pub many : length (fields_of body) ≡ part_columns
  pub within : column < part_columns
  pub before : (k : Position) → k < column → IsOfColumn k (part_field body k)
  pub misfit : ¬ (IsOfColumn column (part_field body column))

-- one line, and a place that a configuration can have; behind the place it is a line of a part
pub record IsPartLine (l : PlacedLine) : Type 0 where
  pub whole : IsLine l.line
  pub place : l.place < most_configurations
  pub row : IsRowOfPart (placed_line l.place whole.body)

-- the text is a part that has these lines
pub record IsPartWith (text : Text) (ls : List PlacedLine) : Type 0 where
  pub told : text ≡ part_with ls
  pub lines : All IsPartLine ls

-- no place has more than three of these lines
abbrev pub AtMostThree : List PlacedLine → Type 0
AtMostThree ls = (place : Position) → length (lines_of_place ls place) ≤ 3
