-- What is first wrong with some parts.
use Rattle.std.specs.Prelude.{◌≡◌, ◌≢◌, ◌⊎◌, ◌+◌, ◌<◌, ◌≤◌, List, [], ◌∷◌, ◌++◌, All, Option, None, Some, length, max}
use Rattle.std.specs.List.{AllZip, flat_map}
use Rattle.rw_vt.specs.Words.{Count, Position}
use Rattle.rw_trace.specs.Words.{Text}
use Rattle.rw_sweep.specs.Joining.{PlacedLine, lines_of_all, lines_of_place, newline}
use Rattle.rw_sweep.specs.Parts.{part_header, placed_line}
use Rattle.rw_sweep.specs.declared.joiner.join_fault.JoinFault.{JoinFault}
use Rattle.rw_sweep.specs.declared.joiner.join_fault.JoinFault.TheVariants as fault
use Rattle.rw_sweep.specs.PartLines.{AtMostThree, IsFirstMisfit, IsPartLine, IsPartWith, fields_of, part_columns}

-- the text begins with a whole line, and so much holds of that line without its end
pub record BeginsWithLine (text : Text) (Holds : Text → Type 0) : Type 0 where
  pub body : Text
  pub after : Text
  pub told : text ≡ body ++ newline ∷ after
  pub one : All (λ b. b ≢ newline) body
  pub holds : Holds body

-- what is wrong with the line that the rest of file k begins with, row n, by itself: it has no end; or else not as many
-- fields as there are columns; or else a field that is none of its column, of which the first is told
abbrev pub IsWrongLine : Position → Position → Text → JoinFault → Type 0
IsWrongLine k n rest (fault.CutOff j) =
    (j ≡ k) × (rest ≢ []) × All (λ b. b ≢ newline) rest
IsWrongLine k n rest (fault.Length j m) =
    (j ≡ k) × (m ≡ n) × BeginsWithLine rest (λ body. length (fields_of body) ≢ part_columns)
IsWrongLine k n rest (fault.Number j m column) =
    (j ≡ k) × (m ≡ n) × BeginsWithLine rest (λ body. IsFirstMisfit body column)
IsWrongLine k n rest _ = ⊥

-- the rest of a part begins with a line that is right by itself, though these hold three lines of its place already
pub record IsFourthLine (ls : List PlacedLine) (rest : Text) (e : JoinFault) : Type 0 where
  pub line : PlacedLine
  pub after : Text
  pub told : rest ≡ placed_line line.place line.line ++ after
  pub right : IsPartLine line
  pub three : length (lines_of_place ls line.place) ≡ 3
  pub is : e ≡ fault.Twice line.place

-- the first faulty line of file k, by what stands behind its header: after good lines comes one that is wrong by
-- itself, or else is the fourth of its place, among the lines of the parts before and the good ones
pub record HasFaultyLine (k : Position) (before : List PlacedLine) (text : Text)
    (e : JoinFault) : Type 0 where
  pub good : List PlacedLine
  pub rest : Text
  pub told : text ≡ flat_map (λ l. placed_line l.place l.line) good ++ rest
  pub right : All IsPartLine good
  pub few : AtMostThree (before ++ good)
  pub wrong : IsWrongLine k (length good) rest e ⊎ IsFourthLine (before ++ good) rest e

-- what is wrong with file k: its header, or else its first faulty line
abbrev pub IsFaultOfPart : Position → List PlacedLine → Text → JoinFault → Type 0
IsFaultOfPart k before text e =
    ((e ≡ fault.Header k) × ((lines : Text) → text ≢ part_header ++ lines))
    ⊎ ((lines : Text) × (text ≡ part_header ++ lines) × HasFaultyLine k before lines e)

-- the texts are parts that have these lines, of which no place has more than three
pub record AreReadAs (texts : List Text) (ls : List PlacedLine) : Type 0 where
  pub parts : List (List PlacedLine)
  pub have : AllZip IsPartWith texts parts
  pub all : ls ≡ lines_of_all parts
  pub few : AtMostThree ls

-- the first faulty part: behind good ones a text that is wrong
pub record IsFirstFaultyPart (texts : List Text) (e : JoinFault) : Type 0 where
  pub good : List Text
  pub bad : Text
  pub rest : List Text
  pub parted : texts ≡ good ++ bad ∷ rest
  pub lines : List PlacedLine
  pub read : AreReadAs good lines
  pub wrong : IsFaultOfPart (length good) lines bad e

-- how many places these lines have: one more than the greatest of them
abbrev pub places_of : List PlacedLine → Count
places_of [] = 0
places_of (l ∷ ls) = max (l.place + 1) (places_of ls)

-- the place is the first that has no line
abbrev pub IsFirstMissing : List PlacedLine → JoinFault → Type 0
IsFirstMissing ls (fault.Missing place) =
    (lines_of_place ls place ≡ [])
    × ((p : Position) → p < place → lines_of_place ls p ≢ [])
IsFirstMissing ls _ = ⊥

-- the place is one of them, and each before it has three lines
pub record IsBehindThrees (ls : List PlacedLine) (place : Position) : Type 0 where
  pub within : place < places_of ls
  pub threes : (p : Position) → p < place → length (lines_of_place ls p) ≡ 3

-- the place is the first that has not three lines
abbrev pub IsFirstShort : List PlacedLine → JoinFault → Type 0
IsFirstShort ls (fault.Missing place) =
    IsBehindThrees ls place × (lines_of_place ls place ≡ [])
IsFirstShort ls (fault.Lines place) =
    IsBehindThrees ls place × (1 ≤ length (lines_of_place ls place))
    × (length (lines_of_place ls place) ≤ 2)
IsFirstShort ls _ = ⊥

-- what is wrong with the places of all lines: there are fewer than are asked for, so that one is missing; or more; or
-- else one of them has not three lines
abbrev pub IsFaultOfPlaces : List PlacedLine → Option Count → JoinFault → Type 0
IsFaultOfPlaces ls None e = IsFirstShort ls e
IsFaultOfPlaces ls (Some asked) e =
    ((places_of ls < asked) × IsFirstMissing ls e)
    ⊎ (((asked < places_of ls) × (e ≡ fault.Beyond asked))
    ⊎ ((places_of ls ≡ asked) × IsFirstShort ls e))

-- why parts do not make a table: the first faulty part, or else the first fault of the places of all lines
abbrev pub IsJoinFaultOf : List Text → Option Count → JoinFault → Type 0
IsJoinFaultOf texts asked e =
    IsFirstFaultyPart texts e
    ⊎ ((ls : List PlacedLine) × AreReadAs texts ls × IsFaultOfPlaces ls asked e)
