-- What an accepted trace is, in the words of its format.
use Rattle.std.specs.Prelude.{◌≡◌, ◌≢◌, ◌⊎◌, zero, suc, ◌<◌, ◌≤◌, ◌+◌, ◌-◌, ◌*◌, ◌^◌, ℕ, List, [], ◌∷◌, ◌++◌, MatchOption, length, IsSomeAnd, Some, ⊤}
use Rattle.std.specs.Char.{is_ascii_digit}
use Rattle.std.specs.List.{AllPass}
use Rattle.csv.specs.Records.{field_at}
use Rattle.rw_numbers.specs.Words.{Count, Position}
use Rattle.rw_trace.specs.Words.{Text, Fields}
use Rattle.rw_trace.specs.Limits.{greatest_size, latest_time, most_digits}
use Rattle.rw_trace.specs.Trace.{word_of, version_of, width_of}
use Rattle.rw_trace.specs.declared.Kind.{Kind}
use Rattle.rw_trace.specs.declared.Kind.TheVariants.{Get}
use Rattle.rw_trace.specs.declared.Row.{Row}
use Rattle.rw_trace.specs.declared.TraceFault.{TraceFault}
use Rattle.rw_trace.specs.declared.TraceFault.TheVariants as fault
use Rattle.rw_trace.specs.declared.Version.{Version}
use Rattle.rw_trace.specs.declared.Version.TheVariants.{First, Second}

-- the value of decimal digits, of which the last counts ones
unfoldable pub decimal : Text → ℕ
decimal [] = 0
decimal (b ∷ bs) = (b - 48) * 10 ^ length bs + decimal bs

-- a field writes a number: 1 to `most_digits` ASCII digits, of a value below 2 ^ 64
pub record IsNumber (f : Text) (n : ℕ) : Type 0 where
  pub some : 1 ≤ length f
  pub few : length f ≤ most_digits
  pub digits : AllPass is_ascii_digit f
  pub value : n ≡ decimal f
  pub fits : n < 2 ^ 64

-- a column writes a number
abbrev pub Writes : Fields → Position → ℕ → Type 0
Writes fields column n = IsSomeAnd (field_at fields column) (λ f. IsNumber f n)

-- a record writes a kind: each of the first version a get, one of the second the kind whose word its last field is
abbrev pub WritesKind : Version → Fields → Kind → Type 0
WritesKind First fields k = k ≡ Get
WritesKind Second fields k = field_at fields 4 ≡ Some (word_of k)

-- a record writes a row
pub record WritesRow (version : Version) (edges : Count) (fields : Fields)
    (row : Row) : Type 0 where
  pub width : length fields ≡ width_of version
  pub time : Writes fields 0 row.time
  pub edge : Writes fields 1 row.edge
  pub object : Writes fields 2 row.object
  pub size : Writes fields 3 row.size
  pub kind : WritesKind version fields row.kind
  pub time_within : row.time ≤ latest_time
  pub edge_within : row.edge < edges
  pub size_above : 1 ≤ row.size
  pub size_within : row.size ≤ greatest_size

-- a row whose numbers are in their ranges
pub record IsRow (edges : Count) (row : Row) : Type 0 where
  pub time : row.time ≤ latest_time
  pub edge : row.edge < edges
  pub object : row.object < 2 ^ 64
  pub some : 1 ≤ row.size
  pub few : row.size ≤ greatest_size

-- a column writes no number
abbrev pub Lacks : Fields → Position → Type 0
Lacks fields column = (n : ℕ) → ¬ (Writes fields column n)

-- a record writes no kind
abbrev pub LacksKind : Version → Fields → Type 0
LacksKind version fields = (k : Kind) → ¬ (WritesKind version fields k)

-- a column writes a number in its range
abbrev pub IsGood : Count → Fields → Position → Type 0
IsGood edges fields zero = (n : ℕ) × Writes fields 0 n × (n ≤ latest_time)
IsGood edges fields (suc zero) = (n : ℕ) × Writes fields 1 n × (n < edges)
IsGood edges fields (suc (suc zero)) = (n : ℕ) × Writes fields 2 n
IsGood edges fields (suc (suc (suc c))) =
    (n : ℕ) × Writes fields (c + 3) n × (1 ≤ n) × (n ≤ greatest_size)

-- the columns to the left of one are good
abbrev pub GoodBefore : Count → Fields → Position → Type 0
GoodBefore edges fields zero = ⊤
GoodBefore edges fields (suc c) = GoodBefore edges fields c × IsGood edges fields c

-- what is first wrong in row n: its length, then its columns from the left, in each the number before the range, and
-- last its kind
abbrev pub IsWrong : Version → Count → Position → Fields → TraceFault → Type 0
IsWrong version edges n fields (fault.RowLength k) =
    (k ≡ n) × (length fields ≢ width_of version)
IsWrong version edges n fields (fault.Number k c) =
    (k ≡ n) × (length fields ≡ width_of version) × (c < 4) × GoodBefore edges fields c
    × Lacks fields c
IsWrong version edges n fields (fault.TimeRange k) =
    (k ≡ n) × (length fields ≡ width_of version)
    × ((m : ℕ) × Writes fields 0 m × (latest_time < m))
IsWrong version edges n fields (fault.EdgeRange k) =
    (k ≡ n) × (length fields ≡ width_of version) × GoodBefore edges fields 1
    × ((m : ℕ) × Writes fields 1 m × (edges ≤ m))
IsWrong version edges n fields (fault.SizeRange k) =
    (k ≡ n) × (length fields ≡ width_of version) × GoodBefore edges fields 3
    × ((m : ℕ) × Writes fields 3 m × ((m ≡ 0) ⊎ (greatest_size < m)))
IsWrong version edges n fields (fault.Kind k) =
    (k ≡ n) × (length fields ≡ width_of version) × GoodBefore edges fields 4
    × LacksKind version fields
IsWrong version edges n fields fault.Header = ⊥
IsWrong version edges n fields fault.TooManyRows = ⊥
IsWrong version edges n fields fault.Memory = ⊥
IsWrong version edges n fields (fault.Order k) = ⊥

-- each record writes a row, in turn
unfoldable pub WriteRows : Version → Count → List Fields → List Row → Type 0
WriteRows version edges [] [] = ⊤
WriteRows version edges [] (w ∷ ws) = ⊥
WriteRows version edges (r ∷ rs) [] = ⊥
WriteRows version edges (r ∷ rs) (w ∷ ws) =
    WritesRow version edges r w × WriteRows version edges rs ws

-- the header of a version, and then a record of it for each of at most `most` rows
pub record IsTrace (edges most : Count) (recs : List Fields) (rows : List Row) : Type 0 where
  pub head : Fields
  pub body : List Fields
  pub parts : recs ≡ head ∷ body
  pub version : Version
  pub headed : version_of head ≡ Some version
  pub written : WriteRows version edges body rows
  pub few : length rows ≤ most

-- the first fault among records behind the header: behind good rows a record that is wrong, or one too many
pub record IsFirstFault (version : Version) (edges most : Count) (recs : List Fields)
    (e : TraceFault) : Type 0 where
  pub good : List Fields
  pub bad : Fields
  pub rest : List Fields
  pub parts : recs ≡ good ++ (bad ∷ rest)
  pub rows : List Row
  pub written : WriteRows version edges good rows
  pub told :
      ((length rows < most) × IsWrong version edges (length rows) bad e)
      ⊎ ((length rows ≡ most) × (e ≡ fault.TooManyRows))

-- why a trace is refused: its header, or else the first fault among the records behind it
abbrev pub IsFaultOf : Count → Count → List Fields → TraceFault → Type 0
IsFaultOf edges most [] e = e ≡ fault.Header
IsFaultOf edges most (h ∷ body) e =
    MatchOption (version_of h) (e ≡ fault.Header)
    (λ version. IsFirstFault version edges most body e)

-- the records are no trace
abbrev pub IsNoTrace : Count → Count → List Fields → Type 0
IsNoTrace edges most recs = (rows : List Row) → ¬ (IsTrace edges most recs rows)
