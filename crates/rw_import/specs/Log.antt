-- What a log means, however its rows are written: what each row says, which rows are kept, and what each of these
-- becomes.
use Rattle.std.specs.Prelude.{◌≡◌, ◌≤◌, ◌+◌, ◌-◌, ◌*◌, ◌/◌, ◌%◌, ◌^◌, ◌++◌, ℕ, List, [], ◌∷◌, Bool, true, false, Result, Ok, Err, Option, Some, None, map, fold, min, count_by, bit_xor, length, nat_le, unwrap_or, if◌then◌else◌}
use Rattle.std.specs.List.{AllPass, filter_map}
use Rattle.std.specs.Result.{is_ok, result_ok}
use Rattle.rw_numbers.specs.Words.{Count, Object, Position, Time}
use Rattle.rw_trace.specs.Limits.{latest_time, most_rows}
use Rattle.rw_trace.specs.declared.Row.{Row}
use Rattle.rw_import.specs.declared.options.Dealing.{Dealing}
use Rattle.rw_import.specs.declared.options.Dealing.TheVariants.{ByObject, ByRow}
use Rattle.rw_import.specs.declared.options.Options.{Options}
use Rattle.rw_import.specs.declared.fault.Part.{Part}
use Rattle.rw_import.specs.declared.fault.Part.TheVariants as part
use Rattle.rw_import.specs.declared.fault.Flaw.{Flaw}
use Rattle.rw_import.specs.declared.fault.Flaw.TheVariants.{Column, Length}
use Rattle.rw_import.specs.declared.fault.ImportFault.{ImportFault}
use Rattle.rw_import.specs.declared.fault.ImportFault.TheVariants as fault
use Rattle.rw_import.specs.declared.fault.Losses.{Losses}
use Rattle.rw_import.specs.declared.entry.Entry.{Entry}
use Rattle.rw_import.specs.declared.entry.LeftOut.{LeftOut}
use Rattle.rw_import.specs.declared.entry.Counts.{Counts}

-- what a row says: an entry, whose time is one of a log, and its object
abbrev pub Said : Type 0 → Type 0
Said O = Entry × O

-- what a row says, or what is first wrong with it
abbrev pub Saying : Type 0 → Type 0
Saying O = Result (Said O) Flaw

-- an edge, counted from 0
abbrev pub Edge : Type 0
Edge = ℕ

-- a time of a log, in billionths of its unit
abbrev pub LogTime : Type 0
LogTime = ℕ

-- billionths in a unit of time
abbrev pub billion : ℕ
billion = 10 ^ 9

-- the lesser of a time that may be there and that of a row, if it says one
abbrev pub earlier : {O : Type 0} → Option LogTime → Saying O → Option LogTime
earlier m (Err f) = m
earlier None (Ok s) = Some s.0.time
earlier (Some t) (Ok s) = Some (min t s.0.time)

-- the least time that rows say, or 0 where none says one
abbrev pub first_time : {O : Type 0} → List (Saying O) → LogTime
first_time said = unwrap_or (fold earlier None said) 0

-- the ticks from the least time to another, at so many in a unit, rounded down
abbrev pub ticks_from : Time → LogTime → LogTime → Time
ticks_from ticks least time = ((time - least) * ticks) / billion

-- how many ticks behind that of its time a row may stand: none, or where rows are spread the rest of its unit
abbrev pub room_for : Options → Time
room_for o = if o.spread then o.ticks - 1 else 0

-- a row whose time is past the latest one of a trace is left out, for its time, which stands in this column
abbrev pub in_time : {O : Type 0} → Options → LogTime → Position → Saying O → Saying O
in_time o least column (Ok s) =
    if nat_le (ticks_from o.ticks least s.0.time + room_for o) latest_time then Ok s
    else Err (Column column part.Time)
in_time o least column (Err f) = Err f

-- what becomes of each row: it is kept with what it says, or left out for what is wrong
abbrev pub told_apart : {O : Type 0} → Options → Position → List (Saying O) → List (Saying O)
told_apart o column said = map (in_time o (first_time said) column) said

-- the rows that are kept, in order
abbrev pub kept_in : {O : Type 0} → List (Saying O) → List (Said O)
kept_in said = filter_map result_ok said

-- whether a row is left out because it is cut off
abbrev pub is_cut_off : {O : Type 0} → Saying O → Bool
is_cut_off (Err Length) = true
is_cut_off (Err (Column c p)) = false
is_cut_off (Ok s) = false

-- whether two parts are the same
abbrev pub is_part : Part → Part → Bool
is_part part.Time part.Time = true
is_part part.Edge part.Edge = true
is_part part.Object part.Object = true
is_part part.Size part.Size = true
is_part part.Kind part.Kind = true
is_part p q = false

-- whether a row is left out for this part
abbrev pub is_flawed_in : {O : Type 0} → Part → Saying O → Bool
is_flawed_in p (Err (Column c q)) = is_part p q
is_flawed_in p (Err Length) = false
is_flawed_in p (Ok s) = false

-- how many rows are left out, by cause
abbrev pub left_out_of : {O : Type 0} → List (Saying O) → LeftOut
left_out_of said = record {
  length = count_by is_cut_off said;
  time = count_by (is_flawed_in part.Time) said;
  edge = count_by (is_flawed_in part.Edge) said;
  object = count_by (is_flawed_in part.Object) said;
  size = count_by (is_flawed_in part.Size) said;
  kind = count_by (is_flawed_in part.Kind) said;
}

-- how many rows are left out in all
abbrev pub all_left_out : LeftOut → Count
all_left_out l = l.length + l.time + l.edge + l.object + l.size + l.kind

-- how many kept rows have a greater size in the log
abbrev pub clamped_in : {O : Type 0} → List (Said O) → Count
clamped_in kept = count_by (λ s. s.0.clamped) kept

-- what has come of the rows of a log
abbrev pub row_counts : {O : Type 0} → List (Saying O) → Counts
row_counts said = record {
  kept = length (kept_in said);
  clamped = clamped_in (kept_in said);
  left_out = left_out_of said;
}

-- enough rows are kept: one or more, and of a hundred no more are left out than the options allow
pub record AreEnough (o : Options) (kept : Count) (left : LeftOut) : Type 0 where
  pub some : 1 ≤ kept
  pub few : 100 * all_left_out left ≤ o.max_left_out * (kept + all_left_out left)

-- too few rows are kept, and this is told of them
pub record AreTooFew (o : Options) (c : Counts) (t : Losses) : Type 0 where
  pub few : AreEnough o c.kept c.left_out → ⊥
  pub counts : t.counts ≡ c

-- what is told where too few are
abbrev pub IsErrorOfLosses : Options → Counts → ImportFault → Type 0
IsErrorOfLosses o c e = (t : Losses) × (e ≡ fault.TooFewKept t) × AreTooFew o c t

-- a number's bits mixed, by the finalizer of SplitMix64
abbrev pub mixed_once : ℕ → ℕ
mixed_once n = (bit_xor n (n / 2 ^ 30) * 0xbf58476d1ce4e5b9) % 2 ^ 64

abbrev pub mixed_twice : ℕ → ℕ
mixed_twice n = (bit_xor n (n / 2 ^ 27) * 0x94d049bb133111eb) % 2 ^ 64

unfoldable pub mixed : ℕ → ℕ
mixed n = bit_xor (mixed_twice (mixed_once n)) (mixed_twice (mixed_once n) / 2 ^ 31)

-- the edge that a kept row is dealt to, from its place among these or from its object's number
unfoldable pub dealt_edge : Dealing → Count → Position → Object → Edge
dealt_edge ByRow edges place object = place % edges
dealt_edge ByObject edges place object = mixed object % edges

-- the edge of a kept row: its own where it names one
abbrev pub edge_for : Options → Position → Object → Option Edge → Edge
edge_for o place object (Some edge) = edge
edge_for o place object None = dealt_edge o.dealing o.edges place object

-- the trace's row of the kept row at a place, whose object has this number
abbrev pub row_for : Options → LogTime → Position → Object → Entry → Row
row_for o least place object entry = record {
  time = ticks_from o.ticks least entry.time;
  edge = edge_for o place object entry.edge;
  object = object;
  size = entry.size;
  kind = entry.kind;
}

-- the trace's rows of kept rows from a place on, where each object has its number
unfoldable pub rows_for : {O : Type 0} → Options → LogTime → (O → Object) → Position → List (Said O)
    → List Row
rows_for o least number place [] = []
rows_for o least number place (s ∷ ss) =
    row_for o least place (number s.1) s.0 ∷ rows_for o least number (place + 1) ss

-- every row is kept
abbrev pub AllKept : {O : Type 0} → List (Saying O) → Type 0
AllKept said = AllPass is_ok said

-- strict or not: strict, every row is kept
abbrev pub IsStrictlyKept : {O : Type 0} → Options → List (Saying O) → Type 0
IsStrictlyKept o said = o.strict ≡ true → AllKept said

-- the fault that names a row and what is wrong with it
abbrev pub fault_at : Position → Flaw → ImportFault
fault_at n Length = fault.RowLength n
fault_at n (Column c p) = fault.Row n c p

-- strict, the first row that is left out
pub record IsFirstLeftOut {O : Type 0} (o : Options) (said : List (Saying O))
    (e : ImportFault) : Type 0 where
  pub strict : o.strict ≡ true
  pub before : List (Saying O)
  pub flaw : Flaw
  pub after : List (Saying O)
  pub parts : said ≡ before ++ (Err flaw ∷ after)
  pub kept : AllKept before
  pub told : e ≡ fault_at (length before) flaw

-- one kept row too many for a trace, and strict none left out before it
pub record IsOneTooMany {O : Type 0} (o : Options) (said : List (Saying O)) : Type 0 where
  pub before : List (Saying O)
  pub row : Said O
  pub after : List (Saying O)
  pub parts : said ≡ before ++ (Ok row ∷ after)
  pub full : length (kept_in before) ≡ most_rows
  pub kept : IsStrictlyKept o before

-- why a log is refused for its rows
abbrev pub IsRowsFault : {O : Type 0} → Options → List (Saying O) → ImportFault → Type 0
IsRowsFault o said fault.TooManyRows = IsOneTooMany o said
IsRowsFault o said (fault.RowLength n) = IsFirstLeftOut o said (fault.RowLength n)
IsRowsFault o said (fault.Row n c p) = IsFirstLeftOut o said (fault.Row n c p)
IsRowsFault o said fault.Header = ⊥
IsRowsFault o said (fault.NoColumn p) = ⊥
IsRowsFault o said fault.Memory = ⊥
IsRowsFault o said (fault.Order n) = ⊥
IsRowsFault o said fault.Read = ⊥
IsRowsFault o said fault.Output = ⊥
IsRowsFault o said (fault.OpenQuote n) = ⊥
IsRowsFault o said (fault.TooFewKept t) = AreTooFew o (row_counts said) t
IsRowsFault o said (fault.Format f) = ⊥
