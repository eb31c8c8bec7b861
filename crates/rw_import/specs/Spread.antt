-- Rows of one time of a log, spread within its unit.
use Rattle.std.specs.Prelude.{◌≡◌, ◌≤◌, ◌<◌, ◌+◌, ◌*◌, ◌/◌, ◌==◌, ◌&&◌, ℕ, List, Bool, Some, All, count_by, if◌then◌else◌, length, map, nat_le, slice_get, take, unwrap_or}
use Rattle.std.specs.HashMap.{HashMap, get}
use Rattle.std.specs.List.{enumerate_from}
use Rattle.rw_numbers.specs.Words.{Count, Object, Position, Time}
use Rattle.rw_trace.specs.Laws.{IsRow}
use Rattle.rw_trace.specs.Limits.{latest_time}
use Rattle.rw_trace.specs.declared.Row.{Row}
use Rattle.rw_import.specs.declared.options.Options.{Options}

-- how many rows have a time
abbrev pub rows_at : List Row → Time → Count
rows_at rows t = count_by (λ r. r.time == t) rows

-- a row behind some others, of all: as the k-th of the n rows of its time, it is k n-ths of a unit later
abbrev pub spread_row : Time → List Row → List Row → Row → Row
spread_row ticks all before r =
    record r { time = r.time + (rows_at before r.time * ticks) / rows_at all r.time }

-- rows of a log whose unit has so many ticks, each spread within its unit
abbrev pub spread : Time → List Row → List Row
spread ticks rows =
    map (λ p. spread_row ticks rows (take p.0 rows) p.1) (enumerate_from 0 rows)

-- rows that are spread, where the options ask for that
abbrev pub spread_if : Options → List Row → List Row
spread_if o rows = if o.spread then spread o.ticks rows else rows

-- each time is a whole number of units
abbrev pub AreWhole : Time → List Row → Type 0
AreWhole ticks rows = All (λ r. (units : Count) × (r.time ≡ units * ticks)) rows

-- no two rows have one time
abbrev pub AreSingle : List Row → Type 0
AreSingle rows = All (λ r. rows_at rows r.time ≡ 1) rows

-- a row that stands at a place of some rows, and what stands there afterwards
pub record StandsAt (old new : List Row) (i : Position) (was is : Row) : Type 0 where
  pub before : slice_get old i ≡ Some was
  pub after : slice_get new i ≡ Some is

-- what spreading does
pub record SpreadsRows (ticks : Time) (old new : List Row) : Type 0 where
  pub count : length new ≡ length old
  -- nothing but the time changes, and this not beyond the unit
  pub rest : (i : Position) (a b : Row) → StandsAt old new i a b
      → b ≡ record a { time = b.time }
  pub from : (i : Position) (a b : Row) → StandsAt old new i a b → a.time ≤ b.time
  pub within : (i : Position) (a b : Row) → StandsAt old new i a b → b.time < a.time + ticks
  -- rows of different times keep their order, and those of one time stand in that of the list
  pub order : (i j : Position) (a b c d : Row) → StandsAt old new i a b → StandsAt old new j c d
      → AreWhole ticks old → a.time < c.time → b.time < d.time
  pub turn : (i j : Position) (a b c d : Row) → StandsAt old new i a b → StandsAt old new j c d
      → a.time ≡ c.time → i < j → b.time ≤ d.time
  -- where each time has one row, nothing changes
  pub apart : AreSingle old → new ≡ old
  -- rows with room for a unit stay in the ranges of a trace
  pub ranges : (edges : Count) → All (IsRow edges) old
      → All (λ r. r.time + ticks ≤ latest_time + 1) old → All (IsRow edges) new

-- whether two rows have one time and one object
abbrev pub is_same_request : Row → Row → Bool
is_same_request r s = (r.time == s.time) && (r.object == s.object)

-- how many rows have the time and the object of a row
abbrev pub rows_like : List Row → Row → Count
rows_like rows r = count_by (λ s. is_same_request s r) rows

-- how many rows have the time and the object of another one
abbrev pub crowded : List Row → Count
crowded rows = count_by (λ r. nat_le 2 (rows_like rows r)) rows

-- ---- maps of counts
-- how often a key has come
abbrev pub times_in : {K S : Type 0} → (K → K → Bool) → HashMap K ℕ S → K → Count
times_in eq counts key = unwrap_or (get eq counts key) 0

-- a time and an object
abbrev pub Request : Type 0
Request = Time × Object

-- whether two of them are the same
abbrev pub is_same : Request → Request → Bool
is_same p q = (p.0 == q.0) && (p.1 == q.1)

-- those of a row
abbrev pub request_of : Row → Request
request_of r = (r.time, r.object)
