-- What a text of rows is, in the words of `rw_trace`.
use Rattle.std.specs.Prelude.{◌≡◌, ◌≤◌, ◌<◌, ◌^◌, List, [], ◌∷◌, Bool, true, false, All, Ok, codes, length}
use Rattle.std.specs.List.{list_any}
use Rattle.rw_trace.specs.Laws.{IsRow}
use Rattle.rw_numbers.specs.Words.{Count}
use Rattle.rw_trace.specs.Trace.{trace_of}
use Rattle.rw_trace.specs.Unread.{records_of}
use Rattle.rw_trace.specs.Words.{Fields, Text}
use Rattle.rw_trace.specs.declared.Kind.{Kind}
use Rattle.rw_trace.specs.declared.Kind.TheVariants.{Get, Purge}
use Rattle.rw_trace.specs.declared.Row.{Row}

-- whether a kind is a purge
abbrev pub is_purging : Kind → Bool
is_purging Get = false
is_purging Purge = true

-- whether some row is a purge
abbrev pub has_purge : List Row → Bool
has_purge rows = list_any (λ r. is_purging r.kind) rows

-- the header of a trace whose rows name their kinds, or do not
abbrev pub header_fields : Bool → Fields
header_fields false = codes "time" ∷ codes "edge" ∷ codes "object" ∷ codes "size" ∷ []
header_fields true =
    codes "time" ∷ codes "edge" ∷ codes "object" ∷ codes "size" ∷ codes "kind" ∷ []

-- where a row is a purge, the lines name the kinds
abbrev pub NamesPurges : Bool → List Row → Type 0
NamesPurges kinds rows = All (λ r. is_purging r.kind ≡ true → kinds ≡ true) rows

-- a text begins with the header whose rows name their kinds, or do not
abbrev pub BeginsWithHeader : Bool → Text → Type 0
BeginsWithHeader kinds text =
    (body : List Fields) × (records_of text ≡ header_fields kinds ∷ body)

-- for any number of edges, a text is a trace of these rows where they are in the ranges of a trace, and at most so many
abbrev pub WritesTrace : Count → Text → List Row → Type 0
WritesTrace most text rows =
    (edges : Count) → edges < 2 ^ 32 → All (IsRow edges) rows → length rows ≤ most
    → trace_of edges most (records_of text) ≡ Ok rows
