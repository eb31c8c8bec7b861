-- A text that is read in two parts.
use Rattle.std.specs.Prelude.{◌≡◌, ◌≢◌, ◌≤◌, ◌-◌, List, ◌∷◌, All, Some, length, slice_get}
use Rattle.rw_numbers.specs.Words.{Count}
use Rattle.rw_trace.specs.Words.{Text, Fields}
use Rattle.rw_trace.specs.Trace.{version_of}
use Rattle.rw_trace.specs.Laws.{WriteRows}
use Rattle.rw_trace.specs.declared.Row.{Row}
use Rattle.rw_trace.specs.declared.Version.{Version}

-- a text is cut behind a line (10 is the line feed), with no quote (34) before, by which a line might go on; and what
-- comes behind does not begin as a byte order mark does
pub record IsCut (before behind : Text) : Type 0 where
  pub long : 3 ≤ length before
  pub line : slice_get before (length before - 1) ≡ Some 10
  pub plain : All (λ b. b ≢ 34) before
  pub unmarked : slice_get behind 0 ≢ Some 0xEF

-- the records are rows under the header that the first of some others is
pub record AreRowsUnder (edges : Count) (headed records : List Fields)
    (rows : List Row) : Type 0 where
  pub head : Fields
  pub body : List Fields
  pub parts : headed ≡ head ∷ body
  pub version : Version
  pub is_header : version_of head ≡ Some version
  pub written : WriteRows version edges records rows
