-- Rows in order of time.
use Rattle.std.specs.Prelude.{◌≤◌, List, [], ◌∷◌}
use Rattle.rw_vt.specs.Words.{Time}
use Rattle.rw_trace.specs.declared.Row.{Row}

-- no row is before time t, or before the row in front of it
abbrev pub AreInOrderFrom : Time → List Row → Type 0
AreInOrderFrom t [] = Unit {0}
AreInOrderFrom t (r ∷ rs) = (t ≤ r.time) × AreInOrderFrom r.time rs

-- no row is before the row in front of it
abbrev pub AreInOrder : List Row → Type 0
AreInOrder rs = AreInOrderFrom 0 rs
