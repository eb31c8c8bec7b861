-- What the bytes of a trace are read as.
use Rattle.std.specs.Prelude.{ℕ, List, Result}
use Rattle.rw_trace.specs.declared.TraceFault.{TraceFault}

-- the bytes of a text
abbrev pub Text : Type 0
Text = List ℕ

-- a record: the texts of its fields
abbrev pub Fields : Type 0
Fields = List Text

-- a value, or a fault of the trace
abbrev pub OrFault : Type 0 → Type 0
OrFault A = Result A TraceFault
