-- An output that takes events, one after another.
use Rattle.std.specs.Prelude.{◌≡◌, List, [], ◌∷◌}
use Rattle.rw_vt.specs.declared.event.Event.{Event}

-- the output has come from a to b by taking these events, in order; `Takes` says what taking one event makes of it
abbrev pub TookEach : {O B : Type 0} → (O → Event B → O → Type 0) → O → List (Event B) → O
    → Type 0
TookEach Takes a [] b = b ≡ a
TookEach {O} {B} Takes a (e ∷ es) b = (c : O) × Takes a e c × TookEach Takes c es b
