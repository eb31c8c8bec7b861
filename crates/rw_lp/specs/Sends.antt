-- What one execution sent.
use Rattle.std.specs.Prelude.{List, [], ◌∷◌}
use Rattle.rw_vt.specs.declared.event.Event.{Event}
use Rattle.rw_lp.specs.declared.sends.Kept.{Kept}
use Rattle.rw_lp.specs.declared.sends.Kept.TheVariants.{Nothing, One, Many}

-- the events, in order
abbrev pub events_of : {B : Type 0} → Kept B → List (Event B)
events_of Nothing = []
events_of (One event) = event ∷ []
events_of (Many events) = events.items
