-- A run that has reached some time: the states to which it has led, and the events that wait.
use Rattle.std.specs.Prelude.{◌≡◌, List, filter, nat_le}
use Rattle.rw_vt.specs.Words.{Time}
use Rattle.rw_vt.specs.declared.event.Event.{Event}
use Rattle.rw_vt.specs.Order.{copies}
use Rattle.rw_vt.specs.System.{System, all_sent, journal_below, IsOutcome}

-- these are the states that executing all events of times below t in order leaves
abbrev pub AreStatesAt : {S B : Type 0} → System S B → Time → List S → Type 0
AreStatesAt {B = B} y t states =
    (journals : List (List (Event B))) × IsOutcome y t journals states

-- the events that wait then: of those from outside and of all that is sent on the way, those not before t
abbrev pub waiting_at : {S B : Type 0} → System S B → Time → List (Event B)
waiting_at y t = filter (λ e. nat_le t e.time) (all_sent y (λ p. journal_below y t p))

-- the run of y has reached t: all events of times below t are executed in order, and no other, which has led to these
-- states; and these events wait, in any order
pub record HasReached {S B : Type 0} (y : System S B) (t : Time) (states : List S)
    (waiting : List (Event B)) : Type 0 where
  pub states_are : AreStatesAt y t states
  pub waiting_are : (e : Event B)
      → copies y.rules.order e waiting ≡ copies y.rules.order e (waiting_at y t)
