-- A part of a run: what one of several workers has executed of it.
use Rattle.std.specs.Prelude.{◌≡◌, ◌+◌, ◌==◌, ◌++◌, [], ◌∷◌, if◌then◌else◌, true, List}
use Rattle.rw_vt.specs.Words.{Process}
use Rattle.rw_vt.specs.declared.event.Event.{Event}
use Rattle.rw_vt.specs.Order.{AtMost, copies, Has, IsAscending}
use Rattle.rw_vt.specs.System.{System, all_sent}

-- each process p has executed `J p`, in order; of all that came to these processes and that they
-- sent, the rest waits to be executed, none of it before what is done, or is out for others
pub record IsPartway {S B : Type 0} (y : System S B) (J : Process → List (Event B))
    (waiting out : List (Event B)) : Type 0 where
  pub fit : (p : Process) (a : Event B) → Has y.rules.order (J p) a
      → (a.to ≡ p) × (y.rules.valid a ≡ true)
  pub up : (p : Process) → IsAscending y.rules.order (J p)
  pub sound : (a : Event B) → Has y.rules.order waiting a → y.rules.valid a ≡ true
  pub ahead : (p : Process) (a b : Event B) → Has y.rules.order (J p) a
      → Has y.rules.order waiting b → AtMost y.rules.order a b
  pub balance : (e : Event B) → copies y.rules.order e (all_sent y J)
      ≡ copies y.rules.order e (J e.to)
      + (copies y.rules.order e waiting + copies y.rules.order e out)

-- the journals with one event more, at its process
abbrev pub with_next : {B : Type 0} → (Process → List (Event B)) → Event B → Process
    → List (Event B)
with_next J x q = if q == x.to then J q ++ x ∷ [] else J q
