-- The arrival of a letter: the fewest undoings after which it is accepted in time, and then its delivery.
use Rattle.std.specs.Prelude.{◌≡◌, zero, suc, ◌<◌, Bool, false, if◌then◌else◌, not, ◌&&◌, List, [], ◌++◌}
use Rattle.std.specs.declared.cmp.Ordering.{Ordering}
use Rattle.rw_vt.specs.Words.{Count, Process}
use Rattle.rw_vt.specs.declared.event.Event.{Event}
use Rattle.rw_vt.specs.declared.event.Letter.{Letter}
use Rattle.rw_vt.specs.Order.{AtMost, Each, has}
use Rattle.rw_vt.specs.System.{Rules}
use Rattle.rw_lp.specs.declared.way.Way.{Way}
use Rattle.rw_lp.specs.declared.way.Way.TheVariants.{Aggressive, Lazy}
use Rattle.rw_lp.specs.Process.{ProcessState, Turn, Turned, Stays, split_last, is_less_than_last, undo_one, undo_lazily, deliver}
use Rattle.rw_lp.specs.Calls.{IsTaken}

-- a turn that gives these letters out first
abbrev pub with_out : {S B : Type 0} → List (Letter B) → Turn S B → Turn S B
with_out out (Stays fault) = Stays fault
with_out out (Turned z more) = Turned z (out ++ more)

-- the undoing of the last processed event, that way
abbrev pub undo_by : {S B : Type 0} → Way → Rules S B → Process → ProcessState S B → Turn S B
undo_by Aggressive y p x = undo_one y p x
undo_by Lazy y p x = undo_lazily y p x

-- a turn, and then such an undoing
abbrev pub and_undo : {S B : Type 0} → (ProcessState S B → Turn S B) → Turn S B → Turn S B
and_undo undo (Stays fault) = Stays fault
and_undo undo (Turned z out) = with_out out (undo z)

-- n undoings, one after another: a turn of its own
abbrev pub undo_times : {S B : Type 0} → (ProcessState S B → Turn S B) → Count → ProcessState S B
    → Turn S B
undo_times undo zero x = Turned x []
undo_times undo (suc n) x = and_undo undo (undo_times undo n x)

-- the letter cannot come before the last processed event is undone
abbrev pub is_barred : {S B : Type 0} → (Event B → Event B → Ordering) → Letter B → ProcessState S B
    → Bool
is_barred cmp l x =
    if l.anti
    then has cmp l.event x.processed && not (has cmp l.event x.pending)
    else is_less_than_last cmp l.event (split_last x.processed)

-- process x accepts the letter, and a message is less than no processed event
pub record Accepts {S B : Type 0} (cmp : Event B → Event B → Ordering) (l : Letter B)
    (x : ProcessState S B) : Type 0 where
  pub taken : IsTaken (deliver cmp l x)
  pub in_time : l.anti ≡ false → Each cmp (λ e. AtMost cmp e l.event) x.processed

-- the letter arrives at x, which leads to z and gives these letters out; what has to be undone is undone that way
pub record ArrivedBy {S B : Type 0} (way : Way) (y : Rules S B) (p : Process) (l : Letter B)
    (x z : ProcessState S B) (given : List (Letter B)) : Type 0 where
  -- `count` undoings lead to a process that accepts the letter
  pub count : Count
  pub between : ProcessState S B
  pub unsent : List (Letter B)
  pub undone : undo_times (undo_by way y p) count x ≡ Turned between unsent
  pub accepts : Accepts y.order l between
  -- fewer do not
  pub fewest : (k : Count) (w : ProcessState S B) (out : List (Letter B)) → k < count
      → undo_times (undo_by way y p) k x ≡ Turned w out → Accepts y.order l w → ⊥
  -- then it is delivered
  pub rest : List (Letter B)
  pub delivered : deliver y.order l between ≡ Turned z rest
  pub all : given ≡ unsent ++ rest

-- what is undone is cancelled; or what it sent is held
abbrev pub Arrived : {S B : Type 0} → Rules S B → Process → Letter B → ProcessState S B
    → ProcessState S B → List (Letter B) → Type 0
Arrived = ArrivedBy Aggressive

abbrev pub ArrivedLazily : {S B : Type 0} → Rules S B → Process → Letter B → ProcessState S B
    → ProcessState S B → List (Letter B) → Type 0
ArrivedLazily = ArrivedBy Lazy
