-- What one worker's processes do, one deed after another, and what they give out.
use Rattle.std.specs.Prelude.{◌≡◌, suc, ◌≤◌, Bool, true, false, List, [], ◌∷◌, ◌++◌, Option, Some}
use Rattle.rw_vt.specs.Words.{Count, Process, Time}
use Rattle.rw_vt.specs.declared.event.Event.{Event}
use Rattle.rw_vt.specs.declared.event.Letter.{Letter}
use Rattle.rw_vt.specs.Order.{AtMost, Each}
use Rattle.rw_vt.specs.System.{Rules}
use Rattle.rw_lp.specs.Process.{ProcessState, Turned, Stays, execute_next}
use Rattle.rw_lp.specs.declared.way.Way.{Way}
use Rattle.rw_lp.specs.declared.way.Way.TheVariants.{Aggressive, Lazy}
use Rattle.rw_lp.specs.Arrival.{undo_by, ArrivedBy}
use Rattle.rw_lp.specs.declared.answer.StepFault.TheVariants.{Straggler}

pub data Deed (B : Type 0) : Type 0 where
  -- a letter comes to its process, after the undoings that it needs
  Arrival : (l : Letter B) → Deed B
  -- the last processed event of process p is undone
  Undoing : (p : Process) → Deed B
  -- the least pending event of process p is executed
  Execution : (p : Process) → Deed B

-- how a worker takes events back, where it does so lazily or not
abbrev pub way_of : Bool → Way
way_of false = Aggressive
way_of true = Lazy

-- the processes that a worker has, by their numbers
abbrev pub Owned : Type 0 → Type 0 → Type 0
Owned S B = Process → Option (ProcessState S B)

-- process p went from x to z and gave these letters out, as the relation says; the others stayed
pub record Stepped {S B : Type 0} (p : Process)
    (By : ProcessState S B → ProcessState S B → List (Letter B) → Type 0)
    (a b : Owned S B) (x z : ProcessState S B) (out : List (Letter B)) : Type 0 where
  pub was : a p ≡ Some x
  pub is : b p ≡ Some z
  pub by : By x z out
  pub others : (q : Process) → (q ≡ p → ⊥) → b q ≡ a q

-- the letter is of a valid event that is not before g
pub record IsFair {S B : Type 0} (y : Rules S B) (g : Time) (l : Letter B) : Type 0 where
  pub valid : y.valid l.event ≡ true
  pub from : g ≤ l.event.time

-- what is next at x is the least of all pending events
abbrev pub IsLeast : {S B : Type 0} → Rules S B → Owned S B → ProcessState S B → Type 0
IsLeast {S} {B} y a x = (e : Event B) (rest : List (Event B)) → x.pending ≡ e ∷ rest
    → (q : Process) (z : ProcessState S B) → a q ≡ Some z
    → Each y.order (λ f. AtMost y.order e f) z.pending

-- the deed, done by processes none of which may go back before g; what has to be undone is undone
-- that way
abbrev pub Did : {S B : Type 0} → Rules S B → Time → Way → Deed B
    → Owned S B → Owned S B → List (Letter B) → Type 0
Did {S} {B} y g way (Arrival l) a b out = (x z : ProcessState S B)
    × Stepped l.event.to (ArrivedBy way y l.event.to l) a b x z out
    × IsFair y g l
-- an undoing, where what is next is a straggler
Did {S} {B} y g way (Undoing p) a b out = (x z : ProcessState S B)
    × Stepped p (λ x z out. undo_by way y p x ≡ Turned z out) a b x z out
    × (execute_next y p x ≡ Stays Straggler)
Did {S} {B} y g way (Execution p) a b out = (x z : ProcessState S B)
    × Stepped p (λ x z out. execute_next y p x ≡ Turned z out) a b x z out
    × IsLeast y a x

-- the deeds lead from a to b, and give out these letters
abbrev pub Goes : {S B : Type 0} → Rules S B → Time → Way → List (Deed B)
    → Owned S B → Owned S B → List (Letter B) → Type 0
Goes y g way [] a b given = (b ≡ a) × (given ≡ [])
Goes {S} {B} y g way (d ∷ ds) a b given = (c : Owned S B) × (out rest : List (Letter B))
    × Did y g way d a c out × Goes y g way ds c b rest × (given ≡ out ++ rest)

-- the letters that arrive
abbrev pub arrivals : {B : Type 0} → List (Deed B) → List (Letter B)
arrivals [] = []
arrivals (Arrival l ∷ ds) = l ∷ arrivals ds
arrivals (Undoing p ∷ ds) = arrivals ds
arrivals (Execution p ∷ ds) = arrivals ds

-- how many deeds are executions
abbrev pub executions : {B : Type 0} → List (Deed B) → Count
executions [] = 0
executions (Arrival l ∷ ds) = executions ds
executions (Undoing p ∷ ds) = executions ds
executions (Execution p ∷ ds) = suc (executions ds)
