-- What has been read of each place.
use Rattle.std.specs.Prelude.{◌≡◌, ◌≢◌, ◌⊎◌, ◌<◌, ◌≤◌, List, ◌++◌, All, Option, None, Some, length, max, slice_index_or}
use Rattle.std.specs.List.{AllZip, concat, flat_map}
use Rattle.rw_vt.specs.Words.{Count, Position}
use Rattle.rw_trace.specs.Words.{Text}
use Rattle.rw_sweep.specs.Joining.{PlacedLine, lines_of_all, lines_of_place}
use Rattle.rw_sweep.specs.Parts.{placed_line}
use Rattle.rw_sweep.specs.declared.joiner.join_fault.JoinFault.{JoinFault}
use Rattle.rw_sweep.specs.declared.joiner.join_fault.JoinFault.TheVariants as fault
use Rattle.rw_sweep.specs.declared.joiner.slots.Slot.{Slot}
use Rattle.rw_sweep.specs.JoinFaults.{places_of}
use Rattle.rw_sweep.specs.PartLines.{AtMostThree, IsPartWith, IsPartLine}

-- a slot holds these lines
pub record IsSlotOf (lines : List Text) (slot : Slot) : Type 0 where
  pub many : slot.count ≡ length lines
  pub told : slot.text.items ≡ concat lines

-- the slots hold these lines, each in the slot of its place, none more than three
pub record AreSlotsOf (ls : List PlacedLine) (slots : List Slot) : Type 0 where
  pub within : All (λ l. l.place < length slots) ls
  pub few : AtMostThree ls
  pub each : (place : Position) (d : Slot) → place < length slots
      → IsSlotOf (lines_of_place ls place) (slice_index_or slots place d)

-- the slots have gained these lines
abbrev pub HaveGained : List PlacedLine → List Slot → List Slot → Type 0
HaveGained own old new = (ls : List PlacedLine) → AreSlotsOf ls old → AreSlotsOf (ls ++ own) new

-- there are slots for the places of these lines, too
abbrev pub HaveGrown : List PlacedLine → List Slot → List Slot → Type 0
HaveGrown own old new = length new ≡ max (length old) (places_of own)

-- the text has been read up to a rest: before that it has these lines, and the slots have gained them
pub record HasReadTo (text rest : Text) (old new : List Slot) : Type 0 where
  pub own : List PlacedLine
  pub told : text ≡ flat_map (λ l. placed_line l.place l.line) own ++ rest
  pub lines : All IsPartLine own
  pub gained : HaveGained own old new
  pub grown : HaveGrown own old new

-- the same, with so many lines
abbrev pub HasReadRows : Text → Text → List Slot → List Slot → Count → Type 0
HasReadRows text rest old new many =
    (read : HasReadTo text rest old new) × (many ≡ length read.own)

-- the part has been read: it has these lines, and the slots have gained them
pub record HasReadPart (text : Text) (old new : List Slot) : Type 0 where
  pub own : List PlacedLine
  pub is : IsPartWith text own
  pub gained : HaveGained own old new
  pub grown : HaveGrown own old new

-- the parts have been read, and the slots hold their lines
pub record HaveRead (texts : List Text) (slots : List Slot) : Type 0 where
  pub parts : List (List PlacedLine)
  pub have : AllZip IsPartWith texts parts
  pub hold : AreSlotsOf (lines_of_all parts) slots
  pub many : length slots ≡ places_of (lines_of_all parts)

-- so much holds of whatever lines the slots hold
abbrev pub OfHeld : List Slot → (List PlacedLine → Type 0) → Type 0
OfHeld slots Holds = (ls : List PlacedLine) → AreSlotsOf ls slots → Holds ls

-- the slot is the first of those with no line; with none such, it is the one behind them
pub record IsFirstEmpty (slots : List Slot) (place : Position) : Type 0 where
  pub within : place ≤ length slots
  pub before : (k : Position) (d : Slot) → k < place → (slice_index_or slots k d).count ≢ 0
  pub empty : (d : Slot) → place < length slots → (slice_index_or slots place d).count ≡ 0

-- why there are not as many slots as are asked for
abbrev pub IsFaultOfCount : List Slot → Option Count → JoinFault → Type 0
IsFaultOfCount slots None e = ⊥
IsFaultOfCount slots (Some asked) e =
    ((length slots < asked)
    × ((place : Position) × (e ≡ fault.Missing place) × IsFirstEmpty slots place))
    ⊎ ((asked < length slots) × (e ≡ fault.Beyond asked))

-- the fault of a slot that holds so many lines
abbrev pub IsFaultOfSlot : Position → Count → JoinFault → Type 0
IsFaultOfSlot place many (fault.Missing p) = (p ≡ place) × (many ≡ 0)
IsFaultOfSlot place many (fault.Lines p) = (p ≡ place) × (many ≢ 0) × (many ≢ 3)
IsFaultOfSlot place many _ = ⊥

-- the fault of the first slot that has not three lines
pub record IsFaultOfSlots (slots : List Slot) (e : JoinFault) : Type 0 where
  pub place : Position
  pub within : place < length slots
  pub before : (k : Position) (d : Slot) → k < place → (slice_index_or slots k d).count ≡ 3
  pub told : (d : Slot) → IsFaultOfSlot place (slice_index_or slots place d).count e
