-- What an insertion, a promotion and a purge leave of the queue before.
use Rattle.std.specs.Prelude.{◌≡◌, ◌≤◌, Some, None, ◌⊎◌, length, true}
use Rattle.rw_numbers.specs.Words.{Object, Serial, Size}
use Rattle.rw_blocks.specs.declared.Place.{Place}
use Rattle.rw_blocks.specs.State.{QueueState, row_at}
use Rattle.rw_blocks.specs.Questions.{section_of}
use Rattle.rw_blocks.specs.Sums.{rows_homed}
use Rattle.rw_ripq.specs.Sealed.{is_sealed}

-- no row's size changes
abbrev pub KeepsSizes : QueueState → QueueState → Type 0
KeepsSizes before after =
    (o : Object) (r r' : Place)
    → row_at before o ≡ Some r → row_at after o ≡ Some r' → r'.size ≡ r.size

-- no row comes but the object's, which has the size given
abbrev pub AddsOnly : QueueState → Object → Size → QueueState → Type 0
AddsOnly before object size after =
    (o : Object) (r : Place)
    → row_at before o ≡ None → row_at after o ≡ Some r → (o ≡ object) × (r.size ≡ size)

-- of each row that left, its home or its place before is gone
abbrev pub LeavesWithBlock : QueueState → QueueState → Type 0
LeavesWithBlock before after =
    (o : Object) (r : Place)
    → row_at before o ≡ Some r → row_at after o ≡ None
    → (section_of after r.home ≡ None) ⊎ (section_of after r.place ≡ None)

-- the object keeps its size and its home
abbrev pub KeepsHome : QueueState → Object → QueueState → Type 0
KeepsHome before object after =
    (r : Place)
    → row_at before object ≡ Some r
    → (r' : Place) × (row_at after object ≡ Some r') × (r'.size ≡ r.size) × (r'.home ≡ r.home)

-- no row changes, comes or leaves but the object's
abbrev pub KeepsOthers : QueueState → Object → QueueState → Type 0
KeepsOthers before object after =
    (o : Object) → (o ≡ object → ⊥) → row_at after o ≡ row_at before o

-- the block is gone where it was sealed, or it is still the home of a row
abbrev pub IsReclaimed : QueueState → Serial → QueueState → Type 0
IsReclaimed before block after =
    is_sealed before block ≡ true
    → (section_of after block ≡ None) ⊎ (1 ≤ length (rows_homed after block))
