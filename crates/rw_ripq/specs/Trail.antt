-- A trail: the marks of what was done, the first one first.
use Rattle.std.specs.Prelude.{◌≡◌, List, [], ◌∷◌}
use Rattle.rw_blocks.specs.declared.Mark.{Mark}
use Rattle.rw_blocks.specs.State.{QueueState}
use Rattle.rw_blocks.specs.Undo.{undo_of, IsUndoable}

-- the state after the marks are undone, the last one first
abbrev pub rewind_of : List Mark → QueueState → QueueState
rewind_of [] q = q
rewind_of (m ∷ ms) q = undo_of m (rewind_of ms q)

-- each mark can be undone on the state that the later ones lead to
abbrev pub IsRewindable : List Mark → QueueState → Type 0
IsRewindable [] q = Unit {0}
IsRewindable (m ∷ ms) q = IsUndoable m (rewind_of ms q) × IsRewindable ms q

-- the trail takes the state after back to the one before
pub record Leads (ms : List Mark) (before after : QueueState) : Type 0 where
  pub can : IsRewindable ms after
  pub back : rewind_of ms after ≡ before
