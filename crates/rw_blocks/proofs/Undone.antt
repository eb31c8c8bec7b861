-- What follows where a queue is what a mark takes another one back to.
use Rattle.std.proofs.Common.{◌≡◌, ◌∙◌, sym, subst}
use Rattle.rw_blocks.specs.declared.Mark.{Mark}
use Rattle.rw_blocks.specs.State.{QueueState}
use Rattle.rw_blocks.specs.Loose.{IsLoose}
use Rattle.rw_blocks.specs.Undo.{undo_of, IsUndoable, IsWhatWasBefore}

-- the queue that the mark leads back to is the one before, and it is loose
pub was_before : (mark : Mark) (after q : QueueState) → q ≡ undo_of mark after → IsWhatWasBefore mark after q
was_before mark after q is = λ before u. is ∙ u.back

pub loose_before : (mark : Mark) (after q : QueueState) → q ≡ undo_of mark after → IsUndoable mark after → IsLoose q
loose_before mark after q is can = subst IsLoose (sym is) can.before
