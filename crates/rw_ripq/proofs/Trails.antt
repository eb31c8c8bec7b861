-- A trail that grows by a mark, and one that is undone by its last mark.
use Rattle.std.proofs.Common.{◌≡◌, List, [], ◌∷◌, ◌++◌, refl, sym, ap, ◌∙◌, subst}
use Rattle.rw_blocks.specs.declared.Mark.{Mark}
use Rattle.rw_blocks.specs.State.{QueueState}
use Rattle.rw_blocks.specs.Undo.{IsUndoable, Undoes, undo_of}
use Rattle.rw_ripq.specs.Trail.{IsRewindable, Leads, rewind_of}

pub rewind_of-push : (ms : List Mark) (m : Mark) (q : QueueState) → rewind_of (ms ++ m ∷ []) q ≡ rewind_of ms (undo_of m q)
rewind_of-push [] m q = refl
rewind_of-push (x ∷ ms) m q = ap (undo_of x) (rewind_of-push ms m q)

pub IsRewindable-push : (ms : List Mark) (m : Mark) (q : QueueState) → IsUndoable m q → IsRewindable ms (undo_of m q) → IsRewindable (ms ++ m ∷ []) q
IsRewindable-push [] m q can rest = (can, tt)
IsRewindable-push (x ∷ ms) m q can rest = (subst (λ s. IsUndoable x s) (sym (rewind_of-push ms m q)) rest.0, IsRewindable-push ms m q can rest.1)

pub IsRewindable-last : (ms : List Mark) (m : Mark) (q : QueueState) → IsRewindable (ms ++ m ∷ []) q → IsUndoable m q
IsRewindable-last [] m q can = can.0
IsRewindable-last (x ∷ ms) m q can = IsRewindable-last ms m q can.1

pub IsRewindable-rest : (ms : List Mark) (m : Mark) (q : QueueState) → IsRewindable (ms ++ m ∷ []) q → IsRewindable ms (undo_of m q)
IsRewindable-rest [] m q can = tt
IsRewindable-rest (x ∷ ms) m q can = (subst (λ s. IsUndoable x s) (rewind_of-push ms m q) can.0, IsRewindable-rest ms m q can.1)

pub Leads-push : (ms : List Mark) (m : Mark) (before mid after : QueueState) → Leads ms before mid → Undoes m mid after → Leads (ms ++ m ∷ []) before after
Leads-push ms m before mid after l u =
    record {
      can = IsRewindable-push ms m after u.can (rw u.back l.can);
      back = rewind_of-push ms m after ∙ ap (rewind_of ms) u.back ∙ l.back;
    }

pub ruleset trail_laws = (Leads-push, rewind_of-push, IsRewindable-last, IsRewindable-rest)
