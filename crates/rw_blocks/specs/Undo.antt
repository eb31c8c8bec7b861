-- Undoing a primitive by its mark.
use Rattle.std.specs.Prelude.{◌≡◌, ◌+◌, ◌-◌, ◌≤◌, ◌<◌, length, slice_get, slice_set, remove, None, IsSome, IsSomeAnd}
use Rattle.rw_numbers.specs.Words.{Section}
use Rattle.rw_blocks.specs.declared.Vanished.{Vanished}
use Rattle.rw_blocks.specs.declared.Seam.{Seam}
use Rattle.rw_blocks.specs.declared.Mark.{Mark}
use Rattle.rw_blocks.specs.declared.Mark.TheVariants.{Add, Remove, Rehome, Replace, Seal, TakeOut, Split, Merge}
use Rattle.rw_blocks.specs.Sections.{SectionState, active_of}
use Rattle.rw_blocks.specs.State.{QueueState, section_at, row_at, row_or}
use Rattle.rw_blocks.specs.Changes.{sections_changing, section_appending, section_joining, upper_of, section_unsealing, section_gaining, lower_of, parted_at}
use Rattle.rw_blocks.specs.Primitives.{with_row, empty_actives, after_remove}
use Rattle.rw_blocks.specs.Loose.{IsLoose}

-- the section is the two that it is parted in, joined
abbrev pub IsJoined : Seam → SectionState → Type 0
IsJoined seam s =
    section_joining seam.vanished (upper_of seam.upper_sealed s) (lower_of seam s) ≡ s

-- the seam of two sections that are joined
abbrev pub seam_of : Vanished → SectionState → SectionState → Seam
seam_of vanished upper lower =
    record {
      upper_sealed = length upper.sealed;
      device = lower.active_device;
      virtual_block = lower.active_virtual;
      vanished = vanished;
    }

-- where a merge joins the section with the next one
abbrev pub seam_below : QueueState → Section → Seam
seam_below q i = seam_of (empty_actives q (i + 1)) (section_at q i) (section_at q (i + 1))

-- ---- the queue before the primitive that gave the mark, from the one after it
abbrev pub undo_of : Mark → QueueState → QueueState
undo_of (Add o) q = after_remove q o
undo_of (Remove o r) q = with_row q o r
undo_of (Rehome o home place) q =
    with_row q o (record { size = (row_or q o).size; home = home; place = place })
undo_of (Replace o place) q = with_row q o (record (row_or q o) { place = place })
undo_of (Seal i kind) q =
    record q {
      sections = sections_changing q.sections i (section_unsealing kind);
      next = q.next - 1;
    }
undo_of (TakeOut i p b kind) q =
    record q { sections = sections_changing q.sections i (section_gaining p (b, kind)) }
undo_of (Split i) q =
    let lower = section_at q (i + 1) in
    record q {
      sections = slice_set
          (remove q.sections (i + 1))
          i
          (section_appending lower.sealed (section_at q i));
      next = q.next - 2;
    }
undo_of (Merge i seam) q = record q { sections = parted_at q.sections i seam }

-- what the mark speaks of is there
abbrev pub Matches : Mark → QueueState → Type 0
Matches (Add o) q = IsSome (row_at q o)
Matches (Remove o r) q = row_at q o ≡ None
Matches (Rehome o home place) q = IsSome (row_at q o)
Matches (Replace o place) q = IsSome (row_at q o)
Matches (Seal i kind) q =
    (i < length q.sections)
    × (IsSomeAnd (slice_get (section_at q i).sealed 0) (λ e. e.1 ≡ kind))
    × (active_of kind (section_at q i) + 1 ≡ q.next)
Matches (TakeOut i p b kind) q = (i < length q.sections) × (p ≤ length (section_at q i).sealed)
Matches (Split i) q =
    (i + 1 < length q.sections)
    × ((section_at q (i + 1)).active_device + 2 ≡ q.next)
    × ((section_at q (i + 1)).active_virtual + 1 ≡ q.next)
Matches (Merge i seam) q =
    (i < length q.sections)
    × (seam.upper_sealed ≤ length (section_at q i).sealed)
    × IsJoined seam (section_at q i)

-- the mark can be undone on this state: it is loose, and so is the state before
pub record IsUndoable (m : Mark) (q : QueueState) : Type 0 where
  pub loose : IsLoose q
  pub matches : Matches m q
  pub before : IsLoose (undo_of m q)

-- the mark takes the state after back to the one before
pub record Undoes (m : Mark) (before after : QueueState) : Type 0 where
  pub can : IsUndoable m after
  pub back : undo_of m after ≡ before

-- q is whatever state the mark takes the one after back to
abbrev pub IsWhatWasBefore : Mark → QueueState → QueueState → Type 0
IsWhatWasBefore m after q = (before : QueueState) → Undoes m before after → q ≡ before
