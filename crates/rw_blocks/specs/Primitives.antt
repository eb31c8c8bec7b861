-- The queue after each primitive.
use Rattle.std.specs.Prelude.{◌+◌, ◌≤◌, Bool, drop, insert, nat_eq}
use Rattle.rw_blocks.specs.Changes.{sections_changing, section_sealing, section_losing, upper_of, joined_at}
use Rattle.rw_numbers.specs.Words.{Count, Object, Position, Section, Serial, Size}
use Rattle.rw_blocks.specs.declared.Kind.{Kind}
use Rattle.rw_blocks.specs.declared.Kind.TheVariants.{Device, Virtual}
use Rattle.rw_blocks.specs.declared.Place.{Place}
use Rattle.rw_blocks.specs.declared.Vanished.{Vanished}
use Rattle.rw_blocks.specs.Rows.{row_homed, rows_with, rows_without}
use Rattle.rw_blocks.specs.Sections.{SectionState, active_of}
use Rattle.rw_blocks.specs.State.{QueueState, section_at, row_or}
use Rattle.rw_blocks.specs.Sums.{bytes_held}

-- the section's active block of the kind has room for z bytes more
abbrev pub HasRoom : Kind → QueueState → Section → Size → Type 0
HasRoom kind q i z = bytes_held kind q (active_of kind (section_at q i)) + z ≤ q.shape.block

-- ---- rows
-- the queue with another row for the object
abbrev pub with_row : QueueState → Object → Place → QueueState
with_row q o r = record q { rows = rows_with q.rows o r }

abbrev pub after_add : QueueState → Object → Size → Section → QueueState
after_add q o z i = with_row q o (row_homed z (active_of Device (section_at q i)))

abbrev pub after_remove : QueueState → Object → QueueState
after_remove q o = record q { rows = rows_without q.rows o }

abbrev pub after_rehome : QueueState → Object → Section → QueueState
after_rehome q o i = with_row q o (row_homed (row_or q o).size (active_of Device (section_at q i)))

abbrev pub after_replace : QueueState → Object → Section → QueueState
after_replace q o i =
    with_row q o (record (row_or q o) { place = active_of Virtual (section_at q i) })

-- ---- blocks
abbrev pub after_seal : QueueState → Section → Kind → QueueState
after_seal q i kind =
    record q {
      sections = sections_changing q.sections i (section_sealing kind q.next);
      next = q.next + 1;
    }

abbrev pub after_take_out : QueueState → Section → Position → QueueState
after_take_out q i p = record q { sections = sections_changing q.sections i (section_losing p) }

-- ---- sections
-- a section with these active blocks, and the sealed ones behind the first
abbrev pub rest_of : Count → Serial → Serial → SectionState → SectionState
rest_of count device virtual_block s =
    record { active_device = device; active_virtual = virtual_block; sealed = drop count s.sealed }

-- the lower section follows with the sealed blocks that the upper does not keep, and with fresh active blocks
abbrev pub after_split : QueueState → Section → Count → QueueState
after_split q i keep =
    record q {
      sections = insert
          (sections_changing q.sections i (upper_of keep))
          (i + 1)
          (rest_of keep q.next (q.next + 1) (section_at q i));
      next = q.next + 2;
    }

-- whether the section's active block of the kind holds nothing
abbrev pub is_active_empty : Kind → QueueState → Section → Bool
is_active_empty kind q i = nat_eq (bytes_held kind q (active_of kind (section_at q i))) 0

-- the section's active blocks that hold nothing
abbrev pub empty_actives : QueueState → Section → Vanished
empty_actives q i =
    record {
      device = is_active_empty Device q i;
      virtual_block = is_active_empty Virtual q i;
    }

-- an active block of the lower section vanishes where it holds nothing
abbrev pub after_merge : QueueState → Section → QueueState
after_merge q i = record q { sections = joined_at q.sections i (empty_actives q (i + 1)) }
