-- The sums of a queue: sizes of rows.
use Rattle.std.specs.Prelude.{◌+◌, Bool, if◌then◌else◌, List, drop, nat_eq, filter, sum_by}
use Rattle.std.specs.List.{list_any}
use Rattle.std.specs.Map.{values_of}
use Rattle.rw_blocks.specs.Rows.{size_of}
use Rattle.rw_numbers.specs.Words.{Section, Serial, Size}
use Rattle.rw_blocks.specs.declared.Kind.{Kind}
use Rattle.rw_blocks.specs.declared.Kind.TheVariants.{Device, Virtual}
use Rattle.rw_blocks.specs.declared.Place.{Place}
use Rattle.rw_blocks.specs.Sections.{SectionState, blocks_of, is_block, has_block}
use Rattle.rw_blocks.specs.State.{QueueState, section_at}

-- all rows
abbrev pub total : QueueState → Size
total q = size_of (values_of q.rows)

-- the rows whose home, or whose place, the block is
abbrev pub rows_homed : QueueState → Serial → List Place
rows_homed q b = filter (λ r. nat_eq r.home b) (values_of q.rows)

abbrev pub rows_placed : QueueState → Serial → List Place
rows_placed q b = filter (λ r. nat_eq r.place b) (values_of q.rows)

-- the bytes that a block holds as one of the kind: a device block is the home of their rows, a virtual one the place
abbrev pub bytes_held : Kind → QueueState → Serial → Size
bytes_held Device q b = size_of (rows_homed q b)
bytes_held Virtual q b = size_of (rows_placed q b)

-- ---- blocks by their serials
-- whether a queue has the block, as one of the kind
abbrev pub has_kind : Kind → QueueState → Serial → Bool
has_kind kind q b = list_any (λ s. list_any (is_block kind b) (blocks_of s)) q.sections

-- the fill of a block, 0 where there is no such block
abbrev pub fill : QueueState → Serial → Size
fill q b =
    if has_kind Device q b then bytes_held Device q b
    else (if has_kind Virtual q b then bytes_held Virtual q b else 0)

-- ---- sections
-- the rows whose place is one of the section's blocks
abbrev pub bytes_in : QueueState → SectionState → Size
bytes_in q s = size_of (filter (λ r. has_block r.place s) (values_of q.rows))

abbrev pub section_bytes : QueueState → Section → Size
section_bytes q i = bytes_in q (section_at q i)

-- the bytes of the sections nearer the tail
abbrev pub bytes_below : QueueState → Section → Size
bytes_below q i = sum_by (bytes_in q) (drop (i + 1) q.sections)
