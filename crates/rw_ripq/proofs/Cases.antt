-- The operations' definitions with the test that each makes as an argument, for proofs by cases.
use Rattle.std.specs.Prelude.{◌+◌, Bool, if◌then◌else◌}
use Rattle.rw_blocks.specs.declared.Kind.{Kind}
use Rattle.rw_blocks.specs.declared.Kind.TheVariants.{Virtual}
use Rattle.rw_numbers.specs.Words.{Object, Section, Serial}
use Rattle.rw_blocks.specs.State.{QueueState, row_or}
use Rattle.rw_blocks.specs.Primitives.{after_replace, after_seal}
use Rattle.rw_ripq.specs.Work.{Work}
use Rattle.rw_ripq.specs.Put.{put_again, with_room}
use Rattle.rw_ripq.specs.Sealed.{without_if_emptied, section_with, without_block}
use Rattle.rw_ripq.specs.Adjust.{adjust, heavy_section, split_at}

-- ---- put
abbrev pub seal_unless : Bool → QueueState → Section → Kind → QueueState
seal_unless t q i kind = if t then q else after_seal q i kind

-- ---- a block that is emptied
abbrev pub without_block_if : Bool → QueueState → Serial → QueueState
without_block_if t q b = if t then without_block q b else q

-- ---- promote
abbrev pub moved : QueueState → Object → Section → QueueState
moved q o i = without_if_emptied (after_replace (with_room q Virtual i (row_or q o).size) o i) (row_or q o).place

abbrev pub moved_unless : Bool → QueueState → Object → Section → QueueState
moved_unless t q o i = if t then q else moved q o i

-- ---- evict: an object that is put again, from its place
abbrev pub reinserted_from : QueueState → Object → Serial → QueueState
reinserted_from q o place = without_if_emptied (put_again q o (section_with q place)) place

abbrev pub reinserted : QueueState → Object → QueueState
reinserted q o = reinserted_from q o (row_or q o).place

-- ---- adjust
abbrev pub split_if : Bool → Work → Work
split_if t w = if t then split_at (heavy_section w.queue) w else w

-- ---- insert
abbrev pub adjust_unless : Bool → Work → Work
adjust_unless t w = if t then w else adjust (record w { tally = record w.tally { writes = w.tally.writes + 1 } })
