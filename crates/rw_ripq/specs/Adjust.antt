-- Adjust: evict, merge at most one pair of sections with few bytes, evict, and split at most one section with many.
use Rattle.std.specs.Prelude.{◌+◌, ◌-◌, ◌*◌, ◌/◌, Bool, if◌then◌else◌, ◌&&◌, not, length, Option, Some, None, nat_eq, nat_lt, nat_le, find}
use Rattle.std.specs.List.{range_with_len}
use Rattle.rw_numbers.specs.Words.{Section}
use Rattle.rw_blocks.specs.declared.Kind.TheVariants.{Device}
use Rattle.rw_blocks.specs.State.{QueueState, section_at}
use Rattle.rw_blocks.specs.Sums.{bytes_held, total, section_bytes}
use Rattle.rw_blocks.specs.Primitives.{after_merge, after_split}
use Rattle.rw_ripq.specs.Work.{Work, one_if}
use Rattle.rw_ripq.specs.Evict.{evict}

-- ---- merge
-- whether the section and the next one towards the tail together hold less than one share of all bytes
abbrev pub is_light : QueueState → Section → Bool
is_light q i = nat_lt ((section_bytes q i + section_bytes q (i + 1)) * q.shape.sections) (total q)

-- the first such pair, counted from the head, by its upper section
abbrev pub light_pair : QueueState → Option Section
light_pair q = find (is_light q) (range_with_len 0 (length q.sections - 1))

-- whether a merge writes a block: the lower section's active device block, where it holds something
abbrev pub is_written : QueueState → Section → Bool
is_written q i = not (nat_eq (bytes_held Device q (section_at q (i + 1)).active_device) 0)

abbrev pub merge : Work → Section → Work
merge w i =
    let t = w.tally in
    record {
      queue = after_merge w.queue i;
      tally =
          record t { merges = t.merges + 1; writes = t.writes + one_if (is_written w.queue i) };
    }

-- a pair, if there is one, is merged, and blocks are evicted
abbrev pub merge_at : Option Section → Work → Work
merge_at None w = w
merge_at (Some i) w = evict (merge w i)

abbrev pub merge_once : Work → Work
merge_once w = merge_at (light_pair w.queue) w

-- ---- split
-- whether the section holds more than two shares of all bytes, and at least two sealed blocks
abbrev pub is_heavy : QueueState → Section → Bool
is_heavy q i =
    nat_lt (2 * total q) (section_bytes q i * q.shape.sections)
    && nat_le 2 (length (section_at q i).sealed)

-- the first such section, counted from the head
abbrev pub heavy_section : QueueState → Option Section
heavy_section q = find (is_heavy q) (range_with_len 0 (length q.sections))

-- the upper section keeps half of its sealed blocks, rounded up
abbrev pub split : Work → Section → Work
split w i =
    record {
      queue = after_split w.queue i ((length (section_at w.queue i).sealed + 1) / 2);
      tally = record w.tally { splits = w.tally.splits + 1 };
    }

-- a section, if there is one, is split
abbrev pub split_at : Option Section → Work → Work
split_at None w = w
split_at (Some i) w = split w i

-- only where there are fewer sections than the shape allows
abbrev pub split_once : Work → Work
split_once w =
    if nat_lt (length w.queue.sections) w.queue.shape.sections
    then split_at (heavy_section w.queue) w
    else w

-- ---- the whole
abbrev pub adjust : Work → Work
adjust w = split_once (merge_once (evict w))
