-- The level of a row, and the section that is the target of a level.
use Rattle.std.specs.Prelude.{◌+◌, ◌-◌, ◌*◌, ◌/◌, Bool, if◌then◌else◌, List, length, Option, nat_le, min, find, reverse, unwrap_or}
use Rattle.std.specs.List.{range_with_len}
use Rattle.std.specs.Option.{option_map}
use Rattle.rw_numbers.specs.Words.{Object, Section}
use Rattle.rw_ripq.specs.Words.{Level}
use Rattle.rw_blocks.specs.State.{QueueState, row_at, row_or}
use Rattle.rw_blocks.specs.Sums.{total, section_bytes, bytes_below}
use Rattle.rw_ripq.specs.declared.Policy.{Policy}
use Rattle.rw_ripq.specs.declared.Policy.TheVariants.{Off, Lru, Slru}
use Rattle.rw_ripq.specs.declared.segments.Levels.{Levels}
use Rattle.rw_ripq.specs.Sealed.{section_with}

-- in which of the equal segments of all bytes, counted from the tail, the section begins
abbrev pub level_of_section : Levels → QueueState → Section → Level
level_of_section levels q i =
    1 + min (levels.segments - 1) (levels.segments * bytes_below q i / total q)

-- the level of the section that holds the row's place
abbrev pub level : Levels → QueueState → Object → Level
level levels q o = level_of_section levels q (section_with q (row_or q o).place)

-- the same, and none where the object is not stored
abbrev pub level_of : Levels → QueueState → Object → Option Level
level_of levels q o =
    option_map (λ r. level_of_section levels q (section_with q r.place)) (row_at q o)

-- whether the section and those nearer the tail together hold l segments of all bytes
abbrev pub reaches : Levels → QueueState → Level → Section → Bool
reaches levels q l i =
    nat_le (l * total q) (levels.segments * (section_bytes q i + bytes_below q i))

-- the sections from tail to head
abbrev pub from_tail : QueueState → List Section
from_tail q = reverse (range_with_len 0 (length q.sections))

-- under segmented LRU: the head for the highest level, else the section nearest the tail that reaches it
abbrev pub slru_target : Levels → QueueState → Level → Section
slru_target levels q l =
    if nat_le levels.segments l then 0 else unwrap_or (find (reaches levels q l) (from_tail q)) 0

-- the section that an object of the level goes to
abbrev pub target : Policy → QueueState → Level → Section
target Off q l = 0
target Lru q l = 0
target (Slru levels) q l = slru_target levels q l

-- the highest level that an object may come with: as many as there are segments; 3 under LRU, where all are alike
abbrev pub highest_level : Policy → Level
highest_level (Slru levels) = levels.segments
highest_level _ = 3

-- the level that a hit gives an object: under segmented LRU one more than it has
abbrev pub hit_level : Policy → QueueState → Object → Level
hit_level (Slru levels) q o = min levels.segments (level levels q o + 1)
hit_level _ q o = 1

abbrev pub hit_target : Policy → QueueState → Object → Section
hit_target policy q o = target policy q (hit_level policy q o)

-- the same of an object whose place is a block of the section
abbrev pub hit_level_from : Policy → QueueState → Section → Level
hit_level_from (Slru levels) q i = min levels.segments (level_of_section levels q i + 1)
hit_level_from _ q i = 1

abbrev pub hit_target_from : Policy → QueueState → Section → Section
hit_target_from policy q i = target policy q (hit_level_from policy q i)
