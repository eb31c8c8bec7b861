-- Evict: while more device blocks are sealed than the shape allows, the last sealed block goes.
use Rattle.std.specs.Prelude.{zero, suc, ◌+◌, Bool, true, false, not, List, length, Option, Some, None, nat_eq, nat_lt, filter, fold, count_by}
use Rattle.std.specs.Map.{values_of, keys_of}
use Rattle.rw_vt.specs.Words.{Count}
use Rattle.rw_numbers.specs.Words.{Object, Serial}
use Rattle.rw_blocks.specs.declared.Kind.{Kind}
use Rattle.rw_blocks.specs.declared.Kind.TheVariants.{Device, Virtual}
use Rattle.rw_blocks.specs.State.{QueueState, row_or}
use Rattle.rw_blocks.specs.Primitives.{after_remove}
use Rattle.rw_blocks.specs.Loose.{sealed_devices}
use Rattle.rw_blocks.specs.Questions.{last_block}
use Rattle.rw_ripq.specs.Work.{Work, one_if}
use Rattle.rw_ripq.specs.Put.{is_room, put_again}
use Rattle.rw_ripq.specs.Sealed.{without_block, without_if_emptied, sealed_blocks, section_with}

-- ---- rows that leave
-- the objects whose place the block is, in rising order
abbrev pub objects_placed : QueueState → Serial → List Object
objects_placed q b = keys_of (filter (λ e. nat_eq e.1.place b) q.rows)

-- the objects whose home the block is, in rising order
abbrev pub objects_homed : QueueState → Serial → List Object
objects_homed q b = keys_of (filter (λ e. nat_eq e.1.home b) q.rows)

abbrev pub without_rows : QueueState → List Object → QueueState
without_rows q os = fold after_remove q os

-- these objects leave, and are counted
abbrev pub leave : Work → List Object → Work
leave w os =
    record {
      queue = without_rows w.queue os;
      tally = record w.tally { evicted = w.tally.evicted + length os };
    }

-- ---- a row that is put again
-- into the section that holds the object's place, which is taken out where that empties it
abbrev pub reinsert : Work → Object → Work
reinsert w o =
    let q = w.queue in
    let t = w.tally in
    let r = row_or q o in
    let i = section_with q r.place in
    let full = not (is_room q Device i r.size) in
    record {
      queue = without_if_emptied (put_again q o i) r.place;
      tally = record t { reinserted = t.reinserted + 1; writes = t.writes + one_if full };
    }

-- ---- the victim
-- without a sealed block
abbrev pub take_out : Work → Serial → Work
take_out w b = record w { queue = without_block w.queue b }

-- the rows whose place is the victim leave; the other rows whose home it is are put again. A virtual block is no home
abbrev pub evict_block : Kind → Serial → Work → Work
evict_block Virtual b w = take_out (leave w (objects_placed w.queue b)) b
evict_block Device b w =
    let left = leave w (objects_placed w.queue b) in
    take_out (fold reinsert left (objects_homed left.queue b)) b

-- a sealed block, if there is one, is evicted
abbrev pub evict_if_some : Option (Serial × Kind) → Work → Work
evict_if_some None w = w
evict_if_some (Some e) w = evict_block e.1 e.0 w

-- the last sealed block is evicted
abbrev pub evict_last : Work → Work
evict_last w = evict_if_some (last_block w.queue) w

-- whether more device blocks are sealed than the shape allows
abbrev pub is_over : QueueState → Bool
is_over q = nat_lt q.shape.blocks (sealed_devices q)

-- at most n turns; by `elim`, which computes only the branch that is taken, where `if` would compute all n turns
abbrev pub evict_within : Count → Work → Work
evict_within zero w = w
evict_within (suc n) w = elim (is_over w.queue) [
  | true ↦ evict_within n (evict_last w)
  | false ↦ w
]

-- how many rows have a place unlike their home
abbrev pub displaced_rows : QueueState → Count
displaced_rows q = count_by (λ r. not (nat_eq r.place r.home)) (values_of q.rows)

-- each turn lowers the sum of displaced rows and sealed blocks, so as many turns are enough
abbrev pub evict : Work → Work
evict w = evict_within (displaced_rows w.queue + sealed_blocks w.queue) w
