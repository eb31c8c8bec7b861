-- For the contracts inside the crate: a trail that grows with the work, and the room that the work's numbers need.
use Rattle.std.specs.Prelude.{◌≡◌, None, ◌+◌, ◌≤◌, ◌^◌, List, length}
use Rattle.rw_numbers.specs.Words.{Object, Size}
use Rattle.rw_blocks.specs.declared.Mark.{Mark}
use Rattle.rw_blocks.specs.State.{QueueState, row_at}
use Rattle.rw_blocks.specs.Loose.{IsLoose}
use Rattle.rw_blocks.specs.Sums.{total}
use Rattle.rw_ripq.specs.Work.{Work}
use Rattle.rw_ripq.specs.Evict.{displaced_rows}
use Rattle.rw_ripq.specs.Trail.{Leads}
use Rattle.rw_ripq.specs.Weight.{Spends}
use Rattle.rw_ripq.specs.Limits.{exhaustion}

-- whatever the first trail leads back to, the second does too; and the marks between them are paid
pub record Recorded (ms : List Mark) (w : Work) (ns : List Mark) (v : Work) : Type 0 where
  pub leads : (start : QueueState) → Leads ms start w.queue → Leads ns start v.queue
  pub spends : Spends (length ms) w (length ns) v

-- the counts and serials of an eviction stay within 64 bits
pub record HasHeadroom (w : Work) : Type 0 where
  pub serials : w.queue.next + displaced_rows w.queue + 2 ≤ 2 ^ 63
  pub evicted : w.tally.evicted + total w.queue ≤ exhaustion
  pub reinserted : w.tally.reinserted + displaced_rows w.queue ≤ exhaustion
  pub writes : w.tally.writes ≤ 1 + w.tally.reinserted + w.tally.merges
  pub merges : w.tally.merges ≤ 1

-- what an insertion of the object asks of a queue
pub record IsInsertable (q : QueueState) (object : Object) (size : Size) : Type 0 where
  pub loose : IsLoose q
  pub new : row_at q object ≡ None
  pub some : 1 ≤ size
  pub small : size ≤ q.shape.block
  pub few : total q + size ≤ 2 ^ 48
