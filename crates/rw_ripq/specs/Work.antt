-- A queue with the counts of an operation so far.
use Rattle.std.specs.Prelude.{Bool, true, false}
use Rattle.rw_vt.specs.Words.{Count}
use Rattle.rw_blocks.specs.State.{QueueState}
use Rattle.rw_ripq.specs.declared.Tally.{Tally}

pub record Work : Type 0 where
  pub queue : QueueState
  pub tally : Tally

-- nothing counted yet
abbrev pub no_tally : Tally
no_tally = record { evicted = 0; reinserted = 0; writes = 0; splits = 0; merges = 0 }

-- the queue before an operation
abbrev pub work_before : QueueState → Work
work_before q = record { queue = q; tally = no_tally }

-- 1 where the test holds
abbrev pub one_if : Bool → Count
one_if true = 1
one_if false = 0

abbrev pub work_of : QueueState → Tally → Work
work_of q t = record { queue = q; tally = t }
