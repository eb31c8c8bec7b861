-- What an operation changed of the queue before, which bounds its trail.
use Rattle.std.specs.Prelude.{◌+◌, ◌*◌, ◌≤◌, Bool, true, false, not, List, length, Option, Some, None, nat_eq, sum_by, count_by}
use Rattle.std.specs.Map.{keys_of}
use Rattle.rw_vt.specs.Words.{Count}
use Rattle.rw_blocks.specs.declared.Place.{Place}
use Rattle.rw_blocks.specs.declared.Mark.{Mark}
use Rattle.rw_blocks.specs.State.{QueueState, row_at}
use Rattle.rw_ripq.specs.Work.{Work}
use Rattle.rw_ripq.specs.Sealed.{is_sealed, sealed_blocks}

-- whether the row left or has another home
abbrev pub has_left_home : Option Place → Option Place → Bool
has_left_home None after = false
has_left_home (Some r) None = true
has_left_home (Some r) (Some r') = not (nat_eq r.home r'.home)

-- how many rows left or got another home
abbrev pub moved_rows : QueueState → QueueState → Count
moved_rows before after =
    count_by (λ o. has_left_home (row_at before o) (row_at after o)) (keys_of before.rows)

-- how many sealed blocks are gone
abbrev pub gone_blocks : QueueState → QueueState → Count
gone_blocks before after =
    sum_by (λ s. count_by (λ e. not (is_sealed after e.0)) s.sealed) before.sections

-- a trail is short: it has few marks beside those for what the operation changed
abbrev pub IsShort : List Mark → QueueState → QueueState → Type 0
IsShort ms before after = length ms ≤ 8 + 4 * moved_rows before after + gone_blocks before after

-- ---- what the marks are paid by
abbrev pub income : Work → Count
income w = 2 * w.queue.next + w.tally.evicted + w.tally.reinserted + 3 * w.tally.merges

abbrev pub savings : Work → Count
savings w = sealed_blocks w.queue + 3 * w.tally.splits

-- from n marks so far at w to n' marks later at w'
abbrev pub Spends : Count → Work → Count → Work → Type 0
Spends n w n' w' = n' + savings w' + income w ≤ n + savings w + income w'
