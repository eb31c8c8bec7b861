-- Purge: an object leaves, whatever its priority.
use Rattle.std.specs.Prelude.{Bool, if◌then◌else◌}
use Rattle.rw_numbers.specs.Words.{Object}
use Rattle.rw_blocks.specs.State.{QueueState, row_or}
use Rattle.rw_blocks.specs.Primitives.{after_remove}
use Rattle.rw_ripq.specs.Sealed.{without_if_abandoned, without_if_emptied}

-- its row leaves; its place, where that is a sealed virtual block which then holds no row, is taken out
abbrev pub purge : QueueState → Object → QueueState
purge q o = without_if_emptied (after_remove q o) (row_or q o).place

-- and its home, where that is a sealed device block which then is the home of no row, is taken out too
abbrev pub purge_reclaiming : QueueState → Object → QueueState
purge_reclaiming q o = without_if_abandoned (purge q o) (row_or q o).home

-- a purge that also takes out the home, or not
abbrev pub purge_by : Bool → QueueState → Object → QueueState
purge_by reclaim q o = if reclaim then purge_reclaiming q o else purge q o
