use Rattle.std.proofs.Common.{◌+◌, ◌≤◌, length}
use Rattle.std.specs.Prelude.{count_by}
use Rattle.rw_blocks.proofs.Using.{at_least}
use Rattle.rw_blocks.proofs.sections.free_tag.Given as goal

abbrev pub invariant-loop-tag : goal.invariant-loop-tag
invariant-loop-tag l = l.tag + count_by (at_least l.tag) l.tags ≤ length l.tags

abbrev pub decreases-loop-tag : goal.decreases-loop-tag
decreases-loop-tag l = count_by (at_least l.tag) l.tags
