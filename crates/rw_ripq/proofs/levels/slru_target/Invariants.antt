use Rattle.std.proofs.Common.{◌≡◌, ℕ, ◌+◌, ◌<◌, length, false}
use Rattle.rw_blocks.specs.Sums.{section_bytes, bytes_below}
use Rattle.rw_ripq.specs.Levels.{reaches}
use Rattle.rw_ripq.proofs.levels.slru_target.Given as goal

abbrev pub invariant-loop-section : goal.invariant-loop-section
invariant-loop-section l =
    record {
      there : l.section < length l.queue.sections;
      held : l.held ≡ section_bytes l.queue l.section + bytes_below l.queue l.section;
      behind : (k : ℕ) → l.section < k → k < length l.queue.sections → reaches l.levels l.queue l.level k ≡ false;
    }

abbrev pub decreases-loop-section : goal.decreases-loop-section
decreases-loop-section l = l.section
