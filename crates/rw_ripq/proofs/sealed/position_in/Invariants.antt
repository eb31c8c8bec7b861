use Rattle.std.proofs.Common.{◌≡◌, ◌<◌, ℕ, false}
use Rattle.std.specs.Prelude.{slice_index_or}
use Rattle.rw_blocks.specs.declared.Kind.TheVariants.{Device}
use Rattle.rw_blocks.specs.State.{section_at}
use Rattle.rw_blocks.specs.Sections.{has_serial}
use Rattle.rw_ripq.proofs.sealed.position_in.Given as goal

abbrev pub invariant-loop-position : goal.invariant-loop-position
invariant-loop-position l =
    (k : ℕ) → k < l.position → has_serial l.block (slice_index_or (section_at l.queue l.section).sealed k (0, Device)) ≡ false
