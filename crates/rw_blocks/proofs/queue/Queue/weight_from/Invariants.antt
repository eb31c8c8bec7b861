use Rattle.std.proofs.Common.{◌≡◌, ◌+◌, drop}
use Rattle.std.specs.Prelude.{sum_by}
use Rattle.rw_blocks.specs.Index.{bytes_of, place_of}
use Rattle.rw_blocks.specs.Sections.{section_in}
use Rattle.rw_blocks.proofs.queue.Queue.weight_from.Given as goal

abbrev pub invariant-loop-position : goal.invariant-loop-position
invariant-loop-position l =
    l.bytes + sum_by (λ e. bytes_of place_of e.0 l.self-inside.rows) (drop l.position (section_in l.self-inside.sections l.section).sealed)
    ≡ sum_by (λ e. bytes_of place_of e.0 l.self-inside.rows) (drop l.from (section_in l.self-inside.sections l.section).sealed)
