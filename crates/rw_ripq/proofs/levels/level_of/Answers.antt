use Rattle.std.proofs.Common.{refl, sym}
use Rattle.rw_ripq.proofs.Moves.{section-found, total-some}
use Rattle.rw_ripq.proofs.levels.level_of.Goals as goal

pub unwrap-section-requires : goal.unwrap-section-requires
unwrap-section-requires c =
    rw (c.section_of.ensures.section, section-found c.args.queue.now c.args.object c.in_ok-row.row c.requires (sym c.in_ok-row.ensures)) refl

pub level_of_section-requires-clause-some : goal.level_of_section-requires-clause-some
level_of_section-requires-clause-some c = total-some c.args.queue.now c.args.object c.in_ok-row.row c.requires (sym c.in_ok-row.ensures)
