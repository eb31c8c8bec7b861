use Rattle.std.proofs.Common.{length, refl, ◌∙◌, sym, ap, arith}
use Rattle.std.specs.Prelude.{not}
use Rattle.rw_ripq.proofs.Moves.{hit_target-is, resident, section-found, section-within, total-some}
use Rattle.rw_blocks.proofs.Cited.{at_some}
use Rattle.rw_blocks.specs.Tags.{StandsIn}
use Rattle.rw_ripq.proofs.Laws.{promotion, promotion-changed}
use Rattle.rw_ripq.proofs.promotion.promote_with.Goals as goal

pub unwrap-from-requires : goal.unwrap-from-requires
unwrap-from-requires g c =
    rw (c.section_of.ensures.section, section-found c.args.queue.now c.args.object c.args.row c.requires.well_formed.loose c.requires.row) refl

pub hit_target-section-requires-clause-there : goal.hit_target-section-requires-clause-there
hit_target-section-requires-clause-there g c =
    section-within c.args.queue.now c.args.object c.unwrap-from.result c.args.row c.requires.well_formed.loose c.requires.row (sym c.section_of.ensures.section ∙ c.unwrap-from.ensures)

pub hit_target-section-requires-clause-some : goal.hit_target-section-requires-clause-some
hit_target-section-requires-clause-some g c = total-some c.args.queue.now c.args.object c.args.row c.requires.well_formed.loose c.requires.row

pub promote_to-requires-clause-stands : goal.promote_to-requires-clause-stands
promote_to-requires-clause-stands g c =
    at_some (λ i. StandsIn c.args.row.place i c.args.queue.now.sections) c.section_of.result c.unwrap-from.result c.unwrap-from.ensures c.section_of.ensures.stands

pub returns-clause-leads : goal.returns-clause-leads
returns-clause-leads g c =
    λ kept. c.in_ok-changed.ensures.leads kept c.args.queue.now (rw c.requires.none (record { can = tt; back = refl }))

-- the trail was empty, and has at most three marks more
pub returns-clause-short : goal.returns-clause-short
returns-clause-short g c = λ kept. omega (arith, c.in_ok-changed.ensures.marks kept, ap length c.requires.none)

pub returns-clause-kept : goal.returns-clause-kept
returns-clause-kept g c =
    (promotion c.args.policy _ _ _ _ c.requires.well_formed (resident c.args.queue.now c.args.object c.args.row c.requires.row) c.in_ok-changed.ensures.effect (hit_target-is c.args.policy c.args.queue.now c.args.object c.unwrap-from.result c.hit_target-section.result c.args.row c.requires.row (sym c.section_of.ensures.section ∙ c.unwrap-from.ensures) c.hit_target-section.ensures.target)).well_formed

pub returns-clause-home : goal.returns-clause-home
returns-clause-home g c =
    (promotion c.args.policy _ _ _ _ c.requires.well_formed (resident c.args.queue.now c.args.object c.args.row c.requires.row) c.in_ok-changed.ensures.effect (hit_target-is c.args.policy c.args.queue.now c.args.object c.unwrap-from.result c.hit_target-section.result c.args.row c.requires.row (sym c.section_of.ensures.section ∙ c.unwrap-from.ensures) c.hit_target-section.ensures.target)).home

pub returns-clause-others : goal.returns-clause-others
returns-clause-others g c =
    (promotion c.args.policy _ _ _ _ c.requires.well_formed (resident c.args.queue.now c.args.object c.args.row c.requires.row) c.in_ok-changed.ensures.effect (hit_target-is c.args.policy c.args.queue.now c.args.object c.unwrap-from.result c.hit_target-section.result c.args.row c.requires.row (sym c.section_of.ensures.section ∙ c.unwrap-from.ensures) c.hit_target-section.ensures.target)).others

pub returns-clause-order : goal.returns-clause-order
returns-clause-order g c =
    (promotion c.args.policy _ _ _ _ c.requires.well_formed (resident c.args.queue.now c.args.object c.args.row c.requires.row) c.in_ok-changed.ensures.effect (hit_target-is c.args.policy c.args.queue.now c.args.object c.unwrap-from.result c.hit_target-section.result c.args.row c.requires.row (sym c.section_of.ensures.section ∙ c.unwrap-from.ensures) c.hit_target-section.ensures.target)).order

pub returns-clause-leaves : goal.returns-clause-leaves
returns-clause-leaves g c =
    (promotion c.args.policy _ _ _ _ c.requires.well_formed (resident c.args.queue.now c.args.object c.args.row c.requires.row) c.in_ok-changed.ensures.effect (hit_target-is c.args.policy c.args.queue.now c.args.object c.unwrap-from.result c.hit_target-section.result c.args.row c.requires.row (sym c.section_of.ensures.section ∙ c.unwrap-from.ensures) c.hit_target-section.ensures.target)).leaves

pub returns-clause-tail : goal.returns-clause-tail
returns-clause-tail g c =
    (promotion c.args.policy _ _ _ _ c.requires.well_formed (resident c.args.queue.now c.args.object c.args.row c.requires.row) c.in_ok-changed.ensures.effect (hit_target-is c.args.policy c.args.queue.now c.args.object c.unwrap-from.result c.hit_target-section.result c.args.row c.requires.row (sym c.section_of.ensures.section ∙ c.unwrap-from.ensures) c.hit_target-section.ensures.target)).tail

pub returns-clause-changed : goal.returns-clause-changed
returns-clause-changed g c =
    c.in_ok-changed.ensures.changed
    ∙ ap not (sym (promotion-changed c.args.queue.now c.promote_to.new.queue c.args.object c.hit_target-section.result c.requires.well_formed.loose c.hit_target-section.ensures.there (resident c.args.queue.now c.args.object c.args.row c.requires.row) c.in_ok-changed.ensures.effect))
