use Rattle.std.proofs.Common.{ap, ◌∙◌}
use Rattle.rw_ripq.specs.Work.{Work}
use Rattle.rw_ripq.specs.Insert.{insert_at}
use Rattle.rw_ripq.proofs.Laws.{insertable, insertion}
use Rattle.rw_ripq.proofs.Weights.{insert-short}
use Rattle.rw_ripq.proofs.insertion.insert_with.Goals as goal

pub insert_at-requires-clause-insertable : goal.insert_at-requires-clause-insertable
insert_at-requires-clause-insertable g c = insertable _ _ _ c.requires.well_formed c.requires.new c.requires.some c.requires.small

-- written out: a search would unfold all that adjusting may do
pub returns-clause-effect : goal.returns-clause-effect
returns-clause-effect g c =
    ap (λ (w : Work). w.queue) c.in_ok-insert_at.ensures.effect
    ∙ ap (λ i. (insert_at c.args.queue.now c.args.object c.args.size i).queue) c.target-section.ensures.target

pub returns-clause-tally : goal.returns-clause-tally
returns-clause-tally g c =
    ap (λ (w : Work). w.tally) c.in_ok-insert_at.ensures.effect
    ∙ ap (λ i. (insert_at c.args.queue.now c.args.object c.args.size i).tally) c.target-section.ensures.target

pub returns-clause-short : goal.returns-clause-short
returns-clause-short g c =
    λ kept. insert-short c.args.queue.now c.args.object c.args.size c.target-section.result _ _ _
    (insertable _ _ _ c.requires.well_formed c.requires.new c.requires.some c.requires.small) c.target-section.ensures.there c.requires.none c.in_ok-insert_at.ensures.effect (c.in_ok-insert_at.ensures.spends kept)

pub returns-clause-kept : goal.returns-clause-kept
returns-clause-kept g c =
    (insertion c.args.policy _ _ _ c.args.level _ _ c.requires.well_formed c.requires.new c.requires.some c.requires.small c.in_ok-insert_at.ensures.effect c.target-section.ensures.target).well_formed

pub returns-clause-sizes : goal.returns-clause-sizes
returns-clause-sizes g c =
    (insertion c.args.policy _ _ _ c.args.level _ _ c.requires.well_formed c.requires.new c.requires.some c.requires.small c.in_ok-insert_at.ensures.effect c.target-section.ensures.target).sizes

pub returns-clause-adds : goal.returns-clause-adds
returns-clause-adds g c =
    (insertion c.args.policy _ _ _ c.args.level _ _ c.requires.well_formed c.requires.new c.requires.some c.requires.small c.in_ok-insert_at.ensures.effect c.target-section.ensures.target).adds

pub returns-clause-rows : goal.returns-clause-rows
returns-clause-rows g c =
    (insertion c.args.policy _ _ _ c.args.level _ _ c.requires.well_formed c.requires.new c.requires.some c.requires.small c.in_ok-insert_at.ensures.effect c.target-section.ensures.target).rows

pub returns-clause-order : goal.returns-clause-order
returns-clause-order g c =
    (insertion c.args.policy _ _ _ c.args.level _ _ c.requires.well_formed c.requires.new c.requires.some c.requires.small c.in_ok-insert_at.ensures.effect c.target-section.ensures.target).order

pub returns-clause-leaves : goal.returns-clause-leaves
returns-clause-leaves g c =
    (insertion c.args.policy _ _ _ c.args.level _ _ c.requires.well_formed c.requires.new c.requires.some c.requires.small c.in_ok-insert_at.ensures.effect c.target-section.ensures.target).leaves

pub returns-clause-tail : goal.returns-clause-tail
returns-clause-tail g c =
    (insertion c.args.policy _ _ _ c.args.level _ _ c.requires.well_formed c.requires.new c.requires.some c.requires.small c.in_ok-insert_at.ensures.effect c.target-section.ensures.target).tail
