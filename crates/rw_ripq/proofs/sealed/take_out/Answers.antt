use Rattle.rw_ripq.proofs.Measures.{sealed-there}
use Rattle.rw_ripq.proofs.Moves.{sealed-free}
use Rattle.rw_ripq.proofs.Records.{Recorded-take_out}
use Rattle.rw_ripq.proofs.sealed.take_out.Goals as goal

pub take_out-requires-clause-there : goal.take_out-requires-clause-there
take_out-requires-clause-there g c =
    let section = rw c.unwrap-section.ensures at c.find_sealed.ensures.section in
    rw section ((sealed-there c.args.queue.now c.args.block c.requires.sealed).0)

pub take_out-requires-clause-sealed : goal.take_out-requires-clause-sealed
take_out-requires-clause-sealed g c =
    let section = rw c.unwrap-section.ensures at c.find_sealed.ensures.section in
    let position = rw c.unwrap-section.ensures at c.find_sealed.ensures.position in
    rw (section, position) ((sealed-there c.args.queue.now c.args.block c.requires.sealed).1)

pub take_out-requires-clause-free : goal.take_out-requires-clause-free
take_out-requires-clause-free g c =
    let section = rw c.unwrap-section.ensures at c.find_sealed.ensures.section in
    let position = rw c.unwrap-section.ensures at c.find_sealed.ensures.position in
    rw (section, position) (sealed-free c.args.queue.now c.args.block c.requires.sealed c.requires.free)

pub returns-clause-trail : goal.returns-clause-trail
returns-clause-trail g c =
    let section = rw c.unwrap-section.ensures at c.find_sealed.ensures.section in
    let position = rw c.unwrap-section.ensures at c.find_sealed.ensures.position in
    let there = sealed-there c.args.queue.now c.args.block c.requires.sealed in
    λ kept. Recorded-take_out _ _ _ _ _ _ _ (c.in_ok-push.ensures kept) c.in_ok-mark.ensures.undoes c.in_ok-mark.ensures.effect (rw section there.0) (rw (section, position) there.1)
