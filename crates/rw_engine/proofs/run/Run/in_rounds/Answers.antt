use Rattle.std.proofs.Common.{◌∙◌, refl}
use Rattle.rw_vt.proofs.Laws.{laws_of}
use Rattle.rw_engine.proofs.Onward.{goes_by_rest, late_from, same_model, same_rest}
use Rattle.rw_engine.proofs.run.Run.in_rounds.Goals as goal

pub returns-clause-onward : goal.returns-clause-onward
returns-clause-onward g c =
    let model = g.M.Model in
    let order = g.M.Body.Ord.cmp in
    let opened = c.in_ok-world.world in
    let after = c.in_ok-segment.segment.world in
    let left = c.in_ok-model.field-0 in
    let laws = laws_of g.met.M.Model g.met.M.Body.Ord.total in
    goes_by_rest model order laws c.in_ok-events.events.items c.take_ready.new.pending.events c.requires.ready c.in_ok-events.ensures.parts
    (late_from c.take_ready.new.pending.events c.least_time.result 1099511627776 c.unwrap_or-until.result c.least_time.ensures c.unwrap_or-until.ensures)
    c.in_ok-segment.ensures.before
    (same_rest model order opened after after.world.collected left.states.items left.events.items c.in_ok-world.ensures.opened refl refl refl c.in_ok-segment.ensures.system c.in_ok-model.ensures.rest)
    (c.in_ok-model.ensures.model ∙ same_model model order opened after c.in_ok-world.ensures.opened refl c.in_ok-segment.ensures.system)
    c.in_ok-model.ensures.ready
    c.in_ok-put_back.ensures.added
