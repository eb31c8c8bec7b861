use Rattle.std.proofs.Common.{◌++◌, ◌∙◌, IsPermutation, subst, sym}
use Rattle.rw_pending.specs.Wheel.{AreInPlace, all_of}
use Rattle.rw_pending.proofs.ByTime.{on_err}
use Rattle.rw_pending.proofs.Wheels.{dealt_all, dealt_some, dealt_whole, placed_dealt}
use Rattle.rw_pending.proofs.wheel.deal.Goals as goal

pub returns-in_err-put_all_in_place-clause-placed : goal.returns-in_err-put_all_in_place-clause-placed
returns-in_err-put_all_in_place-clause-placed g c =
    let out = c.take_out-events in
    c.put_all_in_place.ensures.placed (placed_dealt c.args.base.now c.args.time c.args.at c.args.slots.now out.new.self c.requires.from c.requires.slot c.requires.placed c.requires.least out.ensures.changed out.ensures.none)

pub returns-in_err-put_all_in_place-clause-left : goal.returns-in_err-put_all_in_place-clause-left
returns-in_err-put_all_in_place-clause-left g c =
    let out = c.take_out-events in
    let some = c.in_err-put_all_in_place.ensures.some in
    let mid = all_of out.new.self ++ c.args.others.now in
    let events = c.deref.result.now in
    on_err c.from_residual.result
    (dealt_some some.0 (all_of c.args.slots.now ++ c.args.others.now) events mid (all_of c.put_all_in_place.new.slots ++ c.put_all_in_place.new.others)
    (dealt_whole c.args.at c.args.slots.now out.new.self events c.args.others.now out.ensures.changed (c.deref.ensures.value ∙ out.ensures.events) out.ensures.none) some.1)

pub returns-clause-placed : goal.returns-clause-placed
returns-clause-placed g c =
    let out = c.take_out-events in
    subst (AreInPlace c.args.time) (sym c.keep_room.ensures)
    (c.put_all_in_place.ensures.placed (placed_dealt c.args.base.now c.args.time c.args.at c.args.slots.now out.new.self c.requires.from c.requires.slot c.requires.placed c.requires.least out.ensures.changed out.ensures.none))

pub returns-clause-dealt : goal.returns-clause-dealt
returns-clause-dealt g c =
    let out = c.take_out-events in
    let whole = all_of c.args.slots.now ++ c.args.others.now in
    let others = c.put_all_in_place.new.others in
    let mid = all_of out.new.self ++ c.args.others.now in
    let events = c.deref.result.now in
    subst (λ s. IsPermutation whole (all_of s ++ others)) (sym c.keep_room.ensures)
    (dealt_all whole events mid (all_of c.put_all_in_place.new.slots ++ others)
    (dealt_whole c.args.at c.args.slots.now out.new.self events c.args.others.now out.ensures.changed (c.deref.ensures.value ∙ out.ensures.events) out.ensures.none) c.in_ok-put_all_in_place.ensures.added)
