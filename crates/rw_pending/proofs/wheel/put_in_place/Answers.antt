use Rattle.std.proofs.lemmas.Result.{on_ok_weaker}
use Rattle.rw_pending.specs.Wheel.{all_of}
use Rattle.rw_pending.proofs.ByTime.{put_behind}
use Rattle.rw_pending.proofs.Wheels.{one_more, put_first}
use Rattle.rw_pending.proofs.wheel.put_in_place.Goals as goal

pub returns-then-has_slot-clause-added : goal.returns-then-has_slot-clause-added
returns-then-has_slot-clause-added g c =
    let before = c.args.slots.now in
    let after = c.put.new.self in
    let e = c.args.event.now in
    on_ok_weaker c.put.result (λ is. put_first (all_of before) (all_of after) c.args.others.now e (one_more c.slot_of.result before after e c.put.ensures.changed is)) c.put.ensures.added

pub returns-else-has_slot-clause-added : goal.returns-else-has_slot-clause-added
returns-else-has_slot-clause-added g c =
    let put = c.put-else-has_slot in
    on_ok_weaker put.result (put_behind (all_of c.args.slots.now) c.args.others.now put.new.self c.args.event.now) put.ensures.added
