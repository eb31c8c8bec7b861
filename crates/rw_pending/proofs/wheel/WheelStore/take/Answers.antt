use Rattle.std.proofs.Common.{◌≤◌, ◌++◌, All, subst, sym}
use Rattle.std.proofs.lemmas.Result.{on_err_weaker, on_ok_weaker}
use Rattle.rw_pending.specs.Wheel.{all_of}
use Rattle.rw_pending.proofs.ByTime.{All-back, late_left}
use Rattle.rw_pending.proofs.Wheels.{left_both, moved_both}
use Rattle.rw_pending.proofs.wheel.WheelStore.take.Goals as goal

pub take-requires : goal.take-requires
take-requires g c =
    let h = c.in_ok-take_of_slots.ensures.moved in
    let slots = c.take_of_slots.new.slots in
    let others = c.take_of_slots.new.others in
    let now = c.self.inside in
    All-back (λ e. c.args.time ≤ e.time) (all_of slots) others
    (late_left (λ e. c.args.time ≤ e.time) (all_of now.slots ++ now.others) h.moved (all_of slots ++ others) h.parts (subst (All (λ e. c.args.time ≤ e.time)) (sym c.self.view_is) c.requires))

pub returns-clause-moved : goal.returns-clause-moved
returns-clause-moved g c =
    let now = c.self.inside in
    let went = c.take_of_slots.new in
    rw (← c.self.view_is) (on_ok_weaker c.take.result (moved_both c.args.time (all_of now.slots ++ now.others) went.others c.take.new.self c.args.taken.now.items went.taken.items c.take.new.taken.items went.slots c.in_ok-take_of_slots.ensures.moved) c.take.ensures.moved)

pub returns-clause-left : goal.returns-clause-left
returns-clause-left g c =
    let now = c.self.inside in
    let went = c.take_of_slots.new in
    let h = c.in_ok-take_of_slots.ensures.moved in
    rw (← c.self.view_is) (on_err_weaker c.take.result (left_both (all_of now.slots ++ now.others) h.moved (all_of went.slots) went.others c.take.new.self h.parts) c.take.ensures.left)
