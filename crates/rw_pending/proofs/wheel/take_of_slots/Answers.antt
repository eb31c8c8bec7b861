use Rattle.std.proofs.Common.{ℕ, ◌<◌, ◌≤◌, ◌++◌, All, IfNone, subst}
use Rattle.std.specs.Prelude.{◌≢◌}
use Rattle.std.proofs.lemmas.Result.{on_err_weaker, on_ok_weaker}
use Rattle.rw_pending.specs.Wheel.{all_of, slot_at, slots_of_wheel}
use Rattle.rw_pending.proofs.Wheels.{late_of_slots, left_from_slots, left_of_result, moved_from_slots, none_moved, placed_less, slot_from_all, some_at}
use Rattle.rw_pending.proofs.wheel.take_of_slots.Goals as goal

pub returns-in_default-clause-moved : goal.returns-in_default-clause-moved
returns-in_default-clause-moved g c =
    let later = subst (λ o. IfNone o (All (λ e. c.args.time < e.time) (all_of c.open.new.slots))) c.in_default.is c.in_ok-at.ensures.none in
    none_moved c.args.time (all_of c.args.slots.now ++ c.args.others.now) c.open.new.others c.args.taken.now.items c.open.new.slots c.in_ok-at.ensures.same later

pub take-requires-clause-least : goal.take-requires-clause-least
take-requires-clause-least g c =
    slot_from_all (λ e. c.args.time ≤ e.time) c.open.new.slots c.in-Some.at
    (late_of_slots (λ e. c.args.time ≤ e.time) (all_of c.args.slots.now ++ c.args.others.now) (all_of c.open.new.slots) c.open.new.others c.in_ok-at.ensures.same c.requires.least)

pub returns-clause-placed : goal.returns-clause-placed
returns-clause-placed g c =
    let at = c.in-Some.at in
    let before = c.open.new.slots in
    let after = c.take.new.self in
    placed_less c.open.new.base at before after c.open.ensures.placed c.take.ensures.changed
    (left_of_result c.args.time (slot_at before at) (slot_at after at) c.args.taken.now.items c.take.new.taken.items c.take.result c.take.ensures.moved c.take.ensures.left)

pub returns-clause-moved : goal.returns-clause-moved
returns-clause-moved g c =
    let only = some_at (λ at. (at < slots_of_wheel) × ((k : ℕ) → k ≢ at → All (λ e. c.args.time < e.time) (slot_at c.open.new.slots k))) c.in_ok-at.field-0 c.in-Some.at c.in-Some.is c.in_ok-at.ensures.only in
    on_ok_weaker c.take.result
    (moved_from_slots c.args.time (all_of c.args.slots.now ++ c.args.others.now) c.open.new.others c.args.taken.now.items c.take.new.taken.items c.open.new.slots c.take.new.self c.in-Some.at c.in_ok-at.ensures.same c.take.ensures.changed only.1)
    c.take.ensures.moved

pub returns-clause-left : goal.returns-clause-left
returns-clause-left g c =
    on_err_weaker c.take.result (left_from_slots (all_of c.args.slots.now ++ c.args.others.now) c.open.new.others c.open.new.slots c.take.new.self c.in-Some.at c.in_ok-at.ensures.same c.take.ensures.changed) c.take.ensures.left
