use Rattle.std.proofs.Common.{ℕ, ◌<◌, ◌≤◌, ◌++◌, All}
use Rattle.std.specs.Prelude.{◌≢◌}
use Rattle.rw_pending.specs.Wheel.{all_of, slot_at, slots_of_wheel}
use Rattle.rw_pending.proofs.Wheels.{late_of_slots, left_of_take, none_of_slots, placed_less, slot_from_all, some_at, taken_of_slots}
use Rattle.rw_pending.proofs.wheel.take_one_of_slots.Goals as goal

pub take_one-requires-clause-least : goal.take_one-requires-clause-least
take_one-requires-clause-least g c =
    slot_from_all (λ e. c.args.time ≤ e.time) c.open.new.slots c.in-Some.at
    (late_of_slots (λ e. c.args.time ≤ e.time) (all_of c.args.slots.now ++ c.args.others.now) (all_of c.open.new.slots) c.open.new.others c.in_ok-at.ensures.same c.requires.least)

pub returns-clause-placed : goal.returns-clause-placed
returns-clause-placed g c =
    let take = c.take_one in
    placed_less c.open.new.base c.in-Some.at c.open.new.slots take.new.self c.open.ensures.placed take.ensures.changed (left_of_take c.open.new.slots take.new.self c.in-Some.at take.new.next take.ensures.taken take.ensures.unchanged)

pub returns-clause-taken : goal.returns-clause-taken
returns-clause-taken g c =
    let take = c.take_one in
    taken_of_slots (all_of c.args.slots.now ++ c.args.others.now) c.open.new.others c.open.new.slots take.new.self c.in-Some.at take.new.next c.in_ok-at.ensures.same take.ensures.changed take.ensures.taken

pub returns-clause-none : goal.returns-clause-none
returns-clause-none g c =
    let take = c.take_one in
    let only = some_at (λ at. (at < slots_of_wheel) × ((k : ℕ) → k ≢ at → All (λ e. c.args.time < e.time) (slot_at c.open.new.slots k))) c.in_ok-at.field-0 c.in-Some.at c.in-Some.is c.in_ok-at.ensures.only in
    none_of_slots c.in-Some.at c.args.time c.open.new.slots take.new.self take.new.next take.ensures.none take.ensures.unchanged only.1
