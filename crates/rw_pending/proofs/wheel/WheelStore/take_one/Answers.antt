use Rattle.std.proofs.Common.{◌<◌, ◌≤◌, ◌++◌, ◌∙◌, [], All, IsPermutation, subst, sym}
use Rattle.std.proofs.lemmas.Result.{on_err_weaker, on_ok_weaker}
use Rattle.rw_pending.specs.Wheel.{all_of}
use Rattle.rw_pending.proofs.Wheels.{at_none, late_of_others, left_both, none_of_others, same_of_others, taken_of_others}
use Rattle.rw_pending.proofs.wheel.WheelStore.take_one.Goals as goal

pub take_one-requires : goal.take_one-requires
take_one-requires g c =
    let now = c.self.inside in
    let went = c.take_one_of_slots.new in
    let whole = all_of now.slots ++ now.others in
    let same = at_none went.next (IsPermutation whole (all_of went.slots ++ went.others)) (sym c.is_some.ensures ∙ c.if-is_some.false) c.in_ok-take_one_of_slots.ensures.same in
    late_of_others (λ e. c.args.time ≤ e.time) whole (all_of went.slots) went.others same (subst (All (λ e. c.args.time ≤ e.time)) (sym c.self.view_is) c.requires)

pub returns-clause-taken : goal.returns-clause-taken
returns-clause-taken g c =
    let now = c.self.inside in
    let went = c.take_one_of_slots.new in
    let whole = all_of now.slots ++ now.others in
    let same = at_none went.next (IsPermutation whole (all_of went.slots ++ went.others)) (sym c.is_some.ensures ∙ c.if-is_some.false) c.in_ok-take_one_of_slots.ensures.same in
    rw (← c.self.view_is) (on_ok_weaker c.take_one.result (taken_of_others whole (all_of went.slots) went.others c.take_one.new.self c.take_one.new.next same) c.take_one.ensures.taken)

pub returns-clause-none : goal.returns-clause-none
returns-clause-none g c =
    let now = c.self.inside in
    let went = c.take_one_of_slots.new in
    let whole = all_of now.slots ++ now.others in
    let off = sym c.is_some.ensures ∙ c.if-is_some.false in
    let same = at_none went.next (IsPermutation whole (all_of went.slots ++ went.others)) off c.in_ok-take_one_of_slots.ensures.same in
    let later = at_none went.next (All (λ e. c.args.time < e.time) (all_of went.slots)) off c.in_ok-take_one_of_slots.ensures.none in
    rw (← c.self.view_is) (on_ok_weaker c.take_one.result (none_of_others (λ e. c.args.time < e.time) whole (all_of went.slots) went.others c.take_one.new.next same later) c.take_one.ensures.none)

pub returns-clause-others : goal.returns-clause-others
returns-clause-others g c =
    let now = c.self.inside in
    let went = c.take_one_of_slots.new in
    let whole = all_of now.slots ++ now.others in
    let same = at_none went.next (IsPermutation whole (all_of went.slots ++ went.others)) (sym c.is_some.ensures ∙ c.if-is_some.false) c.in_ok-take_one_of_slots.ensures.same in
    rw (← c.self.view_is) (on_ok_weaker c.take_one.result (same_of_others whole (all_of went.slots) went.others c.take_one.new.self c.take_one.new.next same) c.take_one.ensures.others)

pub returns-clause-left : goal.returns-clause-left
returns-clause-left g c =
    let now = c.self.inside in
    let went = c.take_one_of_slots.new in
    let whole = all_of now.slots ++ now.others in
    let same = at_none went.next (IsPermutation whole (all_of went.slots ++ went.others)) (sym c.is_some.ensures ∙ c.if-is_some.false) c.in_ok-take_one_of_slots.ensures.same in
    rw (← c.self.view_is) (on_err_weaker c.take_one.result (left_both whole [] (all_of went.slots) went.others c.take_one.new.self same) c.take_one.ensures.left)
