use Rattle.std.proofs.Common.{◌≤◌, All, IfSome, ap, subst, ◌∙◌}
use Rattle.std.specs.Option.{option_to_list}
use Rattle.rw_pending.specs.Later.{never, or_else}
use Rattle.rw_pending.proofs.ByTime.{front_first, front_least, lane_rest, taken_first, taken_least}
use Rattle.rw_pending.proofs.later.Lane.pop.Goals as goal

pub invariant_of-self : goal.invariant_of-self
invariant_of-self g c =
    let gone = c.pop_front-event in
    let left = gone.new.self.items in
    let lane = lane_rest c.self.inside.events.items (option_to_list gone.result) left c.self.inside.last gone.ensures.items c.self.invariant.0 in
    let first = front_first left c.front.result gone.new.self.len gone.new.self.ok.0 c.front.ensures.variant c.front.ensures.lookup in
    let value = c.or_never-self-inside.ensures.value ∙ ap (or_else never) c.time_of.ensures in
    (lane, front_least never c.or_never-self-inside.result left c.front.result lane.by_time first value c.or_never-self-inside.ensures.within)

pub returns-clause-taken : goal.returns-clause-taken
returns-clause-taken g c = let gone = c.pop_front-event in rw (← c.self.view_is) (taken_first c.self.inside.events.items gone.new.self.items gone.result gone.ensures.items)

pub returns-clause-least : goal.returns-clause-least
returns-clause-least g c =
    let gone = c.pop_front-event in
    subst (λ l. IfSome gone.result (λ e. All (λ f. e.time ≤ f.time) l)) c.self.view_is (taken_least c.self.inside.events.items gone.new.self.items gone.result gone.ensures.items c.self.invariant.0.by_time)
