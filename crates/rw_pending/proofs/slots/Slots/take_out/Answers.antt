use Rattle.std.proofs.Common.{◌<◌, ◌≤◌, ap, arith, length}
use Rattle.rw_pending.proofs.Wheels.{changed_by_set, changed_none, marked_by_clear}
use Rattle.rw_pending.proofs.slots.Slots.take_out.Goals as goal

pub returns-then-at-len-clause-changed : goal.returns-then-at-len-clause-changed
returns-then-at-len-clause-changed g c = let over : length c.self.inside.slots.items ≤ c.args.at = omega (arith, c.len.ensures, c.self.inside.slots.ok.0) in rw (← c.self.view_is) (changed_none c.self.inside.slots.items c.args.at over)

pub invariant_of-self : goal.invariant_of-self
invariant_of-self g c =
    let within : c.args.at < length c.self.inside.slots.items = omega (arith, c.len.ensures, c.self.inside.slots.ok.0) in
    marked_by_clear c.self.inside.marks c.clear.new.self c.self.inside.slots.items c.args.at c.take_out-events.new.self c.self.invariant within c.clear.ensures.clear c.clear.ensures.others (ap length c.take_out-events.ensures.none)

pub returns-clause-changed : goal.returns-clause-changed
returns-clause-changed g c =
    let within : c.args.at < length c.self.inside.slots.items = omega (arith, c.len.ensures, c.self.inside.slots.ok.0) in
    rw (← c.self.view_is) (changed_by_set c.self.inside.slots.items c.args.at c.take_out-events.new.self within)
