use Rattle.rw_pending.proofs.Wheels.{changed_after, changed_by_set, changed_same, marked_by_put, marked_same}
use Rattle.rw_pending.proofs.slots.Slots.put.Goals as goal

pub returns-in_err-grow-clause-changed : goal.returns-in_err-grow-clause-changed
returns-in_err-grow-clause-changed g c = rw (← c.self.view_is) (changed_same c.args.at c.self.inside.slots.items c.grow.new.slots.items c.grow.ensures.slots c.grow.ensures.all)

pub returns-in_err-push-clause-changed : goal.returns-in_err-push-clause-changed
returns-in_err-push-clause-changed g c =
    let grown = c.grow.new.slots.items in
    rw (← c.self.view_is) (changed_after c.args.at c.self.inside.slots.items grown _ c.grow.ensures.slots c.grow.ensures.all (changed_by_set grown c.args.at c.push.new.self c.in_ok-grow.ensures.there))

pub invariant_of-self-2 : goal.invariant_of-self-2
invariant_of-self-2 g c =
    let grown = c.grow.new.slots.items in
    let marks = c.self.inside.marks in
    marked_by_put marks c.set.new.self grown c.args.at c.index_mut-slot.result.now c.push.new.self c.args.event.now (marked_same marks c.self.inside.slots.items grown c.self.invariant c.grow.ensures.slots)
    c.in_ok-grow.ensures.there c.index_mut-slot.ensures.value c.in_ok-push.ensures.added c.set.ensures.set c.set.ensures.others

pub returns-clause-changed : goal.returns-clause-changed
returns-clause-changed g c =
    let grown = c.grow.new.slots.items in
    rw (← c.self.view_is) (changed_after c.args.at c.self.inside.slots.items grown _ c.grow.ensures.slots c.grow.ensures.all (changed_by_set grown c.args.at c.push.new.self c.in_ok-grow.ensures.there))
