use Rattle.std.proofs.Common.{◌<◌, ◌≤◌, ◌∙◌, ap, arith, length, sym}
use Rattle.rw_pending.specs.Wheel.{slot_at}
use Rattle.rw_pending.proofs.Marking.{beyond}
use Rattle.rw_pending.proofs.Wheels.{changed_by_set, changed_none, left_of_result, marked_by_clear, marked_by_set, moved_nothing}
use Rattle.rw_pending.proofs.slots.Slots.take.Goals as goal

pub returns-then-at-len-clause-changed : goal.returns-then-at-len-clause-changed
returns-then-at-len-clause-changed g c = let over : length c.self.inside.slots.items ≤ c.args.at = omega (arith, c.len.ensures, c.self.inside.slots.ok.0) in rw (← c.self.view_is) (changed_none c.self.inside.slots.items c.args.at over)

pub returns-then-at-len-clause-moved : goal.returns-then-at-len-clause-moved
returns-then-at-len-clause-moved g c =
    let over : length c.self.inside.slots.items ≤ c.args.at = omega (arith, c.len.ensures, c.self.inside.slots.ok.0) in
    moved_nothing c.args.time (slot_at c.args.self.now c.args.at) c.args.taken.now.items (ap (λ l. slot_at l c.args.at) (sym c.self.view_is) ∙ beyond c.self.inside.slots.items c.args.at _ over)

pub invariant_of-self : goal.invariant_of-self
invariant_of-self g c =
    let within : c.args.at < length c.self.inside.slots.items = omega (arith, c.len.ensures, c.self.inside.slots.ok.0) in
    marked_by_clear c.self.inside.marks c.clear.new.self c.self.inside.slots.items c.args.at c.take-result.new.self c.self.invariant within c.clear.ensures.clear c.clear.ensures.others (omega (arith, c.count.ensures))

pub invariant_of-self-else-count-eq0 : goal.invariant_of-self-else-count-eq0
invariant_of-self-else-count-eq0 g c =
    let within : c.args.at < length c.self.inside.slots.items = omega (arith, c.len.ensures, c.self.inside.slots.ok.0) in
    let old = c.index_mut-slot.result.now in
    let new = c.take-result.new.self in
    marked_by_set c.self.inside.marks c.self.inside.slots.items c.args.at old new c.self.invariant within c.index_mut-slot.ensures.value (left_of_result c.args.time old new c.args.taken.now.items c.take-result.new.taken.items c.take-result.result c.take-result.ensures.moved c.take-result.ensures.left)
    (λ none. c.if-count-eq0.false (omega (arith, c.count.ensures)))

pub returns-then-count-eq0-clause-changed : goal.returns-then-count-eq0-clause-changed
returns-then-count-eq0-clause-changed g c =
    let within : c.args.at < length c.self.inside.slots.items = omega (arith, c.len.ensures, c.self.inside.slots.ok.0) in
    rw (← c.self.view_is) (changed_by_set c.self.inside.slots.items c.args.at c.take-result.new.self within)

pub returns-else-count-eq0-clause-changed : goal.returns-else-count-eq0-clause-changed
returns-else-count-eq0-clause-changed g c =
    let within : c.args.at < length c.self.inside.slots.items = omega (arith, c.len.ensures, c.self.inside.slots.ok.0) in
    rw (← c.self.view_is) (changed_by_set c.self.inside.slots.items c.args.at c.take-result.new.self within)
