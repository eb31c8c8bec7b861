use Rattle.std.proofs.Common.{◌≤◌, ◌∙◌, sym, true≢false}
use Rattle.rw_pending.specs.Wheel.{all_of}
use Rattle.rw_pending.proofs.ByTime.{All-front}
use Rattle.rw_pending.proofs.Wheels.{none_with_slot, others_later}
use Rattle.rw_pending.proofs.wheel.open.Goals as goal

pub returns-then-not-has_slot-clause-none : goal.returns-then-not-has_slot-clause-none
returns-then-not-has_slot-clause-none g c =
    none_with_slot c.args.base.now c.args.time c.args.slots.now (λ both. true≢false (sym (c.has_slot.ensures.1 both) ∙ c.if-not-has_slot.true)) c.requires.placed
    (All-front (λ e. c.args.time ≤ e.time) (all_of c.args.slots.now) c.args.others.now c.requires.least)

pub returns-then-at-lt-SLOTS-clause-only : goal.returns-then-at-lt-SLOTS-clause-only
returns-then-at-lt-SLOTS-clause-only g c = (
  c.slot_of-at.ensures.within,
  others_later c.args.base.now c.args.time c.slot_of-at.result c.args.slots.now c.slot_of-at.ensures.slot c.requires.placed
      (All-front (λ e. c.args.time ≤ e.time) (all_of c.args.slots.now) c.args.others.now c.requires.least),
)

pub deal-requires-clause-least : goal.deal-requires-clause-least
deal-requires-clause-least g c = All-front (λ e. c.args.time ≤ e.time) (all_of c.args.slots.now) c.args.others.now c.requires.least
