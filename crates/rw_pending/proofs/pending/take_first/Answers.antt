use Rattle.std.proofs.Common.{◌≡◌, [], false, IsTrue, append-nil, refl}
use Rattle.std.specs.Option.{option_to_list}
use Rattle.std.proofs.lemmas.Option.{IfSome_then}
use Rattle.rw_vt.specs.Order.{AtMost, event_cmp}
use Rattle.rw_vt.proofs.EventOrder.{events_total}
use Rattle.rw_pending.proofs.Waiting.{exchanged, held, least_of_both, nothing_there}
use Rattle.rw_pending.proofs.pending.take_first.Goals as goal

pub returns-then-is_initial_next-clause-least : goal.returns-then-is_initial_next-clause-least
returns-then-is_initial_next-clause-least g c =
    least_of_both (events_total g.met.B.Ord.total) c.pop.new.next c.args.initial.now c.pop.new.self c.args.now.now c.first.result c.first-2.result c.pop.ensures.taken
    c.first.ensures.first c.first.ensures.least c.first-2.ensures.first c.first-2.ensures.least
    (held (IsTrue c.is_initial_next.result) (λ i s. AtMost (event_cmp g.B.Ord.cmp) i.now s.now) c.first.result c.first-2.result c.if-is_initial_next.true c.is_initial_next.ensures.lesser)

pub returns-else-is_initial_next-clause-least : goal.returns-else-is_initial_next-clause-least
returns-else-is_initial_next-clause-least g c =
    IfSome_then c.pop-else-is_initial_next.new.next
    (least_of_both (events_total g.met.B.Ord.total) c.pop-else-is_initial_next.new.next c.args.now.now c.pop-else-is_initial_next.new.self c.args.initial.now c.first-2.result c.first.result c.pop-else-is_initial_next.ensures.taken
    c.first-2.ensures.first c.first-2.ensures.least c.first.ensures.first c.first.ensures.least
    (exchanged (λ i s. AtMost (event_cmp g.B.Ord.cmp) s.now i.now) c.first.result c.first-2.result
    (held (c.is_initial_next.result ≡ false) (λ i s. AtMost (event_cmp g.B.Ord.cmp) s.now i.now) c.first.result c.first-2.result c.if-is_initial_next.false c.is_initial_next.ensures.greater)))
    (λ e h. (h.1, h.0))

pub returns-else-is_initial_next-clause-none : goal.returns-else-is_initial_next-clause-none
returns-else-is_initial_next-clause-none g c =
    nothing_there c.pop-else-is_initial_next.new.next c.args.initial.now c.args.now.now c.first.result c.first-2.result c.is_initial_next.result c.pop-else-is_initial_next.ensures.none
    c.first.ensures.first c.first-2.ensures.first c.if-is_initial_next.false c.is_initial_next.ensures.only

pub returns-then-is_initial_next-clause-taken : goal.returns-then-is_initial_next-clause-taken
returns-then-is_initial_next-clause-taken g c =
    let first = option_to_list c.pop.new.next in
    record { from_first = first; from_second = []; first = c.pop.ensures.taken; second = refl; both = append-nil first }

pub returns-else-is_initial_next-clause-taken : goal.returns-else-is_initial_next-clause-taken
returns-else-is_initial_next-clause-taken g c =
    let pop = c.pop-else-is_initial_next in
    record { from_first = []; from_second = option_to_list pop.new.next; first = refl; second = pop.ensures.taken; both = refl }
