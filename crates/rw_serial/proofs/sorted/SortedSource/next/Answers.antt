use Rattle.rw_vt.proofs.EventOrder.{events_total}
use Rattle.rw_pending.proofs.Cited.{IsSorted-rest, sorted_first}
use Rattle.rw_serial.proofs.sorted.SortedSource.next.Goals as goal

pub invariant_of-self : goal.invariant_of-self
invariant_of-self g c = IsSorted-rest (events_total g.met.B.Ord.total) c.pop_front.result c.self.inside.events.items c.pop_front.new.self.items c.pop_front.ensures.items c.self.invariant

pub returns-clause-least : goal.returns-clause-least
returns-clause-least g c = sorted_first (events_total g.met.B.Ord.total) c.pop_front.result c.self.inside.events.items c.pop_front.new.self.items c.pop_front.ensures.items c.self.invariant
