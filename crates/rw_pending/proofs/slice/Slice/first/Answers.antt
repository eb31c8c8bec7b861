use Rattle.std.proofs.Common.{arith, ◌≡◌, subst}
use Rattle.std.proofs.lemmas.Grind.{common_steps}
use Rattle.std.specs.List.{slice_get}
use Rattle.std.specs.List.Sorted.{IsSorted}
use Rattle.std.specs.Option.{option_copied}
use Rattle.rw_vt.specs.Order.{event_cmp}
use Rattle.rw_vt.proofs.EventOrder.{events_total}
use Rattle.rw_pending.proofs.Queue.{sorted_front}
use Rattle.rw_pending.proofs.slice.Slice.first.Goals as goal

pub returns-clause-least : goal.returns-clause-least
returns-clause-least g c =
    let first : option_copied c.get.result ≡ slice_get c.args.self.now 0 = grind (arith, common_steps) in
    sorted_front (events_total g.met.B.Ord.total) c.get.result c.args.self.now first (subst (IsSorted (event_cmp g.B.Ord.cmp)) c.self.view_is c.self.invariant.1)
