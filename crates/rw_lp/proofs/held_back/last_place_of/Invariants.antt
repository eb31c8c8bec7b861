use Rattle.std.proofs.Common.{◌≡◌, false}
use Rattle.std.proofs.Math.ListN.{drop}
use Rattle.rw_vt.specs.Order.{event_cmp}
use Rattle.rw_lp.specs.HeldMessages.{holds}
use Rattle.rw_lp.proofs.held_back.last_place_of.Given as goal

abbrev pub invariant-loop-at : goal.invariant-loop-at
invariant-loop-at g l = holds (event_cmp g.B.Ord.cmp) l.message (drop l.at l.pairs) ≡ false
