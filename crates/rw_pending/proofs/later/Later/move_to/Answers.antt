use Rattle.std.proofs.Common.{◌++◌}
use Rattle.std.proofs.lemmas.List.Sorted.{IsPermutation-refl}
use Rattle.rw_pending.proofs.ByTime.{left_moved, left_on, left_same}
use Rattle.rw_pending.proofs.Moving.{moved_fewer, moved_on}
use Rattle.rw_pending.proofs.later.Later.move_to.Goals as goal

pub loop-time-init : goal.loop-time-init
loop-time-init g c = (IsPermutation-refl (c.args.rest.now.items ++ c.args.self.now), left_same c.args.self.now)

pub loop-time-smaller : goal.loop-time-smaller
loop-time-smaller g c = moved_fewer c.in_ok-take.ensures.moved c.in-Some.ensures

pub loop-time-preserved : goal.loop-time-preserved
loop-time-preserved g c =
    let inv = c.loop-time.invariant in
    (moved_on c.in_ok-take.ensures.moved (c.args.rest.now.items ++ c.args.self.now) inv.0, left_on inv.1 (left_moved c.in_ok-take.ensures.moved))

pub returns-in_err-take-clause-left : goal.returns-in_err-take-clause-left
returns-in_err-take-clause-left g c = left_on c.loop-time.invariant.1 c.in_err-take.ensures.left
