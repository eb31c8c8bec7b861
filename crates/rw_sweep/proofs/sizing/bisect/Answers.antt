-- The range between a block count that misses the target and one that reaches it, halved until nothing is left in between.
use Rattle.std.proofs.Common.{◌<◌, ◌-◌, refl, arith}
use Rattle.rw_sweep.proofs.Halving.{crossing-of, lowered, one-left, raised}
use Rattle.rw_sweep.proofs.sizing.bisect.Goals as goal
use Rattle.rw_sweep.proofs.sizing.bisect.Goals.{then-branch, else-branch}

pub loop-step-init : goal.loop-step-init
loop-step-init g c =
    let some = c.requires.search.some in
    let few = c.requires.search.few in
    let below = c.requires.in_order in
    record {
      tried = c.requires.tried;
      misses = c.requires.missed;
      reaches = c.requires.reached;
      in_order = below;
      least = omega arith;
      most = omega arith;
      gap = omega arith;
      few = omega arith;
    }

pub loop-step-preserved : goal.loop-step-preserved
loop-step-preserved g c =
    let more = c.loop-step-test.true in
    let wide : 1 < c.loop-step.reached - c.loop-step.missed = c.if-reached-missed-le1.false in
    elim c.if-branch.branch [
      | then-branch w ↦ rw (w.missed-is, w.reached-is) (lowered _ _ _ _ _ _ _ _ _ c.loop-step.invariant more wide refl (rw w.if-branch.true at c.in_ok-run.ensures.tried))
      | else-branch w ↦ rw (w.missed-is, w.reached-is) (raised _ _ _ _ _ _ _ _ _ c.loop-step.invariant more wide refl (rw w.if-branch.false at c.in_ok-run.ensures.tried))
    ]

pub returns-then-reached-missed-le1-clause-crossing :
    goal.returns-then-reached-missed-le1-clause-crossing
returns-then-reached-missed-le1-clause-crossing g c =
    crossing-of _ _ _ _ _ _ _ c.loop-step.invariant c.if-reached-missed-le1.true

pub returns-clause-crossing : goal.returns-clause-crossing
returns-clause-crossing g c =
    crossing-of _ _ _ _ _ _ _ c.loop-step.invariant (one-left c.loop-step.step (c.loop-step.reached - c.loop-step.missed) c.loop-step-test.false c.loop-step.invariant.gap)
