use Rattle.std.proofs.Common.{sym, subst, arith}
use Rattle.rw_vt.proofs.Laws.{laws_of}
use Rattle.rw_rounds.specs.Between.{IsUnderway, IsBetween}
use Rattle.rw_rounds.proofs.Rounding.{WorldLaws}
use Rattle.rw_rounds.proofs.Underway.{underway_first, underway_next, underway_last, stands_by_shares}
use Rattle.rw_rounds.proofs.segment.go_rounds.Given as given
use Rattle.rw_rounds.proofs.segment.go_rounds.Goals as goal
use Rattle.rw_rounds.proofs.segment.go_rounds.Goals.{In_ok-next}

-- what the segment has after the round
after : (g : given.Over) (c : In_ok-next g) → IsUnderway g.M.Model g.M.Body.Ord.cmp c.args.bounds.plan.workers c.args.world c.in_ok-next.next c.in_ok-next.floor
after g c =
    let worlds : WorldLaws g.M.Model g.M.Body.Ord.cmp = record { every_exchange = c.every_exchange.ensures; every_floor = c.every_floor.ensures; every_sound_world = c.every_sound_world.ensures; every_step = c.every_step.ensures } in
    underway_next c.args.bounds.plan.workers c.args.world (laws_of g.met.M.Model g.met.M.Body.Ord.total) worlds c.plan-plan.result c.rounds.between c.in_ok-next.next c.rounds.reached.floor c.in_ok-next.floor c.plan-plan.ensures.ranges c.plan-plan.ensures.workers c.rounds.invariant.underway c.in_ok-next.ensures.round

pub rounds-init : goal.rounds-init
rounds-init g c = record {
  underway = underway_first c.args.bounds.plan.workers c.args.world c.take.result c.in_ok-between.between c.floor.result c.take.ensures.whole c.take.ensures.is c.in_ok-between.ensures.stands c.floor.ensures.least;
  some_left = c.requires.rounds;
}

pub go_round-requires-clause-plan : goal.go_round-requires-clause-plan
go_round-requires-clause-plan g c = c.plan-plan.ensures.ranges

pub go_round-requires-clause-stands : goal.go_round-requires-clause-stands
go_round-requires-clause-stands g c =
    let u = c.rounds.invariant.underway in
    (u.now, u.leads.leads.after, subst (λ k. IsBetween k u.now c.rounds.between) (sym c.plan-plan.ensures.workers) u.stands)

pub rounds-preserved : goal.rounds-preserved
rounds-preserved g c =
    let at = goal.at.rounds-preserved g c in
    record { underway = after g at.In_ok-next; some_left = omega arith }

pub end_segment-requires-clause-some : goal.end_segment-requires-clause-some
end_segment-requires-clause-some g c =
    let at = goal.at.end_segment-requires-clause-some g c in
    omega (arith, (after g at.In_ok-next).stands.many, c.requires.plan.workers.0)

pub end_segment-requires-clause-stands : goal.end_segment-requires-clause-stands
end_segment-requires-clause-stands g c =
    let at = goal.at.end_segment-requires-clause-stands g c in
    let u = after g at.In_ok-next in
    (u.now, stands_by_shares c.args.bounds.plan.workers c.args.world c.in_ok-next.next c.in_ok-next.floor u)

pub returns-then-left-eq0-clause-leads : goal.returns-then-left-eq0-clause-leads
returns-then-left-eq0-clause-leads g c =
    let at = goal.at.returns-then-left-eq0-clause-leads g c in
    underway_last c.args.bounds.plan.workers c.args.world c.in_ok-next.next c.in_ok-next.floor c.in_ok-parts.parts (after g at.In_ok-next) c.in_ok-parts.ensures.same
