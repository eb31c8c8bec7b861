use Rattle.std.proofs.Common.{◌+◌, ◌*◌, ◌/◌, refl, subst, sym}
use Rattle.rw_engine.specs.Alone.{AreRoundsOf}
use Rattle.rw_engine.proofs.Counting.{rounds_are}
use Rattle.rw_engine.proofs.alone.traffic_of.Goals as goal

pub returns : goal.returns
returns c =
    let plan = c.args.plan.now in
    let less = subst (λ n. AreRoundsOf plan c.args.executed (n / (plan.turns * plan.batch) + 1)) (sym c.saturating_sub.ensures) (rounds_are plan c.args.executed c.requires) in
    record {
      rounds = subst (λ n. AreRoundsOf plan c.args.executed (c.saturating_sub.result / n + 1)) (sym c.events_of_round.ensures) less;
      executed = refl;
      undone = refl;
      letters = (refl, refl);
    }
