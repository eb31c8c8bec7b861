use Rattle.std.proofs.Common.{sym, subst}
use Rattle.rw_vt.proofs.Laws.{Laws, laws_of}
use Rattle.rw_rounds.specs.Gathering.{AreDone, IsEnded}
use Rattle.rw_rounds.proofs.Gathered.{AllTook, begun_seated, all_done, round_made}
use Rattle.rw_rounds.proofs.round.go_round.Given as given
use Rattle.rw_rounds.proofs.round.go_round.Goals as goal
use Rattle.rw_rounds.proofs.round.go_round.Goals.{In_ok-work-2}

laws : (g : given.Over) → Laws g.M.Model g.M.Body.Ord.cmp
laws g = laws_of g.met.M.Model g.met.M.Body.Ord.total

-- each of them has made its round
went : (g : given.Over) (c : In_ok-work-2 g) → AllTook g.M.Model g.M.Body.Ord.cmp c.in_ok-work.work.model c.in_ok-work.work.turns c.in_ok-work.workers.items c.in_ok-work-2.workers.items
went g c = record { long = c.in_ok-work-2.ensures.count; went = c.in_ok-work-2.ensures.each }

pub begin_round-requires-clause-shares : goal.begin_round-requires-clause-shares
begin_round-requires-clause-shares g c = c.requires.stands.2.many

pub run_each-requires : goal.run_each-requires
run_each-requires g c = record { takes = begun_seated (laws g) c.requires.plan c.requires.stands.1 c.requires.stands.2 c.in_ok-work.ensures.begun }

-- the work that comes back is the work that went
pub end_round-requires : goal.end_round-requires
end_round-requires g c =
    let at = goal.at.end_round-requires g c in
    record { done = subst (λ work. AreDone work.board c.in_ok-work-2.workers.items) (sym c.in_ok-work-2.ensures.job) (all_done (laws g) c.requires.plan c.requires.stands.1 c.requires.stands.2 c.in_ok-work.ensures.begun (went g at.In_ok-work-2)) }

pub returns : goal.returns
returns g c =
    let at = goal.at.returns g c in
    let workers = c.in_ok-work-2.workers.items in
    record {
      round = λ x whole stands.
          round_made (laws g) c.requires.plan whole stands c.in_ok-work.ensures.begun (went g at.In_ok-work-2) c.in_ok-between.between c.in_ok-between.floor
          (subst (λ work. IsEnded work workers c.in_ok-work.rest c.in_ok-between.between c.in_ok-between.floor) c.in_ok-work-2.ensures.job c.in_ok-between.ensures.ended);
    }
