use Rattle.std.proofs.Common.{refl, subst, sym}
use Rattle.rw_pending.specs.Later.{IsLeastTime}
use Rattle.rw_rounds.specs.Plans.{IsInRanges}
use Rattle.rw_engine.proofs.Onward.{goes_further, goes_to_end}
use Rattle.rw_engine.proofs.rounds.run_by_workers.Goals as goal

pub returns-in_default-clause-states : goal.returns-in_default-clause-states
returns-in_default-clause-states g c =
    goes_to_end g.M.Model g.M.Body.Ord.cmp c.in_ok-run.ensures.onward (subst (IsLeastTime c.run_segments.new.pending.events) c.in_default.is c.least_time.ensures)

pub returns-clause-states : goal.returns-clause-states
returns-clause-states g c =
    goes_to_end g.M.Model g.M.Body.Ord.cmp (goes_further g.M.Model g.M.Body.Ord.cmp c.in_ok-run.ensures.onward c.in_ok-run-2.ensures.onward) (c.in_ok-run-2.ensures.all c.with_threads-controller.ensures)

pub run_segments-requires-2 : goal.run_segments-requires-2
run_segments-requires-2 g c κs = ((refl, tt), (c.in_ok-run.ensures.onward.ready, subst IsInRanges (sym c.in_ok-run.ensures.plan) c.requires.plan))
