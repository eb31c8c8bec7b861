use Rattle.std.proofs.Common.{◌∙◌, refl, subst, sym}
use Rattle.rw_rounds.specs.Plans.{IsInRanges}
use Rattle.rw_engine.proofs.Onward.{goes_further, goes_itself}
use Rattle.rw_engine.proofs.rounds.run_segments.Goals as goal

pub loop-segment-preserved : goal.loop-segment-preserved
loop-segment-preserved g c = record {
  onward = goes_further g.M.Model g.M.Body.Ord.cmp c.loop-segment.invariant.onward c.in_ok-run.ensures.onward;
  plan = c.in_ok-run.ensures.plan ∙ c.loop-segment.invariant.plan;
  threads = c.note.ensures ∙ c.loop-segment.invariant.threads;
}

pub returns-in_default-least_time-clause-onward : goal.returns-in_default-least_time-clause-onward
returns-in_default-least_time-clause-onward g c = goes_further g.M.Model g.M.Body.Ord.cmp c.loop-segment.invariant.onward c.in_ok-run.ensures.onward

pub loop-segment-init : goal.loop-segment-init
loop-segment-init g c =
    let run = c.args.run in
    let events = c.args.pending.now.events in
    record { onward = goes_itself g.M.Model g.M.Body.Ord.cmp run.model run.states.items events events c.requires.ready refl; plan = refl; threads = c.begin.ensures }

pub by-requires : goal.by-requires
by-requires g c κs =
    let known = c.loop-segment.invariant in
    ((refl, tt), (known.onward.ready, subst IsInRanges (sym known.plan) c.requires.plan))
