use Rattle.std.proofs.Common.{◌≤◌, IfSome, refl, sym, ◌∙◌, ap, subst, arith}
use Rattle.rw_exchange.specs.Ports.{received_from}
use Rattle.rw_windows.specs.Batches.{last_bound}
use Rattle.rw_windows.specs.Working.{IsAtWork, SameWorker, outbox_to}
use Rattle.rw_windows.proofs.Hearing.{HeardOf, bound_in_own, bound_in_next, next_receiving}
use Rattle.rw_windows.proofs.Workers.{same_receiving, same_itself, same_then}
use Rattle.rw_windows.proofs.worker.Worker.receive_all.Goals as goal

pub loop-from-init : goal.loop-from-init
loop-from-init g c = record {
  at_work = c.requires.at_work;
  same = same_itself c.args.self.now;
  until = refl;
  handed = c.requires.handed_over;
  least = λ v h o. absurd (omega (arith, h));
}

pub loop-from-preserved-then-from-self : goal.loop-from-preserved-then-from-self
loop-from-preserved-then-from-self g c =
    let kept = c.loop-from.invariant in
    let own = ap (λ w. w.number) c.self-in-loop-from.view_is in
    record {
      at_work = kept.at_work;
      same = kept.same;
      until = kept.until;
      handed = kept.handed;
      least = bound_in_own c.loop-from.self c.loop-from.bound_in c.loop-from.from kept.least (c.if-from-self.true ∙ own ∙ sym kept.at_work.seated.port);
    }

pub take_batch-requires-clause-at_work : goal.take_batch-requires-clause-at_work
take_batch-requires-clause-at_work g c = c.loop-from.invariant.at_work

pub take_batch-requires-clause-other : goal.take_batch-requires-clause-other
take_batch-requires-clause-other g c =
    let kept = c.loop-from.invariant in
    let own = ap (λ w. w.number) c.self-in-loop-from.view_is in
    (omega (arith, kept.at_work.seated.wide.0, kept.same.workers, ap (λ w. w.workers) c.self.view_is, c.loop-from-test.true), λ e. c.if-from-self.false (e ∙ kept.at_work.seated.port ∙ sym own))

pub take_batch-requires-clause-handed_over : goal.take_batch-requires-clause-handed_over
take_batch-requires-clause-handed_over g c = c.loop-from.invariant.handed

pub returns-in_default-clause-same : goal.returns-in_default-clause-same
returns-in_default-clause-same g c = same_then c.args.self.now c.loop-from.self c.take_batch.new.self c.loop-from.invariant.same c.in_ok-bound.ensures.same

pub returns-in_default-clause-until : goal.returns-in_default-clause-until
returns-in_default-clause-until g c = c.in_ok-bound.ensures.times.0 ∙ c.loop-from.invariant.until

pub loop-from-preserved : goal.loop-from-preserved
loop-from-preserved g c =
    let kept = c.loop-from.invariant in
    let took = c.in_ok-bound.ensures in
    record {
      at_work = took.at_work;
      same = same_then c.args.self.now c.loop-from.self c.take_batch.new.self kept.same took.same;
      until = took.times.0 ∙ kept.until;
      handed = took.handed_over;
      least = bound_in_next c.loop-from.self c.take_batch.new.self c.loop-from.bound_in c.loop-from.from c.in-Some.bound c.min-bound_in.result kept.least took.same.port took.others (subst (λ o. IfSome o (λ r. r ≤ last_bound (received_from c.take_batch.new.self.port c.loop-from.from))) c.in-Some.is took.bound) c.min-bound_in.ensures;
    }

pub returns-clause-at_work : goal.returns-clause-at_work
returns-clause-at_work g c =
    let kept = c.loop-from.invariant in
    let work = subst (IsAtWork g.M.Model g.M.Body.Ord.cmp c.args.model.now) (sym c.self-2.view_is) kept.at_work in
    let least = subst (λ w. HeardOf w c.loop-from.bound_in c.loop-from.from) (sym c.self-2.view_is) kept.least in
    next_receiving c.args.model.now _ work c.loop-from.bound_in c.max-self-inside.result c.loop-from.from
    (omega (arith, ap (λ w. w.workers) c.self-2.view_is, kept.same.workers, ap (λ w. w.workers) c.self.view_is, c.loop-from-test.false)) least c.max-self-inside.ensures

pub returns-clause-same : goal.returns-clause-same
returns-clause-same g c = same_receiving c.args.self.now _ c.max-self-inside.result (subst (SameWorker c.args.self.now) (sym c.self-2.view_is) c.loop-from.invariant.same)

pub returns-clause-until : goal.returns-clause-until
returns-clause-until g c = ap (λ w. w.until) c.self-2.view_is ∙ c.loop-from.invariant.until

pub returns-clause-handed_over : goal.returns-clause-handed_over
returns-clause-handed_over g c = λ v. ap (λ w. outbox_to w v) c.self-2.view_is ∙ c.loop-from.invariant.handed v
