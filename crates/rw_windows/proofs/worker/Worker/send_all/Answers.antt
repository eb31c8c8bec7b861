use Prim.Native.Nat.{min}
use Rattle.std.proofs.Common.{sym, ◌∙◌, ap, subst, arith}
use Rattle.rw_windows.specs.Working.{IsAtWork, outbox_to}
use Rattle.rw_windows.proofs.Saying.{handed_next, handed_own, handed_all, next_sending}
use Rattle.rw_windows.proofs.Workers.{same_then, same_sending}
use Rattle.rw_windows.proofs.worker.Worker.send_all.Goals as goal

pub loop-to-init : goal.loop-to-init
loop-to-init g c =
    let work = subst (IsAtWork g.M.Model g.M.Body.Ord.cmp c.args.model.now) (sym c.self.view_is) c.requires.at_work in
    record {
      at_work = next_sending c.args.model.now _ work c.least_time.result 18446744073709551615 c.min.result c.saturating_add.result c.max-domain.result c.least_time.ensures (c.min.ensures ∙ ap (λ n. min n c.self.inside.domain.bound_in) c.unwrap_or-least.ensures) c.saturating_add.ensures c.max-domain.ensures;
      same = same_sending c.args.self.now _ c.max-domain.result c.self.view_is;
      until = ap (λ w. w.until) c.self.view_is;
      waiting = ap (λ w. w.waiting) c.self.view_is;
      handed = λ v h. absurd (omega (arith, h));
    }

pub loop-to-preserved-then-to-self : goal.loop-to-preserved-then-to-self
loop-to-preserved-then-to-self g c =
    let kept = c.loop-to.invariant in
    let own = ap (λ w. w.number) c.self-in-loop-to.view_is in
    record {
      at_work = kept.at_work;
      same = kept.same;
      until = kept.until;
      waiting = kept.waiting;
      handed = handed_own c.loop-to.self c.loop-to.to kept.handed (ap (outbox_to c.loop-to.self) (c.if-to-self.true ∙ own) ∙ kept.at_work.done.none);
    }

pub send_to-requires-clause-at_work : goal.send_to-requires-clause-at_work
send_to-requires-clause-at_work g c = c.loop-to.invariant.at_work

pub send_to-requires-clause-other : goal.send_to-requires-clause-other
send_to-requires-clause-other g c =
    let kept = c.loop-to.invariant in
    let own = ap (λ w. w.number) c.self-in-loop-to.view_is in
    (omega (arith, kept.at_work.seated.wide.0, kept.same.workers, ap (λ w. w.workers) c.self.view_is, c.loop-to-test.true), λ e. c.if-to-self.false (e ∙ kept.at_work.seated.port ∙ sym own))

pub returns-then-not-branch-clause-same : goal.returns-then-not-branch-clause-same
returns-then-not-branch-clause-same g c =
    let kept = c.loop-to.invariant in
    same_then c.args.self.now c.loop-to.self c.send_to.new.self kept.same c.in_ok-send_to.ensures.same

pub returns-then-not-branch-clause-until : goal.returns-then-not-branch-clause-until
returns-then-not-branch-clause-until g c = c.in_ok-send_to.ensures.rest.0 ∙ c.loop-to.invariant.until

pub returns-then-not-branch-clause-waiting : goal.returns-then-not-branch-clause-waiting
returns-then-not-branch-clause-waiting g c = c.in_ok-send_to.ensures.rest.1 ∙ c.loop-to.invariant.waiting

pub loop-to-preserved : goal.loop-to-preserved
loop-to-preserved g c =
    let kept = c.loop-to.invariant in
    let told = c.in_ok-send_to.ensures.told in
    let there = c.if-not-branch.false in
    record {
      at_work = c.in_ok-send_to.ensures.at_work;
      same = same_then c.args.self.now c.loop-to.self c.send_to.new.self kept.same c.in_ok-send_to.ensures.same;
      until = c.in_ok-send_to.ensures.rest.0 ∙ kept.until;
      waiting = c.in_ok-send_to.ensures.rest.1 ∙ kept.waiting;
      handed = handed_next c.loop-to.self c.send_to.new.self c.loop-to.to (omega (arith, kept.at_work.seated.lists, kept.same.workers, ap (λ w. w.workers) c.self.view_is, c.loop-to-test.true)) kept.handed (told there);
    }

pub returns-clause-at_work : goal.returns-clause-at_work
returns-clause-at_work g c = c.loop-to.invariant.at_work

pub returns-clause-same : goal.returns-clause-same
returns-clause-same g c = c.loop-to.invariant.same

pub returns-clause-until : goal.returns-clause-until
returns-clause-until g c = c.loop-to.invariant.until

pub returns-clause-waiting : goal.returns-clause-waiting
returns-clause-waiting g c = c.loop-to.invariant.waiting

pub returns-clause-handed_over : goal.returns-clause-handed_over
returns-clause-handed_over g c =
    let kept = c.loop-to.invariant in
    let stop = c.loop-to-test.false in
    λ there. handed_all c.loop-to.self c.loop-to.to (omega (arith, kept.at_work.seated.lists, kept.same.workers, ap (λ w. w.workers) c.self.view_is, stop)) kept.handed
