use Rattle.std.proofs.Common.{All, Some, length, ap, sym, subst, ◌∙◌, arith, IfOk}
use Rattle.std.specs.List.{AllZip}
use Rattle.std.specs.Arc.{arc_value}
use Rattle.std.proofs.lemmas.List.Elements.{All-pop, AllZip-get_or, length_all_zip}
use Rattle.rw_pool.proofs.Asking.{all_answered}
use Rattle.rw_pool.proofs.pool.run_each.Given as given
use Rattle.rw_pool.proofs.pool.run_each.Goals as goal
use Rattle.rw_pool.proofs.pool.run_each.Goals.{In_ok-done}

-- what became of the inputs
done : (g : given.Over) (c : In_ok-done g) → AllZip (g.J.Job.Gives c.args.job) c.args.inputs.items c.in_ok-done.done.items
done g c =
    let job = c.in_ok-job.job in
    let gave = subst (λ j. IfOk c.run-result.result (g.J.Job.Gives j c.in-Some.own)) c.deref.ensures c.run-result.ensures.gives in
    let each = all_answered g.J.Job.Gives (arc_value job) (λ a. a.notes) _ _ c.in-Some.own c.in_ok-awaited.awaited.items c.in_ok-results.results.items _ c.run-result.result _
    c.in-Some.ensures.items c.in_ok-awaited.ensures.asked c.in_ok-results.ensures.answers gave c.push_reserved.ensures.items c.in_ok-done.ensures in
    subst (λ j. AllZip (g.J.Job.Gives j) c.args.inputs.items c.in_ok-done.done.items) c.in_ok-job.ensures.ok each

pub returns-clause-count : goal.returns-clause-count
returns-clause-count g c = sym (length_all_zip _ _ _ (done g c))

pub returns-clause-each : goal.returns-clause-each
returns-clause-each g c i d e lt = AllZip-get_or _ _ _ i d e (done g c) lt

pub submit_each-requires : goal.submit_each-requires
submit_each-requires g c =
    let each = All-pop (λ t. g.J.Job.Takes c.args.job t) c.args.inputs.items c.pop.new.self.items (Some c.in-Some.own) c.in-Some.ensures.items c.requires.takes in record {
      takes = subst (λ j. All (λ t. g.J.Job.Takes j t) c.pop.new.self.items) (sym c.in_ok-job.ensures.ok) each.0;
    }

pub run-result-requires : goal.run-result-requires
run-result-requires g c =
    let each = All-pop (λ t. g.J.Job.Takes c.args.job t) c.args.inputs.items c.pop.new.self.items (Some c.in-Some.own) c.in-Some.ensures.items c.requires.takes in record {
      takes = subst (λ j. g.J.Job.Takes j c.in-Some.own) (sym (c.deref.ensures ∙ c.in_ok-job.ensures.ok)) each.1;
    }

pub returns-clause-job : goal.returns-clause-job
returns-clause-job g c = c.in-Some-into_inner.ensures ∙ c.in_ok-job.ensures.ok

pub push_reserved-requires : goal.push_reserved-requires
push_reserved-requires g c = c.in_ok-results.ensures.room

pub returns-in_default-clause-count : goal.returns-in_default-clause-count
returns-in_default-clause-count g c = ap length c.new.ensures.items ∙ sym c.in_default.ensures.cases.0 ∙ c.args.inputs.ok.0

pub returns-in_default-clause-each : goal.returns-in_default-clause-each
returns-in_default-clause-each g c i d e lt = absurd (omega (arith, lt, c.in_default.ensures.cases.0, c.args.inputs.ok.0))
