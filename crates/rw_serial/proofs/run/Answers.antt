use Rattle.std.proofs.Common.{ap, ◌∙◌, arith, ◌≡◌, ◌^◌, [], length, map, replicate, subst, sym}
use Rattle.std.proofs.lemmas.Result.{err_from_is_err_and}
use Rattle.rw_vt.specs.System.{rules, system, IsOutcome}
use Rattle.rw_vt.proofs.Laws.{laws_of, rules_lawful}
use Rattle.rw_serial.proofs.Counting.{no_limit}
use Rattle.rw_serial.proofs.Permuted.{ready_permuted, same_outcome, same_meets}
use Rattle.rw_serial.proofs.run.Goals as goal

pub execute_all-requires-clause-ready : goal.execute_all-requires-clause-ready
execute_all-requires-clause-ready g c = ready_permuted g.M.Model c.args.model.now c.args.starts.items c.args.initial.items c.in_ok-source.source c.in_ok-source.ensures c.requires.ready

pub returns-in_err-execute_all-clause-exhausted : goal.returns-in_err-execute_all-clause-exhausted
returns-in_err-execute_all-clause-exhausted g c =
    let exact = (rules_lawful (laws_of g.met.M.Model g.met.M.Body.Ord.total) c.args.model.now).exact in
    let p = err_from_is_err_and c.from_residual-in_err-execute_all.result c.from_residual-in_err-execute_all.ensures.1 in
    rw (p.1, p.2) (λ e. same_meets (rules g.M.Model g.M.Body.Ord.cmp c.args.model.now) exact c.args.starts.items c.args.initial.items c.in_ok-source.source c.in_ok-source.ensures (2 ^ 40) (g.M.Model.is_exhausted c.args.model.now) (c.in_err-execute_all.ensures.exhausted e))

pub returns-clause-outcome : goal.returns-clause-outcome
returns-clause-outcome g c =
    let exact = (rules_lawful (laws_of g.met.M.Model g.met.M.Body.Ord.total) c.args.model.now).exact in
    let ran = c.in_ok-execute_all.ensures in
    let none : map (λ j. j.items) c.in_ok-journals.journals.items ≡ replicate (length c.args.starts.items) [] = c.in_ok-journals.ensures ∙ ap (λ n. replicate n []) (omega (arith, c.len.ensures, c.args.starts.ok.0)) in
    let out = ran.outcome (no_limit c.in_ok-execute_all.field-0 _ (λ short limit. ran.used_up short limit none)) 0 none in
    same_outcome (rules g.M.Model g.M.Body.Ord.cmp c.args.model.now) exact c.args.starts.items c.args.initial.items c.in_ok-source.source c.in_ok-source.ensures (2 ^ 40) (map (λ j. j.items) c.execute_all.new.ledger.items) c.execute_all.new.states.items
    (subst (λ js. IsOutcome (system g.M.Model g.M.Body.Ord.cmp c.args.model.now c.args.starts.items c.in_ok-source.source) (2 ^ 40) js c.execute_all.new.states.items) (sym out.1) out.2)

pub execute_all-requires-clause-none : goal.execute_all-requires-clause-none
execute_all-requires-clause-none g c = (0, c.in_ok-journals.ensures ∙ ap (λ n. replicate n []) (omega (arith, c.len.ensures, c.args.starts.ok.0)))
