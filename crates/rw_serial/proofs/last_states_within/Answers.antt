use Rattle.std.proofs.Common.{◌^◌, ◌∙◌, ◌<◌, subst, sym}
use Rattle.std.proofs.lemmas.Option.{IfSome_then}
use Rattle.std.proofs.lemmas.Result.{IfOk-weaker, IfErr-weaker}
use Rattle.rw_vt.specs.System.{rules}
use Rattle.rw_vt.proofs.Laws.{laws_of, rules_lawful}
use Rattle.rw_serial.proofs.Counting.{IfNone_then}
use Rattle.rw_serial.proofs.Permuted.{ready_permuted, same_events, same_outcome, same_meets}
use Rattle.rw_serial.proofs.last_states_within.Goals as goal

pub last_states_within_from-requires : goal.last_states_within_from-requires
last_states_within_from-requires g c = record { ready = ready_permuted g.M.Model c.args.model.now c.args.starts.items c.args.initial.items c.in_ok-new.field-0 c.in_ok-new.ensures c.requires.ready }

pub returns-clause-outcome : goal.returns-clause-outcome
returns-clause-outcome g c =
    let exact = (rules_lawful (laws_of g.met.M.Model g.met.M.Body.Ord.total) c.args.model.now).exact in
    IfOk-weaker c.last_states_within_from.result _ _
    (λ ran outs. IfSome_then ran outs (λ done out. (out.0, same_outcome (rules g.M.Model g.M.Body.Ord.cmp c.args.model.now) exact c.args.starts.items c.args.initial.items c.in_ok-new.field-0 c.in_ok-new.ensures (2 ^ 40) out.0 done.0.items out.1)))
    c.last_states_within_from.ensures.outcome

pub returns-clause-count : goal.returns-clause-count
returns-clause-count g c =
    let exact = (rules_lawful (laws_of g.met.M.Model g.met.M.Body.Ord.total) c.args.model.now).exact in
    let same = same_events (rules g.M.Model g.M.Body.Ord.cmp c.args.model.now) exact c.args.starts.items c.args.initial.items c.in_ok-new.field-0 c.in_ok-new.ensures (2 ^ 40) in
    IfOk-weaker c.last_states_within_from.result _ _ (λ ran counts. IfSome_then ran counts (λ done count. (count.0 ∙ sym same, count.1))) c.last_states_within_from.ensures.count

pub returns-clause-used_up : goal.returns-clause-used_up
returns-clause-used_up g c =
    let exact = (rules_lawful (laws_of g.met.M.Model g.met.M.Body.Ord.total) c.args.model.now).exact in
    let same = same_events (rules g.M.Model g.M.Body.Ord.cmp c.args.model.now) exact c.args.starts.items c.args.initial.items c.in_ok-new.field-0 c.in_ok-new.ensures (2 ^ 40) in
    IfOk-weaker c.last_states_within_from.result _ _ (λ ran more. IfNone_then ran more (subst (λ n. c.args.limit < n) (sym same))) c.last_states_within_from.ensures.used_up

pub returns-clause-exhausted : goal.returns-clause-exhausted
returns-clause-exhausted g c =
    let exact = (rules_lawful (laws_of g.met.M.Model g.met.M.Body.Ord.total) c.args.model.now).exact in
    IfErr-weaker c.last_states_within_from.result _ _
    (λ r met is. same_meets (rules g.M.Model g.M.Body.Ord.cmp c.args.model.now) exact c.args.starts.items c.args.initial.items c.in_ok-new.field-0 c.in_ok-new.ensures (2 ^ 40) (g.M.Model.is_exhausted c.args.model.now) (met is))
    c.last_states_within_from.ensures.exhausted
