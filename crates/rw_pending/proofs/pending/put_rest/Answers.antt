use Rattle.std.proofs.Common.{◌≡◌, [], ◌++◌, ◌∙◌, IfNone, IsPermutation, subst, ap, arith, length, refl}
use Rattle.std.proofs.lemmas.List.Sorted.{IsPermutation-refl}
use Rattle.rw_pending.proofs.Moving.{around_rest, put_one_more}
use Rattle.std.specs.Option.{option_to_list}
use Rattle.rw_pending.proofs.pending.put_rest.Goals as goal

pub events-init : goal.events-init
events-init g c = IsPermutation-refl (c.args.initial.now ++ c.args.later.now)

pub returns-in_default-clause-added : goal.returns-in_default-clause-added
returns-in_default-clause-added g c =
    let none = subst (λ n. IfNone n (c.events.initial' ≡ [])) c.in_default.is c.pop.ensures.none in
    subst (λ l. IsPermutation (c.args.initial.now ++ c.args.later.now) (l ++ c.events.later)) none c.events.invariant

pub returns-in_default-clause-around : goal.returns-in_default-clause-around
returns-in_default-clause-around g c = λ t now after around. around_rest t (option_to_list c.pop.new.next) c.events.invariant c.pop.ensures.taken refl after around

pub events-smaller : goal.events-smaller
events-smaller g c = omega (arith, ap length (c.pop.ensures.taken ∙ ap (λ n. option_to_list n ++ c.pop.new.self) c.in-Some.is))

pub events-preserved : goal.events-preserved
events-preserved g c = put_one_more c.events.later c.in-Some.event (c.pop.ensures.taken ∙ ap (λ n. option_to_list n ++ c.pop.new.self) c.in-Some.is) c.in_ok-put.ensures.added c.events.invariant

pub returns-in_err-put-clause-around : goal.returns-in_err-put-clause-around
returns-in_err-put-clause-around g c = λ t now after around. around_rest t (option_to_list c.pop.new.next) c.events.invariant c.pop.ensures.taken c.in_err-put.ensures.unchanged after around
