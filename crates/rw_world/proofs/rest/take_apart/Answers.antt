use Rattle.std.proofs.Common.{◌≡◌, [], ◌∷◌, ◌++◌, map, sym, ap, ◌∙◌}
use Rattle.rw_vt.specs.System.{flatten}
use Rattle.rw_world.specs.Leaving.{owed_at}
use Rattle.rw_world.proofs.Resting.{none_length, list_taken, all_taken}
use Rattle.std.proofs.lemmas.Result.{IfOk-from_err}
use Rattle.rw_world.proofs.rest.take_apart.Goals as goal

pub loop-process-init : goal.loop-process-init
loop-process-init g c =
    let all = c.into_iter-process-iterator.ensures.into_iter_gives.0 in
    record {
      states = ap (λ l. l ++ map (λ k. k.process.state) c.into_iter-process-iterator.result.rest.items) c.in_ok-states.ensures.items ∙ ap (map (λ k. k.process.state)) all;
      there = ap (λ ks. c.args.there.now.items ++ flatten (map (λ k. k.process.pending) ks)) all;
      owed = ap (λ ks. c.args.owed.now.items ++ flatten (map owed_at ks)) all;
    }

pub loop-process-preserved : goal.loop-process-preserved
loop-process-preserved g c =
    let known = c.loop-process.invariant in
    let x = c.in-Some.process in
    let rest = c.next.new.self.rest.items in
    let r : c.loop-process.process-iterator.rest.items ≡ x ∷ rest = c.in-Some.ensures.steps.0 in
    record {
      states = list_taken c.loop-process.states.items _ (c.in_ok-into_left.field-0 ∷ []) (map (λ k. k.process.state) rest) _ _ c.in_ok-push.ensures.items (ap (λ s. s ∷ map (λ k. k.process.state) rest) c.in_ok-into_left.ensures.state ∙ sym (ap (map (λ k. k.process.state)) r)) known.states;
      there = list_taken c.loop-process.there.items _ x.process.pending (flatten (map (λ k. k.process.pending) rest)) _ _ c.in_ok-into_left.ensures.there (sym (ap (λ ks. flatten (map (λ k. k.process.pending) ks)) r)) known.there;
      owed = list_taken c.loop-process.owed.items _ (owed_at x) (flatten (map owed_at rest)) _ _ c.in_ok-into_left.ensures.owed (sym (ap (λ ks. flatten (map owed_at ks)) r)) known.owed;
    }

pub returns-clause-states : goal.returns-clause-states
returns-clause-states g c =
    let rest = c.loop-process.process-iterator.rest in
    let none : rest.items ≡ [] = none_length rest.items (sym rest.ok.0 ∙ c.in-None.ensures.steps.0) in
    all_taken c.loop-process.states.items _ _ (ap (map (λ k. k.process.state)) none) c.loop-process.invariant.states

pub returns-clause-there : goal.returns-clause-there
returns-clause-there g c =
    let rest = c.loop-process.process-iterator.rest in
    let none : rest.items ≡ [] = none_length rest.items (sym rest.ok.0 ∙ c.in-None.ensures.steps.0) in
    all_taken c.loop-process.there.items _ _ (ap (λ ks. flatten (map (λ k. k.process.pending) ks)) none) c.loop-process.invariant.there

pub returns-clause-owed : goal.returns-clause-owed
returns-clause-owed g c =
    let rest = c.loop-process.process-iterator.rest in
    let none : rest.items ≡ [] = none_length rest.items (sym rest.ok.0 ∙ c.in-None.ensures.steps.0) in
    all_taken c.loop-process.owed.items _ _ (ap (λ ks. flatten (map owed_at ks)) none) c.loop-process.invariant.owed

pub returns-in_err-states : goal.returns-in_err-states
returns-in_err-states g c =
    let err = c.from_residual.ensures.0 in
    record { states = IfOk-from_err _ _ err; there = IfOk-from_err _ _ err; owed = IfOk-from_err _ _ err }

pub returns-in_err-into_left : goal.returns-in_err-into_left
returns-in_err-into_left g c =
    let err = c.from_residual-in_err-into_left.ensures.0 in
    record { states = IfOk-from_err _ _ err; there = IfOk-from_err _ _ err; owed = IfOk-from_err _ _ err }

pub returns-in_err-push : goal.returns-in_err-push
returns-in_err-push g c =
    let err = c.from_residual-in_err-push.ensures.0 in
    record { states = IfOk-from_err _ _ err; there = IfOk-from_err _ _ err; owed = IfOk-from_err _ _ err }
