use Rattle.std.proofs.Common.{◌≡◌, ◌<◌, ◌≤◌, ◌++◌, ◌∷◌, [], length, sym, ap, ◌∙◌, subst, arith, append-nil, append_assoc, length-append}
use Rattle.std.specs.Option.{option_to_list}
use Rattle.rw_lp.specs.Limits.{longest_run}
use Rattle.rw_lp.specs.Runs.{AreFilled, values_of}
use Rattle.rw_lp.proofs.Filled.{filled_last, pop_is, values_push}
use Rattle.std.proofs.lemmas.List.{nil_from_length}
use Rattle.rw_lp.proofs.runs.Runs.pop.Goals as goal

pub invariant_of-self-2 : goal.invariant_of-self-2
invariant_of-self-2 g c =
    let last = filled_last c.pop_back.new.self.items c.in_ok-self-inside.field-0 (subst AreFilled c.in_ok-self-inside.ensures.items c.self.invariant.older_filled) in
    let all : length c.in_ok-self-inside.field-0.items ≡ length (c.pop-2.new.self.items ++ option_to_list c.pop-2.result) = ap length c.pop-2.ensures.items in
    let both = length-append c.pop-2.new.self.items (option_to_list c.pop-2.result) in
    let most : length c.in_ok-self-inside.field-0.items ≤ longest_run = last.2 in
    record { older_filled = last.0; last_within = omega (arith, all, both, most) }

pub returns : goal.returns
returns g c =
    let older = c.self.inside.older.items in
    let run = c.in_ok-self-inside.field-0 in
    let last = filled_last c.pop_back.new.self.items run (subst AreFilled c.in_ok-self-inside.ensures.items c.self.invariant.older_filled) in
    let none : c.self.inside.last.items ≡ [] = nil_from_length c.self.inside.last.items (omega (arith, c.self.inside.last.ok, c.in_default.ensures.cases.0)) in
    let joined : c.args.self.now ≡ values_of c.pop_back.new.self.items ++ run.items =
    sym c.self.view_is ∙ ap (λ l. values_of older ++ l) none ∙ append-nil (values_of older) ∙ ap values_of c.in_ok-self-inside.ensures.items ∙ values_push c.pop_back.new.self.items run in
    let some : 0 < length run.items = last.1 in
    pop_is c.pop-2.result c.pop-2.new.self.len run.len run.items c.pop-2.new.self.items (values_of c.pop_back.new.self.items) c.args.self.now c.pop-2.ensures.cases (omega (arith, some, run.ok)) c.pop-2.ensures.items joined

pub returns-in-Some : goal.returns-in-Some
returns-in-Some g c =
    let older = values_of c.self.inside.older.items in
    sym c.self.view_is ∙ ap (λ l. older ++ l) c.in-Some.ensures.items ∙ sym (append_assoc older c.pop.new.self.items (c.in-Some.value ∷ []))
