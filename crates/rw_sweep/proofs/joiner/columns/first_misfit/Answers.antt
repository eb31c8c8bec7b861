use Rattle.std.proofs.Common.{◌∙◌, arith, eqb, length-append, rules, sym, tests, ◌∷◌, []}
use Rattle.std.proofs.lemmas.Bool.{false≢true}
use Rattle.std.proofs.lemmas.Iterator.Consumers.{YieldsList-at}
use Rattle.std.proofs.lemmas.Iterator.Splits.{YieldsList-from_slice_split}
use Rattle.rw_sweep.proofs.Fields.{column-more, end-of, misfit-found, row-read, turn-of}
use Rattle.rw_sweep.proofs.joiner.columns.first_misfit.Goals as goal

pub returns-then-not-is_of_column : goal.returns-then-not-is_of_column
returns-then-not-is_of_column c =
    let turn = turn-of c.loop-field.yielded _ c.loop-field.yielded_by _ _ c.in-Some.field c.in-Some.is c.next.ensures.steps
    (YieldsList-at c.into_iter-field-iterator.ensures.into_iter_gives (YieldsList-from_slice_split _ (λ b. eqb b 44) c.args.body.now c.split-field-items.ensures.rest c.split-field-items.ensures.done c.split-field-items.ensures.closure (λ x b q k. search (rules, tests)))) in
    misfit-found c.args.body.now c.in-Some.field.now c.loop-field.column _ c.requires c.loop-field.invariant.many turn.0 turn.1 c.loop-field.invariant.before
    (λ h. false≢true (sym c.if-not-is_of_column.true ∙ c.is_of_column.ensures.1 h))

pub loop-field-preserved : goal.loop-field-preserved
loop-field-preserved c =
    let turn = turn-of c.loop-field.yielded _ c.loop-field.yielded_by _ _ c.in-Some.field c.in-Some.is c.next.ensures.steps
    (YieldsList-at c.into_iter-field-iterator.ensures.into_iter_gives (YieldsList-from_slice_split _ (λ b. eqb b 44) c.args.body.now c.split-field-items.ensures.rest c.split-field-items.ensures.done c.split-field-items.ensures.closure (λ x b q k. search (rules, tests)))) in
    let was = c.loop-field.invariant.many in
    record {
      many = omega (arith, was, length-append c.loop-field.yielded (c.in-Some.field ∷ []));
      before = column-more c.args.body.now c.in-Some.field.now c.loop-field.column _ was turn.0 turn.1 c.loop-field.invariant.before (c.is_of_column.ensures.0 c.if-not-is_of_column.false);
    }

pub returns : goal.returns
returns c =
    let end = end-of c.loop-field.yielded _ c.loop-field.yielded_by _ _ c.in-None.is c.next.ensures.steps
    (YieldsList-at c.into_iter-field-iterator.ensures.into_iter_gives (YieldsList-from_slice_split _ (λ b. eqb b 44) c.args.body.now c.split-field-items.ensures.rest c.split-field-items.ensures.done c.split-field-items.ensures.closure (λ x b q k. search (rules, tests)))) in
    row-read c.args.body.now c.loop-field.column _ c.requires c.loop-field.invariant.many end c.loop-field.invariant.before
