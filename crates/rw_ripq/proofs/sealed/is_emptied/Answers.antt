use Rattle.std.proofs.Common.{◌∙◌, refl, sym}
use Rattle.rw_ripq.proofs.Measures.{sealed-there}
use Rattle.rw_ripq.proofs.Emptied.{gone-not-emptied, emptied-at, placed-not-emptied}
use Rattle.rw_ripq.proofs.sealed.is_emptied.Goals as goal

pub returns-in_default : goal.returns-in_default
returns-in_default c = sym (gone-not-emptied c.args.queue.now c.args.block (c.in_default.ensures.none refl))

pub sealed_at-kind-requires-clause-there : goal.sealed_at-kind-requires-clause-there
sealed_at-kind-requires-clause-there c = rw c.in-Some.ensures.section ((sealed-there c.args.queue.now c.args.block c.in-Some.ensures.sealed).0)

pub sealed_at-kind-requires-clause-sealed : goal.sealed_at-kind-requires-clause-sealed
sealed_at-kind-requires-clause-sealed c =
    rw (c.in-Some.ensures.section, c.in-Some.ensures.position) ((sealed-there c.args.queue.now c.args.block c.in-Some.ensures.sealed).1)

pub returns : goal.returns
returns c =
    c.is_virtual.ensures
    ∙ emptied-at c.args.queue.now c.args.block _ _ _ c.requires (sym c.is_placed.ensures ∙ c.if-is_placed.false) c.in-Some.ensures.sealed c.in-Some.ensures.section c.in-Some.ensures.position c.sealed_at-kind.ensures

pub returns-then-is_placed : goal.returns-then-is_placed
returns-then-is_placed c = placed-not-emptied c.args.queue.now c.args.block (sym c.is_placed.ensures ∙ c.if-is_placed.true)
