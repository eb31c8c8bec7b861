use Rattle.std.proofs.Common.{◌∙◌, refl, sym, ap, subst}
use Rattle.std.specs.Prelude.{not}
use Rattle.rw_blocks.specs.Questions.{IsHeldOfKind}
use Rattle.rw_ripq.proofs.Abandoned.{abandoned-at, gone-not-abandoned, held-not-abandoned}
use Rattle.rw_ripq.proofs.Measures.{sealed-there}
use Rattle.rw_ripq.proofs.sealed.is_abandoned.Goals as goal

pub returns-then-fill-ne0 : goal.returns-then-fill-ne0
returns-then-fill-ne0 c = sym (held-not-abandoned c.args.queue.now c.args.block _ c.requires c.fill.ensures.of_kind c.if-fill-ne0.true)

pub returns-in_default : goal.returns-in_default
returns-in_default c = sym (gone-not-abandoned c.args.queue.now c.args.block (c.in_default.ensures.none refl))

pub sealed_at-kind-requires-clause-there : goal.sealed_at-kind-requires-clause-there
sealed_at-kind-requires-clause-there c = rw c.in-Some.ensures.section ((sealed-there c.args.queue.now c.args.block c.in-Some.ensures.sealed).0)

pub sealed_at-kind-requires-clause-sealed : goal.sealed_at-kind-requires-clause-sealed
sealed_at-kind-requires-clause-sealed c =
    rw (c.in-Some.ensures.section, c.in-Some.ensures.position) ((sealed-there c.args.queue.now c.args.block c.in-Some.ensures.sealed).1)

pub returns : goal.returns
returns c =
    ap not c.is_virtual.ensures
    ∙ abandoned-at c.args.queue.now c.args.block _ _ _ c.requires
    (subst (IsHeldOfKind c.args.queue.now c.args.block) c.if-fill-ne0.false c.fill.ensures.of_kind)
    c.in-Some.ensures.sealed c.in-Some.ensures.section c.in-Some.ensures.position c.sealed_at-kind.ensures
