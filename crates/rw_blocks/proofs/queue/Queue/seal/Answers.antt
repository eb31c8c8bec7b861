use Rattle.std.proofs.Common.{arith, sym, ap, subst, ◌≡◌, ◌∙◌, ◌<◌, ◌+◌, ◌^◌, ℕ, length, false, nat_eq, get_or}
use Rattle.std.specs.Prelude.{◌||◌, All}
use Rattle.std.specs.Map.{values_of}
use Rattle.std.proofs.lemmas.Grind.{common_steps}
use Rattle.rw_blocks.specs.Sections.{SectionState, section_in, has_block}
use Rattle.rw_blocks.specs.State.{QueueState}
use Rattle.rw_blocks.specs.Loose.{IsLoose}
use Rattle.rw_blocks.specs.Changes.{section_sealing}
use Rattle.rw_blocks.proofs.Laws.{Undoes-after_seal}
use Rattle.rw_blocks.proofs.Grown.{IsLoose-after_seal}
use Rattle.rw_blocks.proofs.Present.{absent-none}
use Rattle.rw_blocks.proofs.Parting.{unused}
use Rattle.rw_blocks.proofs.Holding.{has_block-sealing}
use Rattle.rw_blocks.proofs.Weighed.{IsWeighed-set}
use Rattle.rw_blocks.proofs.Errors.{if_error, on_error}
use Rattle.rw_blocks.proofs.queue.Queue.seal.Goals as goal

pub seal-requires-clause-fresh : goal.seal-requires-clause-fresh
seal-requires-clause-fresh c =
    let q : QueueState = record { shape = c.self.inside.shape; sections = c.self.inside.sections; rows = c.self.inside.rows; next = c.self.inside.next } in
    let loose : IsLoose q = subst IsLoose (sym c.self.view_is) c.requires.loose in
    absent-none q c.self.inside.next (loose.below c.self.inside.next (omega arith))

pub invariant_of-self-2 : goal.invariant_of-self-2
invariant_of-self-2 c =
    let q : QueueState = record { shape = c.self.inside.shape; sections = c.self.inside.sections; rows = c.self.inside.rows; next = c.self.inside.next } in
    let loose : IsLoose q = subst IsLoose (sym c.self.view_is) c.requires.loose in
    let i : ℕ = c.args.section in
    let there = c.requires.there in
    let within : i < length q.sections = omega (arith, ap (λ (z : QueueState). length z.sections) c.self.view_is) in
    let fresh : c.self.inside.next + 1 < 2 ^ 64 = let f = c.requires.fresh in omega (arith, ap (λ (z : QueueState). z.next) c.self.view_is) in
    let s : SectionState = section_in q.sections i in
    let out : All (λ r. nat_eq q.next r.place ≡ false) (values_of q.rows) = unused q q.next loose (loose.below q.next (omega arith)) in (
      fresh,
      λ some. rw c.in_ok-seal.ensures.sealed
          (IsWeighed-set q.rows q.sections c.self.inside.bytes.items i (section_sealing c.args.kind q.next s) (c.self.invariant.1 (omega arith)) within
          (λ k d lt.
          let p : ℕ = (get_or (values_of q.rows) k d).place in
          has_block-sealing c.args.kind q.next p s ∙ ap (λ b. b || has_block p s) (out k d lt))),
    )

pub returns-clause-effect : goal.returns-clause-effect
returns-clause-effect c = grind (arith, common_steps)

pub returns-clause-undoes : goal.returns-clause-undoes
returns-clause-undoes c =
    rw (returns-clause-effect c)
    (Undoes-after_seal _ _ _ c.requires.loose c.requires.there
    (IsLoose-after_seal _ _ _ c.requires.loose c.requires.there))

pub returns-clause-kept : goal.returns-clause-kept
returns-clause-kept c = rw (returns-clause-effect c) (IsLoose-after_seal _ _ _ c.requires.loose c.requires.there)

pub returns-in_err-seal-clause-effect : goal.returns-in_err-seal-clause-effect
returns-in_err-seal-clause-effect c = on_error _ _ c.from_residual.result c.from_residual.ensures.1

pub returns-in_err-seal-clause-undoes : goal.returns-in_err-seal-clause-undoes
returns-in_err-seal-clause-undoes c = if_error _ _ c.from_residual.result c.from_residual.ensures.1

pub returns-in_err-seal-clause-kept : goal.returns-in_err-seal-clause-kept
returns-in_err-seal-clause-kept c = on_error _ _ c.from_residual.result c.from_residual.ensures.1
