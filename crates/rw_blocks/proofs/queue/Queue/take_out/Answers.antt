use Rattle.std.proofs.Common.{arith, sym, ap, subst, ◌∙◌, ◌≡◌, ◌<◌, ℕ, length, get_or, false, nat_eq}
use Rattle.std.specs.Prelude.{Some, slice_get, remove, ◌||◌}
use Rattle.std.specs.Map.{values_of}
use Rattle.std.proofs.lemmas.Bool.{ne_eqb}
use Rattle.std.proofs.lemmas.Grind.{common_steps}
use Rattle.rw_blocks.specs.declared.Kind.{Kind}
use Rattle.rw_blocks.specs.declared.Kind.TheVariants.{Device}
use Rattle.rw_blocks.specs.Sections.{SectionState, section_in, has_block}
use Rattle.rw_blocks.specs.State.{QueueState, section_at}
use Rattle.rw_blocks.specs.Loose.{IsLoose, IsFree}
use Rattle.rw_blocks.proofs.Laws.{Undoes-after_take_out}
use Rattle.rw_blocks.proofs.Moved.{IsLoose-after_take_out}
use Rattle.rw_blocks.proofs.Holding.{has_block-remove}
use Rattle.rw_blocks.proofs.Parting.{taken-once}
use Rattle.rw_blocks.proofs.Weighed.{IsWeighed-set}
use Rattle.rw_blocks.proofs.queue.Queue.take_out.Goals as goal

pub take_out-serial-requires-clause-once : goal.take_out-serial-requires-clause-once
take_out-serial-requires-clause-once c =
    let q : QueueState = record { shape = c.self.inside.shape; sections = c.self.inside.sections; rows = c.self.inside.rows; next = c.self.inside.next } in
    let loose : IsLoose q = subst IsLoose (sym c.self.view_is) c.requires.loose in
    let there = c.requires.there in
    let within : c.args.section < length q.sections = omega (arith, ap (λ (z : QueueState). length z.sections) c.self.view_is) in
    let inside : c.args.position < length (section_in q.sections c.args.section).sealed = subst (λ (z : QueueState). c.args.position < length (section_in z.sections c.args.section).sealed) (sym c.self.view_is) c.requires.sealed in
    taken-once q c.args.section c.args.position loose within inside

pub invariant_of-self : goal.invariant_of-self
invariant_of-self c =
    let q : QueueState = record { shape = c.self.inside.shape; sections = c.self.inside.sections; rows = c.self.inside.rows; next = c.self.inside.next } in
    let i : ℕ = c.args.section in
    let p : ℕ = c.args.position in
    let there = c.requires.there in
    let within : i < length q.sections = omega (arith, ap (λ (z : QueueState). length z.sections) c.self.view_is) in
    let s : SectionState = section_in q.sections i in
    let inside : p < length s.sealed = subst (λ (z : QueueState). p < length (section_in z.sections i).sealed) (sym c.self.view_is) c.requires.sealed in
    let e : ℕ × Kind = get_or s.sealed p (0, Device) in
    let free : IsFree q e.0 = subst (λ (z : QueueState). IsFree z (get_or (section_in z.sections i).sealed p (0, Device)).0) (sym c.self.view_is) c.requires.free in (
      c.self.invariant.0,
      λ some. rw c.take_out-serial.ensures.rest
          (IsWeighed-set q.rows q.sections c.self.inside.bytes.items i (record s { sealed = remove s.sealed p }) (c.self.invariant.1 (omega arith)) within
          (λ k d lt.
          let x : ℕ = (get_or (values_of q.rows) k d).place in
          let other : nat_eq e.0 x ≡ false = ne_eqb e.0 x (λ same. (free k d lt).1 (sym same)) in
          sym (has_block-remove x s p (0, Device) inside ∙ ap (λ b. b || has_block x (record s { sealed = remove s.sealed p })) other))),
    )

pub returns-clause-effect : goal.returns-clause-effect
returns-clause-effect c = grind (arith, common_steps)

pub returns-clause-undoes : goal.returns-clause-undoes
returns-clause-undoes c =
    let block : slice_get (section_at c.args.self.now c.args.section).sealed c.args.position ≡ Some c.take_out-serial.result =
    ap (λ (z : QueueState). slice_get (section_at z c.args.section).sealed c.args.position) (sym c.self.view_is) ∙ c.take_out-serial.ensures.block in
    rw (returns-clause-effect c)
    (Undoes-after_take_out _ _ _ _ _ c.requires.loose c.requires.there c.requires.sealed block
    (IsLoose-after_take_out _ _ _ c.requires.loose c.requires.there c.requires.sealed c.requires.free))

pub returns-clause-kept : goal.returns-clause-kept
returns-clause-kept c = rw (returns-clause-effect c) (IsLoose-after_take_out _ _ _ c.requires.loose c.requires.there c.requires.sealed c.requires.free)
