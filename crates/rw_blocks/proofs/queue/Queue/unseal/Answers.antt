use Rattle.std.proofs.Common.{arith, sym, ap, subst, ◌∙◌, ◌≡◌, ◌<◌, ◌+◌, ◌-◌, ◌^◌, ℕ, List, [], ◌∷◌, length, get_or, set, false, nat_eq, length-set, get_or-set_same}
use Rattle.std.specs.Prelude.{◌||◌, All, IsSomeAnd, slice_get}
use Rattle.std.specs.Map.{values_of}
use Rattle.rw_blocks.specs.declared.Kind.{Kind}
use Rattle.rw_blocks.specs.declared.Mark.TheVariants.{Seal}
use Rattle.rw_blocks.specs.Sections.{SectionState, no_section, active_of, section_in, has_block}
use Rattle.rw_blocks.specs.State.{QueueState}
use Rattle.rw_blocks.specs.Changes.{section_unsealing}
use Rattle.rw_blocks.specs.Undo.{undo_of, IsUndoable}
use Rattle.rw_blocks.specs.Tags.{IsAbsent}
use Rattle.rw_blocks.proofs.Present.{absent-none}
use Rattle.rw_blocks.proofs.Holding.{has_block-unsealing}
use Rattle.rw_blocks.proofs.Parting.{unused}
use Rattle.rw_blocks.proofs.Weighed.{IsWeighed-set}
use Rattle.rw_blocks.proofs.queue.Queue.unseal.Goals as goal

nonempty : (es : List (ℕ × Kind)) (P : ℕ × Kind → Type 0) → IsSomeAnd (slice_get es 0) P → 0 < length es
nonempty [] P h = absurd h
nonempty (e ∷ es) P h = omega arith

pub unseal-requires-clause-gone : goal.unseal-requires-clause-gone
unseal-requires-clause-gone c =
    let q : QueueState = record { shape = c.self.inside.shape; sections = c.self.inside.sections; rows = c.self.inside.rows; next = c.self.inside.next } in
    let i : ℕ = c.args.section in
    let can : IsUndoable (Seal i c.args.kind) q = subst (IsUndoable (Seal i c.args.kind)) (sym c.self.view_is) c.requires in
    let within : i < length q.sections = can.matches.0 in
    let s : SectionState = section_in q.sections i in
    let t : SectionState = section_unsealing c.args.kind s in
    let a : ℕ = active_of c.args.kind s in
    let last : a + 1 ≡ q.next = can.matches.2 in
    let absent : IsAbsent a (set q.sections i t) = absent-none (undo_of (Seal i c.args.kind) q) a (can.before.below a (omega (arith, last))) in
    ap (has_block a) (sym (get_or-set_same q.sections i t no_section within)) ∙ absent i (omega (arith, length-set q.sections i t))

pub invariant_of-self : goal.invariant_of-self
invariant_of-self c =
    let q : QueueState = record { shape = c.self.inside.shape; sections = c.self.inside.sections; rows = c.self.inside.rows; next = c.self.inside.next } in
    let i : ℕ = c.args.section in
    let can : IsUndoable (Seal i c.args.kind) q = subst (IsUndoable (Seal i c.args.kind)) (sym c.self.view_is) c.requires in
    let within : i < length q.sections = can.matches.0 in
    let s : SectionState = section_in q.sections i in
    let t : SectionState = section_unsealing c.args.kind s in
    let a : ℕ = active_of c.args.kind s in
    let last : a + 1 ≡ q.next = can.matches.2 in
    let full : 0 < length s.sealed = nonempty s.sealed _ can.matches.1 in
    let out : All (λ r. nat_eq a r.place ≡ false) (values_of q.rows) = unused (undo_of (Seal i c.args.kind) q) a can.before (can.before.below a (omega (arith, last))) in
    let range = c.self.invariant.0 in
    let smaller : c.self.inside.next - 1 < 2 ^ 64 = omega (arith, range) in (
      smaller,
      λ some. rw c.unseal.ensures
          (IsWeighed-set q.rows q.sections c.self.inside.bytes.items i t (c.self.invariant.1 (omega arith)) within
          (λ k d lt.
          let p : ℕ = (get_or (values_of q.rows) k d).place in
          sym (has_block-unsealing c.args.kind p s full ∙ ap (λ b. b || has_block p t) (out k d lt)))),
    )
