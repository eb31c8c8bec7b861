use Rattle.std.proofs.Common.{arith, sym, ap, subst, ◌∙◌, ◌≡◌, ◌<◌, ℕ, length, get_or, false, nat_eq}
use Rattle.std.specs.Prelude.{insert, ◌||◌, All}
use Rattle.std.specs.Map.{values_of}
use Rattle.rw_blocks.specs.declared.Mark.TheVariants.{TakeOut}
use Rattle.rw_blocks.specs.Sections.{SectionState, section_in, has_block}
use Rattle.rw_blocks.specs.State.{QueueState}
use Rattle.rw_blocks.specs.Undo.{IsUndoable}
use Rattle.rw_blocks.proofs.Present.{absent-none}
use Rattle.rw_blocks.proofs.Holding.{has_block-insert}
use Rattle.rw_blocks.proofs.Parting.{put-none, unused}
use Rattle.rw_blocks.proofs.Weighed.{IsWeighed-set}
use Rattle.rw_blocks.proofs.queue.Queue.put_back.Goals as goal

pub put_back-requires-clause-absent : goal.put_back-requires-clause-absent
put_back-requires-clause-absent c =
    let q : QueueState = record { shape = c.self.inside.shape; sections = c.self.inside.sections; rows = c.self.inside.rows; next = c.self.inside.next } in
    let can : IsUndoable (TakeOut c.args.section c.args.position c.args.serial c.args.kind) q = subst (IsUndoable (TakeOut c.args.section c.args.position c.args.serial c.args.kind)) (sym c.self.view_is) c.requires in
    absent-none q c.args.serial (put-none q c.args.section c.args.position c.args.serial c.args.kind can.before can.matches.0)

pub invariant_of-self-2 : goal.invariant_of-self-2
invariant_of-self-2 c =
    let q : QueueState = record { shape = c.self.inside.shape; sections = c.self.inside.sections; rows = c.self.inside.rows; next = c.self.inside.next } in
    let i : ℕ = c.args.section in
    let can : IsUndoable (TakeOut i c.args.position c.args.serial c.args.kind) q = subst (IsUndoable (TakeOut i c.args.position c.args.serial c.args.kind)) (sym c.self.view_is) c.requires in
    let within : i < length q.sections = can.matches.0 in
    let s : SectionState = section_in q.sections i in
    let out : All (λ r. nat_eq c.args.serial r.place ≡ false) (values_of q.rows) = unused q c.args.serial can.loose (put-none q i c.args.position c.args.serial c.args.kind can.before within) in (
      c.self.invariant.0,
      λ some. rw c.in_ok-put_back.ensures.put
          (IsWeighed-set q.rows q.sections c.self.inside.bytes.items i (record s { sealed = insert s.sealed c.args.position (c.args.serial, c.args.kind) }) (c.self.invariant.1 (omega arith)) within
          (λ k d lt.
          let p : ℕ = (get_or (values_of q.rows) k d).place in
          has_block-insert p s c.args.position (c.args.serial, c.args.kind) ∙ ap (λ b. b || has_block p s) (out k d lt))),
    )
