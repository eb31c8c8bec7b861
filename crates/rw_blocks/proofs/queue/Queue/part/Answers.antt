use Rattle.std.proofs.Common.{arith, sym, ap, subst, ◌≡◌, ◌∙◌, ◌<◌, ◌≤◌, ◌+◌, ◌-◌, ℕ, List, length, get_or, set}
use Rattle.std.specs.Prelude.{insert}
use Rattle.std.proofs.lemmas.List.{get_or_default}
use Rattle.std.proofs.lemmas.List.Edits.{get_or-insert_below}
use Rattle.rw_blocks.specs.declared.Seam.{Seam}
use Rattle.rw_blocks.specs.Sections.{SectionState, section_in}
use Rattle.rw_blocks.specs.State.{QueueState}
use Rattle.rw_blocks.specs.Loose.{IsLoose}
use Rattle.rw_blocks.specs.Changes.{upper_of, lower_of, parted_at}
use Rattle.rw_blocks.specs.Undo.{IsJoined}
use Rattle.rw_blocks.specs.Tags.{Parts, ComesFrom}
use Rattle.rw_blocks.specs.Weights.{IsWeighed, CanHave, weight_from, weight_in}
use Rattle.rw_blocks.proofs.Parting.{parts-at, from-at, weight-parted, weight-lower, IsWeighed-part}
use Rattle.rw_blocks.proofs.Errors.{on_error}
use Rattle.rw_blocks.proofs.queue.Queue.part.Goals as goal

pub part-requires-clause-parts : goal.part-requires-clause-parts
part-requires-clause-parts c =
    let i : ℕ = c.args.section in
    let seam : Seam = c.args.seam in
    subst (λ (z : QueueState). Parts (section_in z.sections i) (upper_of seam.upper_sealed (section_in z.sections i)) (lower_of seam (section_in z.sections i))) (sym c.self.view_is)
    (parts-at c.args.self.now i seam c.requires.after.0 c.requires.loose c.requires.there c.requires.after.1 c.requires.within c.requires.joins)

pub part-requires-clause-from : goal.part-requires-clause-from
part-requires-clause-from c =
    let i : ℕ = c.args.section in
    let seam : Seam = c.args.seam in
    subst (λ (z : QueueState). ComesFrom (lower_of seam (section_in z.sections i)) (section_in z.sections i) z.sections) (sym c.self.view_is)
    (from-at c.args.self.now i seam c.requires.after.0 c.requires.loose c.requires.there c.requires.after.1 c.requires.within c.requires.joins)

-- the bytes that the lower section takes are the upper one's no more
weighs : (q : QueueState) (i : ℕ) (seam : Seam) (bs zs : List ℕ) (x r : ℕ) → IsLoose q → i < length q.sections → seam.upper_sealed ≤ length (section_in q.sections i).sealed
    → IsJoined seam (section_in q.sections i)
    → CanHave q (parted_at q.sections i seam)
    → (0 < length q.sections → IsWeighed q.rows q.sections bs)
    → x ≡ weight_from q i seam.upper_sealed
    → zs ≡ insert bs (i + 1) x
    → r ≡ get_or zs i r
    → (x ≤ r) × IsWeighed q.rows (parted_at q.sections i seam) (set zs i (r - x))
weighs q i seam bs zs x r loose lt within joins after weighed taken items read =
    let u : SectionState = upper_of seam.upper_sealed (section_in q.sections i) in
    let l : SectionState = lower_of seam (section_in q.sections i) in
    let old : IsWeighed q.rows q.sections bs = weighed (omega arith) in
    let long : length bs ≡ length q.sections = old.long in
    let was : r ≡ get_or bs i 0 =
    read ∙ (ap (λ ys. get_or ys i r) items ∙ (get_or-insert_below bs (i + 1) x r i (omega arith) (omega arith) ∙ get_or_default bs i r 0 (omega arith))) in
    let each : get_or bs i 0 ≡ weight_in q.rows (section_in q.sections i) = old.each i lt in
    let sum : weight_in q.rows (section_in q.sections i) ≡ weight_in q.rows u + weight_in q.rows l = weight-parted q i seam after.0 loose lt after.1 within joins in
    let lower : x ≡ weight_in q.rows l = taken ∙ weight-lower q i seam after.0 loose lt after.1 within joins in
    (omega (arith, was, each, sum, lower), rw items (IsWeighed-part q.rows q.sections bs i x (r - x) u l old lt (omega (arith, was, each, sum, lower)) lower))

pub overflow_sub-index_mut : goal.overflow_sub-index_mut
overflow_sub-index_mut c =
    let bs : List ℕ = c.self.inside.bytes.items in
    (weighs c.args.self.now c.args.section c.args.seam bs c.insert.new.self.items c.weight_from-lower.result c.index_mut.result.now
    c.requires.loose c.requires.there c.requires.within c.requires.joins c.requires.after
    (subst (λ (z : QueueState). 0 < length z.sections → IsWeighed z.rows z.sections bs) c.self.view_is c.self.invariant.1)
    c.weight_from-lower.ensures c.in_ok-insert.ensures.items c.index_mut.ensures.value).0

pub invariant_of-self-2 : goal.invariant_of-self-2
invariant_of-self-2 c =
    let bs : List ℕ = c.self.inside.bytes.items in
    let left : ℕ = c.index_mut.result.now - c.weight_from-lower.result in
    let new =
    (weighs c.args.self.now c.args.section c.args.seam bs c.insert.new.self.items c.weight_from-lower.result c.index_mut.result.now
    c.requires.loose c.requires.there c.requires.within c.requires.joins c.requires.after
    (subst (λ (z : QueueState). 0 < length z.sections → IsWeighed z.rows z.sections bs) c.self.view_is c.self.invariant.1)
    c.weight_from-lower.ensures c.in_ok-insert.ensures.items c.index_mut.ensures.value).1 in (
      c.self.invariant.0,
      λ some. rw c.in_ok-part.ensures.parted
          (subst (λ (z : QueueState). IsWeighed z.rows (parted_at z.sections c.args.section c.args.seam) (set c.insert.new.self.items c.args.section left)) (sym c.self.view_is) new),
    )

pub returns-in_err-insert : goal.returns-in_err-insert
returns-in_err-insert c = record { parted = on_error _ _ c.from_residual.result c.from_residual.ensures.1 }

pub returns-in_err-part : goal.returns-in_err-part
returns-in_err-part c = record { parted = on_error _ _ c.from_residual-in_err-part.result c.from_residual-in_err-part.ensures.1 }

pub weight_from-lower-requires-clause-loose : goal.weight_from-lower-requires-clause-loose
weight_from-lower-requires-clause-loose c = c.requires.loose

pub weight_from-lower-requires-clause-there : goal.weight_from-lower-requires-clause-there
weight_from-lower-requires-clause-there c = c.requires.there

pub weight_from-lower-requires-clause-within : goal.weight_from-lower-requires-clause-within
weight_from-lower-requires-clause-within c = c.requires.within

pub part-requires-clause-there : goal.part-requires-clause-there
part-requires-clause-there c = subst (λ (z : QueueState). c.args.section < length z.sections) (sym c.self.view_is) c.requires.there

pub part-requires-clause-within : goal.part-requires-clause-within
part-requires-clause-within c = subst (λ (z : QueueState). c.args.seam.upper_sealed ≤ length (section_in z.sections c.args.section).sealed) (sym c.self.view_is) c.requires.within
