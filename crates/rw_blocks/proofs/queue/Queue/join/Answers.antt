use Rattle.std.proofs.Common.{arith, sym, ap, subst, ◌≡◌, ◌∙◌, ◌<◌, ◌≤◌, ◌+◌, ◌^◌, ℕ, List, length, get_or, set}
use Rattle.std.specs.Prelude.{remove}
use Rattle.std.specs.Map.{values_of}
use Rattle.std.proofs.lemmas.List.{get_or_default}
use Rattle.std.proofs.lemmas.List.Edits.{length-remove, get_or-remove_below}
use Rattle.rw_blocks.specs.declared.Vanished.{Vanished}
use Rattle.rw_blocks.specs.Sections.{SectionState, section_in, has_block}
use Rattle.rw_blocks.specs.State.{QueueState}
use Rattle.rw_blocks.specs.Rows.{size_of}
use Rattle.rw_blocks.specs.Loose.{IsLoose}
use Rattle.rw_blocks.specs.Changes.{section_joining, joined_at}
use Rattle.rw_blocks.specs.Tags.{JoinsNext}
use Rattle.rw_blocks.specs.Weights.{IsWeighed, CanHave, weight_in}
use Rattle.rw_blocks.proofs.Weighed.{bytes_where-le}
use Rattle.rw_blocks.proofs.Parting.{joins-at, weight-joined, IsWeighed-join}
use Rattle.rw_blocks.proofs.queue.Queue.join.Goals as goal

pub join-requires-clause-joins : goal.join-requires-clause-joins
join-requires-clause-joins c =
    subst (λ (z : QueueState). JoinsNext z.sections c.args.section c.args.vanished) (sym c.self.view_is)
    (joins-at c.args.self.now c.args.section c.args.vanished c.requires.after.0 c.requires.loose c.requires.there c.requires.after.1)

-- the bytes of the lower section become the upper one's
weighs : (q : QueueState) (i : ℕ) (v : Vanished) (bs zs : List ℕ) (x r : ℕ) → IsLoose q → i + 1 < length q.sections → CanHave q (joined_at q.sections i v)
    → (0 < length q.sections → IsWeighed q.rows q.sections bs)
    → x ≡ get_or bs (i + 1) x
    → zs ≡ remove bs (i + 1)
    → r ≡ get_or zs i r
    → (r + x < 2 ^ 64) × IsWeighed q.rows (joined_at q.sections i v) (set zs i (r + x))
weighs q i v bs zs x r loose lt after weighed taken items read =
    let u : SectionState = section_in q.sections i in
    let l : SectionState = section_in q.sections (i + 1) in
    let s : SectionState = section_joining v u l in
    let old : IsWeighed q.rows q.sections bs = weighed (omega arith) in
    let long : length bs ≡ length q.sections = old.long in
    let less : length (remove bs (i + 1)) + 1 ≡ length bs = length-remove bs (i + 1) (omega arith) in
    let lower : x ≡ get_or bs (i + 1) 0 = taken ∙ get_or_default bs (i + 1) x 0 (omega arith) in
    let upper : r ≡ get_or bs i 0 =
    read ∙ (ap (λ ys. get_or ys i r) items ∙ (get_or-remove_below bs (i + 1) r i (omega arith) (omega arith) ∙ get_or_default bs i r 0 (omega arith))) in
    let of_upper : get_or bs i 0 ≡ weight_in q.rows u = old.each i (omega arith) in
    let of_lower : get_or bs (i + 1) 0 ≡ weight_in q.rows l = old.each (i + 1) lt in
    let sum : weight_in q.rows s ≡ weight_in q.rows u + weight_in q.rows l = weight-joined q i v after.0 loose lt after.1 in
    let le : weight_in q.rows s ≤ size_of (values_of q.rows) = bytes_where-le q.rows (λ b. has_block b s) in
    let few : size_of (values_of q.rows) ≤ 2 ^ 48 = loose.within in
    (omega (arith, upper, lower, of_upper, of_lower, sum, le, few), rw items (IsWeighed-join q.rows q.sections bs i (r + x) s old lt (omega (arith, upper, lower, of_upper, of_lower, sum))))

pub overflow_add-index_mut : goal.overflow_add-index_mut
overflow_add-index_mut c =
    let bs : List ℕ = c.self.inside.bytes.items in
    let fits =
    (weighs c.args.self.now c.args.section c.args.vanished bs c.remove-lower.new.self.items c.remove-lower.result c.index_mut.result.now c.requires.loose c.requires.there c.requires.after
    (subst (λ (z : QueueState). 0 < length z.sections → IsWeighed z.rows z.sections bs) c.self.view_is c.self.invariant.1)
    c.remove-lower.ensures.value c.remove-lower.ensures.items c.index_mut.ensures.value).0 in
    omega (arith, fits)

pub invariant_of-self-2 : goal.invariant_of-self-2
invariant_of-self-2 c =
    let bs : List ℕ = c.self.inside.bytes.items in
    let sum : ℕ = c.index_mut.result.now + c.remove-lower.result in
    let new =
    (weighs c.args.self.now c.args.section c.args.vanished bs c.remove-lower.new.self.items c.remove-lower.result c.index_mut.result.now c.requires.loose c.requires.there c.requires.after
    (subst (λ (z : QueueState). 0 < length z.sections → IsWeighed z.rows z.sections bs) c.self.view_is c.self.invariant.1)
    c.remove-lower.ensures.value c.remove-lower.ensures.items c.index_mut.ensures.value).1 in (
      c.self.invariant.0,
      λ some. rw c.in_ok-join.ensures.joined
          (subst (λ (z : QueueState). IsWeighed z.rows (joined_at z.sections c.args.section c.args.vanished) (set c.remove-lower.new.self.items c.args.section sum)) (sym c.self.view_is) new),
    )
