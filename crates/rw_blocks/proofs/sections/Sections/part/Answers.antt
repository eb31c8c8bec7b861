use Rattle.std.proofs.Common.{arith, sym, ap, subst, ◌∙◌, ◌≡◌, ◌<◌, ◌≤◌, ◌+◌, ℕ, List, false, cond, length, get_or, set, nat_eq}
use Rattle.std.specs.Prelude.{Some, insert}
use Rattle.std.specs.List.{list_any}
use Rattle.std.specs.HashMap.{get}
use Rattle.std.proofs.lemmas.Grind.{common_steps}
use Rattle.std.proofs.lemmas.List.{get_or_default}
use Rattle.rw_blocks.specs.Sections.{SectionState, no_section, section_in, has_block}
use Rattle.rw_blocks.specs.Changes.{lower_of, parted_at, upper_of}
use Rattle.rw_blocks.specs.Tags.{IsTagged, Parts, ComesFrom}
use Rattle.rw_blocks.proofs.Tagged.{IsTagged-nothing, IsTagged-part}
use Rattle.rw_blocks.proofs.Errors.{of_error, on_error}
use Rattle.rw_blocks.proofs.sections.Sections.part.Goals as goal

pub index_mut-requires : goal.index_mut-requires
index_mut-requires c = let there = c.requires.there in omega (arith, ap length (ap (λ v. v.items) c.replace-list.ensures.value ∙ c.self.view_is))

pub part-requires : goal.part-requires
part-requires c =
    let ss = c.args.self.now in
    let here : c.index_mut.result.now ≡ section_in ss c.args.section = grind (arith, common_steps, get_or_default {X = SectionState}) in
    subst (λ s. c.args.seam.upper_sealed ≤ length s.sealed) (sym here) c.requires.within

pub invariant_of-self : goal.invariant_of-self
invariant_of-self c = λ some. IsTagged-nothing _ _ _ (ap (λ v. v.items) c.replace-list.ensures.after ∙ c.new.ensures.items) some

pub returns-in_err-lower-clause-parted : goal.returns-in_err-lower-clause-parted
returns-in_err-lower-clause-parted c = on_error _ _ c.from_residual.result c.from_residual.ensures.1

pub returns-in_err-lower-clause-refused : goal.returns-in_err-lower-clause-refused
returns-in_err-lower-clause-refused c = of_error _ c.from_residual.result (ap (λ v. v.items) c.replace-list.ensures.after ∙ c.new.ensures.items)

pub invariant_of-self-in_err-tag_all : goal.invariant_of-self-in_err-tag_all
invariant_of-self-in_err-tag_all c = λ some. IsTagged-nothing _ _ _ (ap (λ v. v.items) c.replace-list.ensures.after ∙ c.new.ensures.items) some

pub returns-in_err-tag_all-clause-parted : goal.returns-in_err-tag_all-clause-parted
returns-in_err-tag_all-clause-parted c = on_error _ _ c.from_residual-in_err-tag_all.result c.from_residual-in_err-tag_all.ensures.1

pub returns-in_err-tag_all-clause-refused : goal.returns-in_err-tag_all-clause-refused
returns-in_err-tag_all-clause-refused c = of_error _ c.from_residual-in_err-tag_all.result (ap (λ v. v.items) c.replace-list.ensures.after ∙ c.new.ensures.items)

pub invariant_of-self-in_err-insert : goal.invariant_of-self-in_err-insert
invariant_of-self-in_err-insert c = λ some. IsTagged-nothing _ _ _ (ap (λ v. v.items) c.replace-list.ensures.after ∙ c.new.ensures.items) some

pub returns-in_err-insert-clause-parted : goal.returns-in_err-insert-clause-parted
returns-in_err-insert-clause-parted c = on_error _ _ c.from_residual-in_err-insert.result c.from_residual-in_err-insert.ensures.1

pub returns-in_err-insert-clause-refused : goal.returns-in_err-insert-clause-refused
returns-in_err-insert-clause-refused c = of_error _ c.from_residual-in_err-insert.result (ap (λ v. v.items) c.replace-list.ensures.after ∙ c.new.ensures.items)

pub invariant_of-self-in_err-insert-2 : goal.invariant_of-self-in_err-insert-2
invariant_of-self-in_err-insert-2 c = λ some. IsTagged-nothing _ _ _ (ap (λ v. v.items) c.replace-list.ensures.after ∙ c.new.ensures.items) some

pub returns-in_err-insert-2-clause-parted : goal.returns-in_err-insert-2-clause-parted
returns-in_err-insert-2-clause-parted c = on_error _ _ c.from_residual-in_err-insert-2.result c.from_residual-in_err-insert-2.ensures.1

pub returns-in_err-insert-2-clause-refused : goal.returns-in_err-insert-2-clause-refused
returns-in_err-insert-2-clause-refused c = of_error _ c.from_residual-in_err-insert-2.result (ap (λ v. v.items) c.replace-list.ensures.after ∙ c.new.ensures.items)

-- the section that is parted, and the list with both parts
here : (c : goal.After-drop-self-inside) → c.index_mut.result.now ≡ section_in c.self.inside.list.items c.args.section
here c =
    let ss = c.self.inside.list.items in
    let within : c.args.section < length ss = let there = c.requires.there in omega (arith, ap length c.self.view_is) in
    c.index_mut.ensures.value
    ∙ (ap (λ v. get_or v.items c.args.section c.index_mut.result.now) c.replace-list.ensures.value ∙ get_or_default ss c.args.section c.index_mut.result.now no_section within)

listed : (c : goal.After-drop-self-inside) → c.insert.new.self.items ≡ parted_at c.self.inside.list.items c.args.section c.args.seam
listed c =
    let ss = c.self.inside.list.items in
    let i : ℕ = c.args.section in
    let s : SectionState = section_in ss i in
    let lower : SectionState = c.in_ok-lower.lower in
    c.in_ok-insert.ensures.items
    ∙ (ap (λ v. insert (set v.items i c.part.new.self) (i + 1) lower) c.replace-list.ensures.value
    ∙ (ap (λ z. insert (set ss i z) (i + 1) lower) (c.in_ok-lower.ensures.upper ∙ ap (upper_of c.args.seam.upper_sealed) (here c))
    ∙ ap (λ z. insert (set ss i (upper_of c.args.seam.upper_sealed s)) (i + 1) z) (c.in_ok-lower.ensures.lower ∙ ap (lower_of c.args.seam) (here c))))

pub returns-clause-parted : goal.returns-clause-parted
returns-clause-parted c = listed c ∙ ap (λ zs. parted_at zs c.args.section c.args.seam) c.self.view_is

pub invariant_of-self-2 : goal.invariant_of-self-2
invariant_of-self-2 c = λ some.
    let ss : List SectionState = c.self.inside.list.items in
    let tags : List ℕ = c.self.inside.tags.items in
    let i : ℕ = c.args.section in
    let view : ss ≡ c.args.self.now = c.self.view_is in
    let within : i < length ss = let there = c.requires.there in omega (arith, ap (λ (zs : List SectionState). length zs) view) in
    let t : IsTagged ss tags (λ b. get nat_eq c.self.inside.owners.tags b) = c.self.invariant (omega arith) in
    let s : SectionState = section_in ss i in
    let u : SectionState = upper_of c.args.seam.upper_sealed s in
    let l : SectionState = lower_of c.args.seam s in
    let below : c.in_ok-lower.lower ≡ l = c.in_ok-lower.ensures.lower ∙ ap (lower_of c.args.seam) (here c) in
    let list : c.insert.new.self.items ≡ insert (set ss i u) (i + 1) l = listed c in
    let new-tags : c.insert-2.new.self.items ≡ insert tags (i + 1) c.free_tag-tag.result = c.in_ok-insert-2.ensures.items in
    let parts : Parts s u l =
    subst (λ (zs : List SectionState). Parts (section_in zs i) (upper_of c.args.seam.upper_sealed (section_in zs i)) (lower_of c.args.seam (section_in zs i))) (sym view) c.requires.parts in
    let from : ComesFrom l s ss =
    subst (λ (zs : List SectionState). ComesFrom (lower_of c.args.seam (section_in zs i)) (section_in zs i) zs) (sym view) c.requires.from in
    let fresh : list_any (nat_eq c.free_tag-tag.result) tags ≡ false = subst (λ ts. list_any (nat_eq c.free_tag-tag.result) ts ≡ false) c.deref.ensures.value c.free_tag-tag.ensures in
    let owner : (b : ℕ) → get nat_eq c.tag_all.new.owners.tags b ≡ cond (has_block b l) (Some c.free_tag-tag.result) (get nat_eq c.self.inside.owners.tags b) =
    λ b. c.in_ok-tag_all.ensures b ∙ ap (λ (z : SectionState). cond (has_block b z) (Some c.free_tag-tag.result) (get nat_eq c.self.inside.owners.tags b)) below in
    rw (list, new-tags) (IsTagged-part ss tags (λ b. get nat_eq c.self.inside.owners.tags b) (λ b. get nat_eq c.tag_all.new.owners.tags b) i c.free_tag-tag.result u l t within fresh parts from owner)
