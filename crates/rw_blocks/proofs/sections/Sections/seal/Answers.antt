use Rattle.std.proofs.Common.{arith, sym, ap, subst, ◌∙◌, ◌≡◌, ◌<◌, ℕ, List, length, get_or, set, nat_eq}
use Rattle.std.specs.HashMap.{get}
use Rattle.rw_blocks.specs.Sections.{SectionState, no_section, section_in, has_block}
use Rattle.rw_blocks.specs.Changes.{sections_changing, section_sealing}
use Rattle.rw_blocks.specs.Tags.{tag_in, IsTagged, IsAbsent}
use Rattle.rw_blocks.proofs.Holding.{has_block-sealing}
use Rattle.rw_blocks.proofs.Tagged.{IsTagged-claim, IsTagged-nothing}
use Rattle.std.proofs.lemmas.List.{get_or_default}
use Rattle.rw_blocks.proofs.Errors.{of_error, on_error}
use Rattle.rw_blocks.proofs.sections.Sections.seal.Goals as goal

-- the section that is changed, and what it is then
here : (c : goal.After-drop-self-inside) → c.index_mut.result.now ≡ section_in c.self.inside.list.items c.args.section
here c =
    let ss = c.self.inside.list.items in
    let within : c.args.section < length ss = let there = c.requires.there in omega (arith, ap length c.self.view_is) in
    c.index_mut.ensures.value
    ∙ (ap (λ v. get_or v.items c.args.section c.index_mut.result.now) c.replace-list.ensures.value ∙ get_or_default ss c.args.section c.index_mut.result.now no_section within)

changed : (c : goal.After-drop-self-inside) → c.seal.new.self ≡ section_sealing c.args.kind c.args.fresh (section_in c.self.inside.list.items c.args.section)
changed c = c.in_ok-seal.ensures ∙ ap (section_sealing c.args.kind c.args.fresh) (here c)

pub returns-clause-sealed : goal.returns-clause-sealed
returns-clause-sealed c =
    ap (λ v. set v.items c.args.section c.seal.new.self) c.replace-list.ensures.value
    ∙ (ap (set c.self.inside.list.items c.args.section) (changed c) ∙ ap (λ zs. sections_changing zs c.args.section (section_sealing c.args.kind c.args.fresh)) c.self.view_is)

pub invariant_of-self-2 : goal.invariant_of-self-2
invariant_of-self-2 c = λ some.
    let ss : List SectionState = c.self.inside.list.items in
    let tags : List ℕ = c.self.inside.tags.items in
    let i : ℕ = c.args.section in
    let x : ℕ = c.args.fresh in
    let view : ss ≡ c.args.self.now = c.self.view_is in
    let items : c.replace-list.result.items ≡ ss = ap (λ v. v.items) c.replace-list.ensures.value in
    let within : i < length ss = let there = c.requires.there in omega (arith, ap (λ (zs : List SectionState). length zs) view) in
    let t : IsTagged ss tags (λ b. get nat_eq c.self.inside.owners.tags b) = c.self.invariant (omega arith) in
    let absent : IsAbsent x ss = subst (λ (zs : List SectionState). IsAbsent x zs) (sym view) c.requires.fresh in
    let is : c.seal.new.self ≡ section_sealing c.args.kind x (section_in ss i) = changed c in
    let tag : c.index.result.now ≡ tag_in tags i = let long = t.long in c.index.ensures ∙ get_or_default tags i c.index.result.now 0 (omega arith) in
    let P : List SectionState → Type 0 = λ zs. IsTagged (set zs i c.seal.new.self) tags (λ b. get nat_eq c.insert.new.self.tags b) in
    subst P (sym items)
    (IsTagged-claim ss tags (λ b. get nat_eq c.self.inside.owners.tags b) (λ b. get nat_eq c.insert.new.self.tags b) i x c.seal.new.self t within absent
    (λ b. ap (has_block b) is ∙ has_block-sealing c.args.kind x b (section_in ss i))
    (λ b. let h = c.in_ok-insert.ensures.updates b in rw (← tag) h))

pub index_mut-requires : goal.index_mut-requires
index_mut-requires c = let there = c.requires.there in omega (arith, ap length (ap (λ v. v.items) c.replace-list.ensures.value ∙ c.self.view_is))

pub invariant_of-self : goal.invariant_of-self
invariant_of-self c = λ some. IsTagged-nothing _ _ _ (ap (λ v. v.items) c.replace-list.ensures.after ∙ c.new.ensures.items) some

pub returns-in_err-seal-clause-sealed : goal.returns-in_err-seal-clause-sealed
returns-in_err-seal-clause-sealed c = on_error _ _ c.from_residual.result c.from_residual.ensures.1

pub returns-in_err-seal-clause-refused : goal.returns-in_err-seal-clause-refused
returns-in_err-seal-clause-refused c = of_error _ c.from_residual.result (ap (λ v. v.items) c.replace-list.ensures.after ∙ c.new.ensures.items)

pub invariant_of-self-in_err-insert : goal.invariant_of-self-in_err-insert
invariant_of-self-in_err-insert c = λ some. IsTagged-nothing _ _ _ (ap (λ v. v.items) c.replace-list.ensures.after ∙ c.new.ensures.items) some

pub returns-in_err-insert-clause-sealed : goal.returns-in_err-insert-clause-sealed
returns-in_err-insert-clause-sealed c = on_error _ _ c.from_residual-in_err-insert.result c.from_residual-in_err-insert.ensures.1

pub returns-in_err-insert-clause-refused : goal.returns-in_err-insert-clause-refused
returns-in_err-insert-clause-refused c = of_error _ c.from_residual-in_err-insert.result (ap (λ v. v.items) c.replace-list.ensures.after ∙ c.new.ensures.items)
