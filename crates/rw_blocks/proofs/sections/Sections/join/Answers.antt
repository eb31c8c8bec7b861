use Rattle.std.proofs.Common.{arith, sym, ap, subst, ◌∙◌, ◌≡◌, ◌<◌, ◌+◌, ℕ, List, Bool, cond, length, get_or, nat_eq}
use Rattle.std.specs.Prelude.{Some, None, remove}
use Rattle.std.specs.HashMap.{get}
use Rattle.std.proofs.lemmas.List.{get_or_default}
use Rattle.std.proofs.lemmas.List.Edits.{get_or-remove_below}
use Rattle.rw_blocks.specs.Sections.{SectionState, no_section, section_in, has_block}
use Rattle.rw_blocks.specs.Changes.{section_joining}
use Rattle.rw_blocks.specs.Tags.{tag_in, IsTagged, Joins, is_vanishing}
use Rattle.rw_blocks.proofs.Tagged.{IsTagged-join, IsTagged-nothing}
use Rattle.rw_blocks.proofs.Errors.{of_error, on_error}
use Rattle.rw_blocks.proofs.sections.Sections.join.Goals as goal

pub invariant_of-self-2 : goal.invariant_of-self-2
invariant_of-self-2 c = λ some.
    let ss : List SectionState = c.self.inside.list.items in
    let tags : List ℕ = c.self.inside.tags.items in
    let i : ℕ = c.args.section in
    let view : ss ≡ c.args.self.now = c.self.view_is in
    let within : i + 1 < length ss = let there = c.requires.there in omega (arith, ap (λ (zs : List SectionState). length zs) view) in
    let t : IsTagged ss tags (λ b. get nat_eq c.self.inside.owners.tags b) = c.self.invariant (omega arith) in
    let long = t.long in
    let u : SectionState = section_in ss i in
    let l : SectionState = section_in ss (i + 1) in
    let gone : ℕ → Bool = is_vanishing c.args.vanished l in
    let items : c.replace-list.result.items ≡ ss = ap (λ v. v.items) c.replace-list.ensures.value in
    let list : c.remove-lower.new.self.items ≡ remove ss (i + 1) = c.remove-lower.ensures.items ∙ ap (λ zs. remove zs (i + 1)) items in
    let lower : c.remove-lower.result ≡ l =
    c.remove-lower.ensures.value ∙ (ap (λ zs. get_or zs (i + 1) c.remove-lower.result) items ∙ get_or_default ss (i + 1) c.remove-lower.result no_section within) in
    let new-tags : c.remove.new.self.items ≡ remove tags (i + 1) = c.remove.ensures.items in
    let tag : c.index-tag.result.now ≡ tag_in tags i = c.index-tag.ensures ∙ get_or_default tags i c.index-tag.result.now 0 (omega arith) in
    let d : SectionState = c.index_mut.result.now in
    let upper : c.index_mut.result.now ≡ u =
    c.index_mut.ensures.value ∙ (ap (λ (zs : List SectionState). get_or zs i d) list ∙ (get_or-remove_below ss (i + 1) d i (omega arith) within ∙ get_or_default ss i d no_section (omega arith))) in
    let is : c.join.new.self ≡ section_joining c.args.vanished u l =
    c.in_ok-join.ensures ∙ (ap (λ (z : SectionState). section_joining c.args.vanished z c.remove-lower.result) upper ∙ ap (λ (z : SectionState). section_joining c.args.vanished u z) lower) in
    let joins : Joins u l gone (section_joining c.args.vanished u l) =
    subst (λ (zs : List SectionState). Joins (section_in zs i) (section_in zs (i + 1)) (is_vanishing c.args.vanished (section_in zs (i + 1))) (section_joining c.args.vanished (section_in zs i) (section_in zs (i + 1)))) (sym view) c.requires.joins in
    let owner : (b : ℕ) → get nat_eq c.retag.new.owners.tags b ≡ cond (has_block b l) (cond (gone b) None (Some (tag_in tags i))) (get nat_eq c.self.inside.owners.tags b) =
    λ b. c.in_ok-retag.ensures b
    ∙ (ap (λ (z : SectionState). cond (has_block b z) (cond (is_vanishing c.args.vanished z b) None (Some c.index-tag.result.now)) (get nat_eq c.self.inside.owners.tags b)) lower
    ∙ ap (λ (y : ℕ). cond (has_block b l) (cond (gone b) None (Some y)) (get nat_eq c.self.inside.owners.tags b)) tag) in
    rw (list, is, new-tags)
    (IsTagged-join ss tags (λ b. get nat_eq c.self.inside.owners.tags b) (λ b. get nat_eq c.retag.new.owners.tags b) gone i (section_joining c.args.vanished u l) t within joins owner)

pub remove-lower-requires : goal.remove-lower-requires
remove-lower-requires c = let there = c.requires.there in omega (arith, ap length (ap (λ v. v.items) c.replace-list.ensures.value ∙ c.self.view_is))

pub invariant_of-self : goal.invariant_of-self
invariant_of-self c = λ some. IsTagged-nothing _ _ _ (ap (λ v. v.items) c.replace-list.ensures.after ∙ c.new.ensures.items) some

pub returns-in_err-retag-clause-joined : goal.returns-in_err-retag-clause-joined
returns-in_err-retag-clause-joined c = on_error _ _ c.from_residual.result c.from_residual.ensures.1

pub returns-in_err-retag-clause-refused : goal.returns-in_err-retag-clause-refused
returns-in_err-retag-clause-refused c = of_error _ c.from_residual.result (ap (λ v. v.items) c.replace-list.ensures.after ∙ c.new.ensures.items)

pub invariant_of-self-in_err-join : goal.invariant_of-self-in_err-join
invariant_of-self-in_err-join c = λ some. IsTagged-nothing _ _ _ (ap (λ v. v.items) c.replace-list.ensures.after ∙ c.new.ensures.items) some

pub returns-in_err-join-clause-joined : goal.returns-in_err-join-clause-joined
returns-in_err-join-clause-joined c = on_error _ _ c.from_residual-in_err-join.result c.from_residual-in_err-join.ensures.1

pub returns-in_err-join-clause-refused : goal.returns-in_err-join-clause-refused
returns-in_err-join-clause-refused c = of_error _ c.from_residual-in_err-join.result (ap (λ v. v.items) c.replace-list.ensures.after ∙ c.new.ensures.items)
