use Rattle.std.proofs.Common.{arith, sym, ap, subst, ◌∙◌, ◌≡◌, ◌<◌, ℕ, List, length, true}
use Rattle.std.specs.Prelude.{position, Some, None, Option, nat_eq, IfSome, IsNone}
use Rattle.std.specs.HashMap.{get}
use Rattle.std.proofs.lemmas.Grind.{common_steps}
use Rattle.rw_blocks.specs.Sections.{SectionState, section_in, has_block}
use Rattle.rw_blocks.specs.Tags.{IsOnlyIn, IsAbsent}
use Rattle.rw_blocks.proofs.Tagged.{position-tagged, position-untagged, only_at-position, there_at-position, here_at-position, absent_from-position}
use Rattle.rw_blocks.proofs.sections.Sections.section_of.Goals as goal

pub returns-clause-first : goal.returns-clause-first
returns-clause-first c =
    let ss : List SectionState = c.self.inside.list.items in
    let some : 0 < length ss = grind (arith, common_steps) in
    let own : get nat_eq c.self.inside.owners.tags c.args.serial ≡ Some c.in_ok-tag.tag = grind (arith, common_steps) in
    let h = position-tagged ss c.self.inside.tags.items (λ b. get nat_eq c.self.inside.owners.tags b) c.args.serial c.in_ok-tag.tag (c.self.invariant some) own in
    let found : c.place_of.result ≡ position (λ u. nat_eq u c.in_ok-tag.tag) c.self.inside.tags.items = cc in
    found ∙ (h ∙ ap (λ (zs : List SectionState). position (has_block c.args.serial) zs) c.self.view_is)

pub returns-in_err-tag-clause-first : goal.returns-in_err-tag-clause-first
returns-in_err-tag-clause-first c =
    let ss : List SectionState = c.self.inside.list.items in
    let some : 0 < length ss = grind (arith, common_steps) in
    let own : get nat_eq c.self.inside.owners.tags c.args.serial ≡ None = grind (arith, common_steps) in
    let h = position-untagged ss c.self.inside.tags.items (λ b. get nat_eq c.self.inside.owners.tags b) c.args.serial (c.self.invariant some) own in
    c.from_residual.ensures ∙ (h ∙ ap (λ (zs : List SectionState). position (has_block c.args.serial) zs) c.self.view_is)

pub returns-clause-only : goal.returns-clause-only
returns-clause-only c =
    let ss : List SectionState = c.self.inside.list.items in
    let some : 0 < length ss = grind (arith, common_steps) in
    let P : Option ℕ → List SectionState → Type 0 = λ o zs. IfSome o (λ i. IsOnlyIn i c.args.serial zs) in
    let h = only_at-position ss c.self.inside.tags.items (λ b. get nat_eq c.self.inside.owners.tags b) c.args.serial (c.self.invariant some) in
    subst (λ (o : Option ℕ). P o c.args.self.now) (sym (returns-clause-first c))
    (subst (λ (zs : List SectionState). P (position (has_block c.args.serial) zs) zs) c.self.view_is h)

pub returns-clause-there : goal.returns-clause-there
returns-clause-there c = let P : Option ℕ → Type 0 = λ o. IfSome o (λ i. i < length c.args.self.now) in subst P (sym (returns-clause-first c)) (there_at-position c.args.self.now c.args.serial)

pub returns-clause-here : goal.returns-clause-here
returns-clause-here c = let P : Option ℕ → Type 0 = λ o. IfSome o (λ i. has_block c.args.serial (section_in c.args.self.now i) ≡ true) in subst P (sym (returns-clause-first c)) (here_at-position c.args.self.now c.args.serial)

pub returns-clause-none : goal.returns-clause-none
returns-clause-none c = let P : Option ℕ → Type 0 = λ o. IsNone o → IsAbsent c.args.serial c.args.self.now in subst P (sym (returns-clause-first c)) (absent_from-position c.args.self.now c.args.serial)

pub returns-in_err-tag-clause-there : goal.returns-in_err-tag-clause-there
returns-in_err-tag-clause-there c = let P : Option ℕ → Type 0 = λ o. IfSome o (λ i. i < length c.args.self.now) in subst P (sym (returns-in_err-tag-clause-first c)) (there_at-position c.args.self.now c.args.serial)

pub returns-in_err-tag-clause-here : goal.returns-in_err-tag-clause-here
returns-in_err-tag-clause-here c = let P : Option ℕ → Type 0 = λ o. IfSome o (λ i. has_block c.args.serial (section_in c.args.self.now i) ≡ true) in subst P (sym (returns-in_err-tag-clause-first c)) (here_at-position c.args.self.now c.args.serial)

pub returns-in_err-tag-clause-none : goal.returns-in_err-tag-clause-none
returns-in_err-tag-clause-none c = let P : Option ℕ → Type 0 = λ o. IsNone o → IsAbsent c.args.serial c.args.self.now in subst P (sym (returns-in_err-tag-clause-first c)) (absent_from-position c.args.self.now c.args.serial)
