use Rattle.std.proofs.Common.{arith, sym, ap, subst, ◌∙◌, ◌≡◌, ◌<◌, ℕ, List, false, length, nat_eq}
use Rattle.std.specs.Prelude.{◌||◌}
use Rattle.std.specs.HashMap.{get}
use Rattle.std.proofs.lemmas.Grind.{common_steps}
use Rattle.std.proofs.lemmas.List.{get_or_default}
use Rattle.rw_blocks.specs.Sections.{SectionState, active_of, section_in, has_block}
use Rattle.rw_blocks.specs.Changes.{section_unsealing}
use Rattle.rw_blocks.specs.Tags.{IsTagged}
use Rattle.rw_blocks.proofs.Holding.{has_block-unsealing}
use Rattle.rw_blocks.proofs.Tagged.{IsTagged-release}
use Rattle.rw_blocks.proofs.sections.Sections.unseal.Goals as goal

pub invariant_of-self : goal.invariant_of-self
invariant_of-self c = λ some.
    let ss : List SectionState = c.self.inside.list.items in
    let tags : List ℕ = c.self.inside.tags.items in
    let i : ℕ = c.args.section in
    let view : ss ≡ c.args.self.now = c.self.view_is in
    let within : i < length ss = let there = c.requires.there in omega (arith, ap (λ (zs : List SectionState). length zs) view) in
    let t : IsTagged ss tags (λ b. get nat_eq c.self.inside.owners.tags b) = c.self.invariant (omega arith) in
    let s : SectionState = section_in ss i in
    let first : c.active-active.result ≡ active_of c.args.kind s = grind (arith, common_steps, get_or_default {X = SectionState}) in
    let is : c.unseal.new.self ≡ section_unsealing c.args.kind s = grind (arith, common_steps, get_or_default {X = SectionState}) in
    let full : 0 < length s.sealed = subst (λ (zs : List SectionState). 0 < length (section_in zs i).sealed) (sym view) c.requires.some in
    let gone : has_block (active_of c.args.kind s) (section_unsealing c.args.kind s) ≡ false =
    subst (λ (zs : List SectionState). has_block (active_of c.args.kind (section_in zs i)) (section_unsealing c.args.kind (section_in zs i)) ≡ false) (sym view) c.requires.gone in
    let x : ℕ = c.active-active.result in
    let rest : SectionState = section_unsealing c.args.kind s in
    IsTagged-release ss tags (λ b. get nat_eq c.self.inside.owners.tags b) (λ b. get nat_eq c.remove.new.self.tags b) i x c.unseal.new.self t within
    (λ b. has_block-unsealing c.args.kind b s full ∙ (ap (λ (y : ℕ). nat_eq y b || has_block b rest) (sym first) ∙ ap (λ (z : SectionState). nat_eq x b || has_block b z) (sym is)))
    (ap (λ (z : SectionState). has_block x z) is ∙ (ap (λ (y : ℕ). has_block y rest) first ∙ gone))
    (λ b. c.remove.ensures.updates b)
