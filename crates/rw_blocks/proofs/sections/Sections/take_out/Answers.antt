use Rattle.std.proofs.Common.{arith, sym, ap, subst, ◌∙◌, ◌≡◌, ◌<◌, ℕ, List, false, length, get_or, nat_eq}
use Rattle.std.specs.Prelude.{Some, ◌||◌, slice_get, remove}
use Rattle.std.specs.HashMap.{get}
use Rattle.std.proofs.lemmas.Grind.{common_steps}
use Rattle.std.proofs.lemmas.List.{get_or_default}
use Rattle.rw_blocks.specs.declared.Kind.{Kind}
use Rattle.rw_blocks.specs.declared.Kind.TheVariants.{Device}
use Rattle.rw_blocks.specs.Sections.{SectionState, section_in, has_block}
use Rattle.rw_blocks.specs.Tags.{IsTagged}
use Rattle.std.proofs.lemmas.Option.{slice_get-get_or}
use Rattle.rw_blocks.proofs.Holding.{has_block-remove}
use Rattle.rw_blocks.proofs.Tagged.{IsTagged-release}
use Rattle.rw_blocks.proofs.sections.Sections.take_out.Goals as goal

pub invariant_of-self : goal.invariant_of-self
invariant_of-self c = λ some.
    let ss : List SectionState = c.self.inside.list.items in
    let tags : List ℕ = c.self.inside.tags.items in
    let i : ℕ = c.args.section in
    let view : ss ≡ c.args.self.now = c.self.view_is in
    let within : i < length ss = let there = c.requires.there in omega (arith, ap (λ (zs : List SectionState). length zs) view) in
    let t : IsTagged ss tags (λ b. get nat_eq c.self.inside.owners.tags b) = c.self.invariant (omega arith) in
    let s : SectionState = section_in ss i in
    let p : ℕ = c.args.position in
    let inside : p < length s.sealed = subst (λ (zs : List SectionState). p < length (section_in zs i).sealed) (sym view) c.requires.sealed in
    let here : c.index_mut.result.now ≡ s = grind (arith, common_steps, get_or_default {X = SectionState}) in
    let is : c.take_out-serial.new.self ≡ record s { sealed = remove s.sealed p } = c.take_out-serial.ensures.rest ∙ ap (λ (z : SectionState). record z { sealed = remove z.sealed p }) here in
    let read : slice_get s.sealed p ≡ Some c.take_out-serial.result = ap (λ (z : SectionState). slice_get z.sealed p) (sym here) ∙ c.take_out-serial.ensures.block in
    let same : Some (get_or s.sealed p (0, Device)) ≡ Some c.take_out-serial.result = sym (slice_get-get_or s.sealed p (0, Device) inside) ∙ read in
    let block : get_or s.sealed p (0, Device) ≡ c.take_out-serial.result = cc in
    let serial : c.take_out-serial.result.0 ≡ (get_or s.sealed p (0, Device)).0 = ap (λ (e : ℕ × Kind). e.0) (sym block) in
    let once : has_block (get_or s.sealed p (0, Device)).0 (record s { sealed = remove s.sealed p }) ≡ false =
    subst (λ (zs : List SectionState). has_block (get_or (section_in zs i).sealed p (0, Device)).0 (record (section_in zs i) { sealed = remove (section_in zs i).sealed p }) ≡ false) (sym view) c.requires.once in
    let x : ℕ = c.take_out-serial.result.0 in
    let rest : SectionState = record s { sealed = remove s.sealed p } in
    IsTagged-release ss tags (λ b. get nat_eq c.self.inside.owners.tags b) (λ b. get nat_eq c.remove.new.self.tags b) i x c.take_out-serial.new.self t within
    (λ b. has_block-remove b s p (0, Device) inside ∙ (ap (λ (y : ℕ). nat_eq y b || has_block b rest) (sym serial) ∙ ap (λ (z : SectionState). nat_eq x b || has_block b z) (sym is)))
    (ap (λ (z : SectionState). has_block x z) is ∙ (ap (λ (y : ℕ). has_block y rest) serial ∙ once))
    (λ b. c.remove.ensures.updates b)
