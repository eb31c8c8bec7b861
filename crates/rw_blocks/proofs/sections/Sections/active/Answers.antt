use Rattle.std.proofs.Common.{arith, ap, subst, ◌∙◌, ◌≡◌, ◌<◌, List, length, true}
use Rattle.std.proofs.lemmas.Grind.{common_steps}
use Rattle.rw_blocks.specs.Sections.{SectionState, section_in, has_block}
use Rattle.rw_blocks.specs.Tags.{IsOnlyIn}
use Rattle.rw_blocks.proofs.Tagged.{IsTagged-only}
use Rattle.rw_blocks.proofs.sections.Sections.active.Goals as goal

pub returns-clause-here : goal.returns-clause-here
returns-clause-here c = grind (arith, common_steps)

pub returns-clause-only : goal.returns-clause-only
returns-clause-only c =
    let ss : List SectionState = c.self.inside.list.items in
    let view : ss ≡ c.args.self.now = c.self.view_is in
    let within : c.args.section < length ss = let there = c.requires in omega (arith, ap (λ (zs : List SectionState). length zs) view) in
    let here : has_block c.active.result (section_in ss c.args.section) ≡ true = ap (λ (zs : List SectionState). has_block c.active.result (section_in zs c.args.section)) view ∙ returns-clause-here c in
    subst (λ (zs : List SectionState). IsOnlyIn c.args.section c.active.result zs) view
    (IsTagged-only ss c.self.inside.tags.items _ c.args.section c.active.result (c.self.invariant (omega arith)) within here)
