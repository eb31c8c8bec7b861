use Rattle.std.proofs.Common.{rules, arith, ap, subst, ◌≡◌, ◌∙◌, ◌<◌, ◌≤◌, length}
use Rattle.std.proofs.lemmas.List.{get_or_default}
use Rattle.rw_blocks.specs.Sections.{section_in, no_section}
use Rattle.rw_blocks.proofs.sections.Sections.last_sealed.Goals as goal

pub returns-in_err-section-clause-there : goal.returns-in_err-section-clause-there
returns-in_err-section-clause-there c = rw c.from_residual.ensures tt

pub returns-in_err-section-clause-last : goal.returns-in_err-section-clause-last
returns-in_err-section-clause-last c = rw c.from_residual.ensures tt

pub returns-in_err-section-clause-behind : goal.returns-in_err-section-clause-behind
returns-in_err-section-clause-behind c = rw c.from_residual.ensures tt

pub index-requires : goal.index-requires
index-requires c =
    let listed : c.iter.result.rest.now ≡ c.deref.result.now = cc in
    subst (λ n. c.in_ok-section.section < n) (ap length listed ∙ c.deref.ensures.len) c.in_ok-section.ensures.bound

pub returns-clause-there : goal.returns-clause-there
returns-clause-there c =
    let listed : c.iter.result.rest.now ≡ c.args.self.now = cc in
    subst (λ ss. c.in_ok-section.section < length ss) listed c.in_ok-section.ensures.bound

pub overflow_sub-result : goal.overflow_sub-result
overflow_sub-result c = search rules

pub returns-clause-last : goal.returns-clause-last
returns-clause-last c =
    let ss = c.self.inside.list.items in
    let i = c.in_ok-section.section in
    let listed : c.iter.result.rest.now ≡ ss = cc in
    let within : i < length ss = subst (λ zs. i < length zs) listed c.in_ok-section.ensures.bound in
    let here : c.index.result.now ≡ section_in c.args.self.now i = c.index.ensures ∙ (get_or_default ss i c.index.result.now no_section within ∙ ap (λ zs. section_in zs i) c.self.view_is) in
    let some : 1 ≤ c.sealed.result = overflow_sub-result c in
    omega (arith, some, c.sealed.ensures, ap (λ s. length s.sealed) here)
