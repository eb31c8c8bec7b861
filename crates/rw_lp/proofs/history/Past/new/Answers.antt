use Rattle.std.proofs.Common.{[], ap, ◌∙◌}
use Rattle.rw_lp.specs.Cut.{seen_of}
use Rattle.rw_lp.specs.Past.{history_of}
use Rattle.rw_lp.proofs.history.Past.new.Goals as goal

pub returns-clause-is : goal.returns-clause-is
returns-clause-is g c =
    let done = c.in_ok-with_capacity.field-0.items in
    let p = c.args.number in
    let start = c.args.start in
    ap seen_of c.in_ok-new.ensures.ok
    ∙ ap (λ m. history_of m p c.of-2.result.value [] done start) c.of.ensures
    ∙ ap (λ s. history_of c.args.model.now p s [] done start) c.of-2.ensures
    ∙ ap (λ es. history_of c.args.model.now p start [] es start) c.in_ok-with_capacity.ensures.items
