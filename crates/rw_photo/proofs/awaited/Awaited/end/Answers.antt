use Rattle.std.proofs.Common.{sym, ap, ◌∙◌, ℕ, List}
use Rattle.std.specs.Ordering.{nat_cmp}
use Rattle.std.specs.Map.{remove_entry}
use Rattle.std.specs.BTreeMap.{is_at}
use Rattle.rw_blocks.proofs.ByObject.{by_object-remove, find-by_object}
use Rattle.rw_photo.specs.Cache.{waiting_in}
use Rattle.rw_photo.proofs.awaited.Awaited.end.Goals as goal

pub returns-clause-before : goal.returns-clause-before
returns-clause-before c =
    c.remove.ensures.value
    ∙ (sym (find-by_object c.self.inside.counts.entries c.args.object)
    ∙ ap (λ (es : List (ℕ × ℕ)). waiting_in es c.args.object) c.self.view_is)

pub returns-clause-ended : goal.returns-clause-ended
returns-clause-ended c =
    by_object-remove c.self.inside.counts.entries c.remove.new.self.entries c.args.object c.remove.ensures.updates.0
    ∙ ap (λ (es : List (ℕ × ℕ)). remove_entry (is_at (nat_cmp c.args.object)) es) c.self.view_is
