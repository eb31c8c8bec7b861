use Rattle.std.proofs.Common.{sym, ap, ◌∙◌, ℕ, List}
use Rattle.std.specs.Ordering.{nat_cmp}
use Rattle.std.specs.Map.{remove_entry}
use Rattle.std.specs.BTreeMap.{is_at}
use Rattle.rw_blocks.proofs.ByObject.{by_object-remove}
use Rattle.rw_photo.specs.Cache.{with_waiting}
use Rattle.rw_photo.proofs.awaited.Awaited.set.Goals as goal

pub returns-in-None : goal.returns-in-None
returns-in-None c =
    by_object-remove c.self.inside.counts.entries c.remove.new.self.entries c.args.object c.remove.ensures.updates.0
    ∙ (ap (λ (es : List (ℕ × ℕ)). remove_entry (is_at (nat_cmp c.args.object)) es) c.self.view_is
    ∙ ap (with_waiting c.args.self.now c.args.object) (sym c.in-None.is))
