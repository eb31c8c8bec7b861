use Rattle.std.proofs.Common.{sym, ap, ◌∙◌, ℕ, List}
use Rattle.std.specs.Ordering.{nat_cmp}
use Rattle.std.specs.BTreeMap.{insert_entry}
use Rattle.rw_blocks.proofs.ByObject.{by_object-insert, find-by_object}
use Rattle.rw_photo.specs.Cache.{waiting_in}
use Rattle.rw_photo.proofs.awaited.Awaited.put.Goals as goal

pub returns-clause-before : goal.returns-clause-before
returns-clause-before c =
    c.in_ok-insert.ensures.old
    ∙ (sym (find-by_object c.self.inside.counts.entries c.args.object)
    ∙ ap (λ (es : List (ℕ × ℕ)). waiting_in es c.args.object) c.self.view_is)

pub returns-clause-put : goal.returns-clause-put
returns-clause-put c =
    by_object-insert c.self.inside.counts.entries c.insert.new.self.entries c.args.object c.args.count c.in_ok-insert.ensures.updates.0
    ∙ ap (λ (es : List (ℕ × ℕ)). insert_entry nat_cmp es c.args.object c.args.count) c.self.view_is
