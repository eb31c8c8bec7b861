use Rattle.std.proofs.Common.{ap, ◌∙◌, ℕ, List}
use Rattle.std.specs.Ordering.{nat_cmp}
use Rattle.std.specs.BTreeMap.{insert_entry}
use Rattle.rw_blocks.specs.declared.Place.{Place}
use Rattle.rw_blocks.proofs.ByObject.{by_object-insert}
use Rattle.rw_blocks.proofs.row_map.RowMap.insert.Goals as goal

pub returns-clause-put : goal.returns-clause-put
returns-clause-put c =
    by_object-insert c.self.inside.rows.entries c.insert.new.self.entries c.args.object c.args.row c.in_ok-insert.ensures.updates.0
    ∙ ap (λ (es : List (ℕ × Place)). insert_entry nat_cmp es c.args.object c.args.row) c.self.view_is
