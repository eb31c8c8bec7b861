use Rattle.std.proofs.Common.{sym, ap, ◌∙◌, ℕ, List}
use Rattle.std.specs.Ordering.{nat_cmp}
use Rattle.std.specs.Map.{lookup, remove_entry}
use Rattle.std.specs.BTreeMap.{is_at}
use Rattle.rw_blocks.specs.declared.Place.{Place}
use Rattle.rw_blocks.proofs.ByObject.{find-by_object, by_object-remove}
use Rattle.rw_blocks.proofs.row_map.RowMap.remove.Goals as goal

pub returns-clause-row : goal.returns-clause-row
returns-clause-row c =
    c.remove.ensures.value
    ∙ (sym (find-by_object c.self.inside.rows.entries c.args.object)
    ∙ ap (λ (es : List (ℕ × Place)). lookup (is_at (nat_cmp c.args.object)) es) c.self.view_is)

pub returns-clause-rest : goal.returns-clause-rest
returns-clause-rest c =
    by_object-remove c.self.inside.rows.entries c.remove.new.self.entries c.args.object c.remove.ensures.updates.0
    ∙ ap (λ (es : List (ℕ × Place)). remove_entry (is_at (nat_cmp c.args.object)) es) c.self.view_is
