use Rattle.std.proofs.Common.{sym, ap, ◌∙◌, ℕ, List}
use Rattle.std.specs.Ordering.{nat_cmp}
use Rattle.std.specs.Map.{lookup}
use Rattle.std.specs.BTreeMap.{is_at}
use Rattle.rw_blocks.specs.declared.Place.{Place}
use Rattle.rw_blocks.proofs.ByObject.{find-by_object}
use Rattle.rw_blocks.proofs.row_map.RowMap.get.Goals as goal

pub returns : goal.returns
returns c =
    c.copied.ensures
    ∙ (c.get.ensures.value
    ∙ (sym (find-by_object c.self.inside.rows.entries c.args.object)
    ∙ ap (λ (es : List (ℕ × Place)). lookup (is_at (nat_cmp c.args.object)) es) c.self.view_is))
