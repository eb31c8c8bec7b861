use Rattle.std.proofs.Common.{sym, ap, subst, ◌∙◌, ◌≡◌, ℕ, List, nat_eq, MutBor, Option, refl}
use Rattle.std.specs.Prelude.{Some, None, IsSome}
use Rattle.std.specs.Option.{option_copied_mut}
use Rattle.std.specs.Ordering.{nat_cmp}
use Rattle.std.specs.Map.{lookup}
use Rattle.std.specs.BTreeMap.{is_at, insert_entry}
use Rattle.rw_blocks.specs.declared.Place.{Place}
use Rattle.rw_blocks.proofs.ByObject.{find-by_object, by_object-insert}
use Rattle.rw_blocks.proofs.row_map.RowMap.set.Goals as goal

there : {X : Type 0} (o : Option (MutBor X)) → IsSome (option_copied_mut o) → IsSome o
there (Some _) is = refl
there None is = is

pub unwrap-found-requires : goal.unwrap-found-requires
unwrap-found-requires c =
    let e : lookup (nat_eq c.args.object) c.self.inside.rows.entries ≡ lookup (is_at (nat_cmp c.args.object)) c.args.self.now = sym (find-by_object c.self.inside.rows.entries c.args.object) ∙ ap (λ (es : List (ℕ × Place)). lookup (is_at (nat_cmp c.args.object)) es) c.self.view_is in
    there c.get_mut.result (subst (λ (o : Option Place). IsSome o) (sym (c.get_mut.ensures.value ∙ e)) c.requires)

pub returns : goal.returns
returns c =
    let e : lookup (nat_eq c.args.object) c.self.inside.rows.entries ≡ lookup (is_at (nat_cmp c.args.object)) c.args.self.now = sym (find-by_object c.self.inside.rows.entries c.args.object) ∙ ap (λ (es : List (ℕ × Place)). lookup (is_at (nat_cmp c.args.object)) es) c.self.view_is in
    let is : IsSome (lookup (nat_eq c.args.object) c.self.inside.rows.entries) = subst (λ (o : Option Place). IsSome o) (sym e) c.requires in
    by_object-insert c.self.inside.rows.entries (c.get_mut.follows.lender c.args.row).entries c.args.object c.args.row ((c.get_mut.follows.holds c.args.row).3 is).0
    ∙ ap (λ (es : List (ℕ × Place)). insert_entry nat_cmp es c.args.object c.args.row) c.self.view_is
