use Rattle.std.proofs.Common.{sym, ap, ◌∙◌, ◌≡◌, ℕ, List, nat_eq, MutBor, Option, refl}
use Rattle.std.specs.Prelude.{Some, None, IsSome}
use Rattle.std.specs.Option.{option_copied_mut}
use Rattle.std.specs.Ordering.{nat_cmp}
use Rattle.std.specs.Map.{lookup}
use Rattle.std.specs.BTreeMap.{is_at, insert_entry}
use Rattle.rw_blocks.specs.declared.Place.{Place}
use Rattle.rw_blocks.proofs.ByObject.{find-by_object, by_object-insert}
use Rattle.rw_blocks.proofs.row_map.RowMap.set_place.Goals as goal

there : {X : Type 0} {x : X} (o : Option (MutBor X)) → option_copied_mut o ≡ Some x → IsSome o
there (Some _) e = refl
there None e = let no : None ≡ Some _ = e in absurd (cc)

found : {X : Type 0} {x : X} (o : Option X) → o ≡ Some x → IsSome o
found (Some _) e = refl
found None e = let no : None ≡ Some _ = e in absurd (cc)

pub unwrap-found-requires : goal.unwrap-found-requires
unwrap-found-requires c =
    let is : lookup (nat_eq c.args.object) c.self.inside.rows.entries ≡ Some c.args.row = sym (find-by_object c.self.inside.rows.entries c.args.object) ∙ (ap (λ (es : List (ℕ × Place)). lookup (is_at (nat_cmp c.args.object)) es) c.self.view_is ∙ c.requires) in
    there c.get_mut.result (c.get_mut.ensures.value ∙ is)

pub returns : goal.returns
returns c =
    let is : lookup (nat_eq c.args.object) c.self.inside.rows.entries ≡ Some c.args.row = sym (find-by_object c.self.inside.rows.entries c.args.object) ∙ (ap (λ (es : List (ℕ × Place)). lookup (is_at (nat_cmp c.args.object)) es) c.self.view_is ∙ c.requires) in
    let new : Place = record c.args.row { place = c.args.place } in
    by_object-insert c.self.inside.rows.entries (c.get_mut.follows.lender new).entries c.args.object new ((c.get_mut.follows.holds new).3 (found (lookup (nat_eq c.args.object) c.self.inside.rows.entries) is)).0
    ∙ ap (λ (es : List (ℕ × Place)). insert_entry nat_cmp es c.args.object new) c.self.view_is
