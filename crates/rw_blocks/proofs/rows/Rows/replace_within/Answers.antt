use Rattle.std.proofs.Common.{arith, ap, sym, ◌∙◌, ◌≡◌, ◌≤◌, ◌+◌, ℕ, List, refl, nat_eq, length}
use Rattle.std.specs.Prelude.{Some, not}
use Rattle.std.specs.Ordering.{nat_cmp}
use Rattle.std.specs.Cmp.{nat_cmp_total}
use Rattle.std.specs.Map.{lookup, values_of}
use Rattle.std.specs.BTreeMap.{is_at, insert_entry}
use Rattle.std.proofs.lemmas.Map.Entries.{sum_by-insert_entry}
use Rattle.rw_blocks.proofs.Entries.{sorted-insert_entry, values-insert_entry, found-value}
use Rattle.rw_blocks.specs.declared.Place.{Place}
use Rattle.rw_blocks.specs.declared.lists.Lists.{Lists}
use Rattle.rw_blocks.specs.Rows.{size_of}
use Rattle.rw_blocks.specs.Index.{home_of, place_of, bytes_of, objects_of}
use Rattle.rw_blocks.specs.Lists.{homed_in, placed_in, Gains, Appends, Same, IsListed}
use Rattle.rw_blocks.proofs.Bytes.{others-room, bytes_of-le, row-le-bytes_of}
use Rattle.rw_blocks.proofs.Errors.{at_some, when_none}
use Rattle.rw_blocks.proofs.Follows.{Follows-kept, Follows-moved, Follows-same, moved-grows, same-bytes, none-weighs, IsListed-same, Gains-own}
use Rattle.rw_blocks.proofs.rows.Rows.replace_within.Goals as goal

pub add_within-requires-clause-homed_fit : goal.add_within-requires-clause-homed_fit
add_within-requires-clause-homed_fit c =
    let rows : List (ℕ × Place) = c.self.inside.rows in
    omega (arith, bytes_of-le home_of c.args.place rows, c.self.invariant.homed.bytes c.args.place, c.self.invariant.whole)

pub add_within-requires-clause-placed_fit : goal.add_within-requires-clause-placed_fit
add_within-requires-clause-placed_fit c =
    let rows : List (ℕ × Place) = c.self.inside.rows in
    let row : Place = c.args.row in
    let is : lookup (is_at (nat_cmp c.args.object)) rows ≡ Some row = ap (λ (es : List (ℕ × Place)). lookup (is_at (nat_cmp c.args.object)) es) c.self.view_is ∙ c.requires.row in
    let room : bytes_of place_of c.args.place rows + row.size ≤ size_of (values_of rows) = others-room place_of c.args.place rows c.args.object row is c.requires.other in
    omega (arith, room, c.self.invariant.placed.bytes c.args.place, c.self.invariant.whole)

pub take-left-requires-clause-placed_there : goal.take-left-requires-clause-placed_there
take-left-requires-clause-placed_there c =
    let rows : List (ℕ × Place) = c.self.inside.rows in
    let row : Place = c.args.row in
    let is : lookup (is_at (nat_cmp c.args.object)) rows ≡ Some row = ap (λ (es : List (ℕ × Place)). lookup (is_at (nat_cmp c.args.object)) es) c.self.view_is ∙ c.requires.row in
    let gains : Gains (placed_in c.self.inside.lists) (placed_in c.add_within.new.self) c.args.place row.size = at_some (λ w. Gains (placed_in c.self.inside.lists) (placed_in c.add_within.new.self) c.args.place row.size) c.in_ok-wide.field-0 c.in-Some.wide c.in-Some.is c.in_ok-wide.ensures.placed in
    omega (arith, row-le-bytes_of place_of rows c.args.object row is, c.self.invariant.placed.bytes row.place, gains row.place)

pub set_place-requires : goal.set_place-requires
set_place-requires c = ap (λ (es : List (ℕ × Place)). lookup (is_at (nat_cmp c.args.object)) es) c.self.view_is ∙ c.requires.row

pub invariant_of-self : goal.invariant_of-self
invariant_of-self c = IsListed-same _ _ _ _ c.self.invariant c.in_err-wide.ensures.same

pub invariant_of-self-in_default : goal.invariant_of-self-in_default
invariant_of-self-in_default c = IsListed-same _ _ _ _ c.self.invariant (when_none (Same c.self.inside.lists c.add_within.new.self) c.in_ok-wide.field-0 c.in_default.is c.in_ok-wide.ensures.full)

pub invariant_of-self-2 : goal.invariant_of-self-2
invariant_of-self-2 c =
    let rows : List (ℕ × Place) = c.self.inside.rows in
    let row : Place = c.args.row in
    let o : ℕ = c.args.object in
    let new : Place = record row { place = c.args.place } in
    let m : Lists = c.self.inside.lists in
    let n : Lists = c.add_within.new.self in
    let k : Lists = c.take-left.new.self in
    let is : lookup (is_at (nat_cmp o)) rows ≡ Some row = ap (λ (es : List (ℕ × Place)). lookup (is_at (nat_cmp o)) es) c.self.view_is ∙ c.requires.row in
    let at_home : Gains (homed_in m) (homed_in n) c.args.place 0 = at_some (λ w. Gains (homed_in m) (homed_in n) c.args.place 0) c.in_ok-wide.field-0 c.in-Some.wide c.in-Some.is c.in_ok-wide.ensures.homed in
    let at_place : Gains (placed_in m) (placed_in n) c.args.place row.size = at_some (λ w. Gains (placed_in m) (placed_in n) c.args.place row.size) c.in_ok-wide.field-0 c.in-Some.wide c.in-Some.is c.in_ok-wide.ensures.placed in
    let list : Appends m n c.args.place o = at_some (λ w. Appends m n c.args.place o) c.in_ok-wide.field-0 c.in-Some.wide c.in-Some.is c.in_ok-wide.ensures.list in
    let sum = rw is at (sum_by-insert_entry (λ (r : Place). r.size) nat_cmp_total rows o new c.self.invariant.ordered) in
    let sized = values-insert_entry (λ (r : Place). 1 ≤ r.size) rows o new c.self.invariant.sized (found-value (λ (r : Place). 1 ≤ r.size) rows o row c.self.invariant.sized is) in
    let kept = Follows-kept home_of rows (homed_in m) m o row new c.self.invariant.ordered is refl refl c.self.invariant.homed in
    rw c.set_place.ensures
    (record {
      homed = Follows-same home_of (insert_entry nat_cmp rows o new) (homed_in m) (homed_in k) m k sized kept (same-bytes (homed_in m) (homed_in n) (homed_in k) c.args.place row.place at_home c.take-left.ensures.homed) (moved-grows (homed_in k) m n k c.args.place o list c.take-left.ensures.homes_list);
      placed = Follows-moved place_of rows (placed_in m) (placed_in n) (placed_in k) m n k o row new c.self.invariant.ordered is refl sized c.self.invariant.placed at_place list c.take-left.ensures.placed c.take-left.ensures.places_list;
      whole = omega (arith, sum, c.self.invariant.whole);
      ordered = sorted-insert_entry rows o new c.self.invariant.ordered;
      sized = sized;
    })

pub returns-clause-fits : goal.returns-clause-fits
returns-clause-fits c =
    let rows : List (ℕ × Place) = c.self.inside.rows in
    let m : Lists = c.self.inside.lists in
    let n : Lists = c.add_within.new.self in
    let p : ℕ = c.args.place in
    let z : ℕ = c.args.row.size in
    let gains : Gains (placed_in m) (placed_in n) p z = at_some (λ w. Gains (placed_in m) (placed_in n) p z) c.in_ok-wide.field-0 c.in-Some.wide c.in-Some.is c.in_ok-wide.ensures.placed in
    let most : placed_in n p ≤ c.args.most = (at_some (λ w. (homed_in n p ≤ c.args.most) × (placed_in n p ≤ c.args.most)) c.in_ok-wide.field-0 c.in-Some.wide c.in-Some.is c.in_ok-wide.ensures.fits).1 in
    let more : placed_in n p ≡ placed_in m p + z = Gains-own (placed_in m) (placed_in n) p z gains in
    let same : bytes_of place_of p c.args.self.now ≡ bytes_of place_of p rows = ap (bytes_of place_of p) (sym c.self.view_is) in
    omega (arith, most, more, same, c.self.invariant.placed.bytes p)

pub returns-clause-left : goal.returns-clause-left
returns-clause-left c =
    let b : ℕ = c.args.row.place in
    let listed : IsListed c.set_place.new.self c.take-left.new.self c.self.inside.total = invariant_of-self-2 c.before.before in
    ap (λ n. not (nat_eq n 0)) (c.take-left.ensures.left ∙ listed.placed.bytes b)
    ∙ (ap not (none-weighs place_of b c.set_place.new.self listed.sized)
    ∙ ap (λ (es : List (ℕ × Place)). not (nat_eq (length (objects_of place_of b es)) 0)) (sym c.trim.ensures))
