use Rattle.std.proofs.Common.{arith, ap, ◌∙◌, ◌≡◌, ◌≤◌, ◌+◌, ℕ, List, refl}
use Rattle.std.specs.Prelude.{Some}
use Rattle.std.specs.Ordering.{nat_cmp}
use Rattle.std.specs.Cmp.{nat_cmp_total}
use Rattle.std.specs.Map.{lookup, values_of}
use Rattle.std.specs.BTreeMap.{is_at, insert_entry}
use Rattle.std.proofs.lemmas.Map.Entries.{sum_by-insert_entry}
use Rattle.rw_blocks.proofs.Entries.{sorted-insert_entry, values-insert_entry, found-value}
use Rattle.rw_blocks.specs.declared.Place.{Place}
use Rattle.rw_blocks.specs.declared.lists.Lists.{Lists}
use Rattle.rw_blocks.specs.Rows.{size_of}
use Rattle.rw_blocks.specs.Index.{home_of, place_of, bytes_of}
use Rattle.rw_blocks.specs.Lists.{homed_in, placed_in}
use Rattle.rw_blocks.proofs.Bytes.{others-room, bytes_of-le, row-le-bytes_of}
use Rattle.rw_blocks.proofs.Follows.{Follows-kept, Follows-moved, Follows-same, same-grows, moved-grows, same-bytes}
use Rattle.rw_blocks.proofs.rows.Rows.replace.Goals as goal

pub add-requires-clause-homed_fit : goal.add-requires-clause-homed_fit
add-requires-clause-homed_fit c =
    let rows : List (ℕ × Place) = c.self.inside.rows in
    omega (arith, bytes_of-le home_of c.args.place rows, c.self.invariant.homed.bytes c.args.place, c.self.invariant.whole)

pub add-requires-clause-placed_fit : goal.add-requires-clause-placed_fit
add-requires-clause-placed_fit c =
    let rows : List (ℕ × Place) = c.self.inside.rows in
    let row : Place = c.args.row in
    let is : lookup (is_at (nat_cmp c.args.object)) rows ≡ Some row = ap (λ (es : List (ℕ × Place)). lookup (is_at (nat_cmp c.args.object)) es) c.self.view_is ∙ c.requires.row in
    let room : bytes_of place_of c.args.place rows + row.size ≤ size_of (values_of rows) = others-room place_of c.args.place rows c.args.object row is c.requires.other in
    omega (arith, room, c.self.invariant.placed.bytes c.args.place, c.self.invariant.whole)

pub take-requires-clause-placed_there : goal.take-requires-clause-placed_there
take-requires-clause-placed_there c =
    let rows : List (ℕ × Place) = c.self.inside.rows in
    let row : Place = c.args.row in
    let is : lookup (is_at (nat_cmp c.args.object)) rows ≡ Some row = ap (λ (es : List (ℕ × Place)). lookup (is_at (nat_cmp c.args.object)) es) c.self.view_is ∙ c.requires.row in
    omega (arith, row-le-bytes_of place_of rows c.args.object row is, c.self.invariant.placed.bytes row.place, c.in_ok-wide.ensures.placed row.place)

pub set_place-requires : goal.set_place-requires
set_place-requires c = ap (λ (es : List (ℕ × Place)). lookup (is_at (nat_cmp c.args.object)) es) c.self.view_is ∙ c.requires.row

pub invariant_of-self : goal.invariant_of-self
invariant_of-self c =
    let rows : List (ℕ × Place) = c.self.inside.rows in
    let m : Lists = c.self.inside.lists in
    let n : Lists = c.add.new.self in
    record {
      homed = Follows-same home_of rows (homed_in m) (homed_in n) m n c.self.invariant.sized c.self.invariant.homed c.in_err-wide.ensures.same.homed (same-grows (homed_in n) m n c.in_err-wide.ensures.same.list);
      placed = Follows-same place_of rows (placed_in m) (placed_in n) m n c.self.invariant.sized c.self.invariant.placed c.in_err-wide.ensures.same.placed (same-grows (placed_in n) m n c.in_err-wide.ensures.same.list);
      whole = c.self.invariant.whole;
      ordered = c.self.invariant.ordered;
      sized = c.self.invariant.sized;
    }

pub invariant_of-self-2 : goal.invariant_of-self-2
invariant_of-self-2 c =
    let rows : List (ℕ × Place) = c.self.inside.rows in
    let row : Place = c.args.row in
    let o : ℕ = c.args.object in
    let new : Place = record row { place = c.args.place } in
    let m : Lists = c.self.inside.lists in
    let n : Lists = c.add.new.self in
    let k : Lists = c.take.new.self in
    let is : lookup (is_at (nat_cmp o)) rows ≡ Some row = ap (λ (es : List (ℕ × Place)). lookup (is_at (nat_cmp o)) es) c.self.view_is ∙ c.requires.row in
    let sum = rw is at (sum_by-insert_entry (λ (r : Place). r.size) nat_cmp_total rows o new c.self.invariant.ordered) in
    let sized = values-insert_entry (λ (r : Place). 1 ≤ r.size) rows o new c.self.invariant.sized (found-value (λ (r : Place). 1 ≤ r.size) rows o row c.self.invariant.sized is) in
    let kept = Follows-kept home_of rows (homed_in m) m o row new c.self.invariant.ordered is refl refl c.self.invariant.homed in
    rw c.set_place.ensures
    (record {
      homed = Follows-same home_of (insert_entry nat_cmp rows o new) (homed_in m) (homed_in k) m k sized kept (same-bytes (homed_in m) (homed_in n) (homed_in k) c.args.place row.place c.in_ok-wide.ensures.homed c.take.ensures.homed) (moved-grows (homed_in k) m n k c.args.place o c.in_ok-wide.ensures.list c.take.ensures.homes_list);
      placed = Follows-moved place_of rows (placed_in m) (placed_in n) (placed_in k) m n k o row new c.self.invariant.ordered is refl sized c.self.invariant.placed c.in_ok-wide.ensures.placed c.in_ok-wide.ensures.list c.take.ensures.placed c.take.ensures.places_list;
      whole = omega (arith, sum, c.self.invariant.whole);
      ordered = sorted-insert_entry rows o new c.self.invariant.ordered;
      sized = sized;
    })
