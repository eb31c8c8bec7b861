use Rattle.std.proofs.Common.{arith, ◌≡◌, ◌≤◌, ℕ, List}
use Rattle.std.specs.Prelude.{Some}
use Rattle.std.specs.Ordering.{nat_cmp}
use Rattle.std.specs.Map.{lookup}
use Rattle.std.specs.BTreeMap.{is_at}
use Rattle.std.proofs.lemmas.Map.Entries.{sum_by-remove_entry}
use Rattle.rw_blocks.proofs.Entries.{sorted-remove_entry, values-remove_entry}
use Rattle.rw_blocks.specs.declared.Place.{Place}
use Rattle.rw_blocks.specs.declared.lists.Lists.{Lists}
use Rattle.rw_blocks.specs.Index.{home_of, place_of}
use Rattle.rw_blocks.specs.Lists.{homed_in, placed_in}
use Rattle.rw_blocks.proofs.Bytes.{row-le-bytes_of, row-le-total}
use Rattle.rw_blocks.proofs.Follows.{Follows-remove}
use Rattle.rw_blocks.proofs.rows.Rows.remove.Goals as goal

pub remove_row-requires-clause-homed_there : goal.remove_row-requires-clause-homed_there
remove_row-requires-clause-homed_there c =
    let is : lookup (is_at (nat_cmp c.args.object)) c.self.inside.rows ≡ Some c.unwrap-row.result = cc in
    omega (arith, c.self.invariant.homed.bytes c.unwrap-row.result.home, row-le-bytes_of home_of c.self.inside.rows c.args.object c.unwrap-row.result is)

pub remove_row-requires-clause-placed_there : goal.remove_row-requires-clause-placed_there
remove_row-requires-clause-placed_there c =
    let is : lookup (is_at (nat_cmp c.args.object)) c.self.inside.rows ≡ Some c.unwrap-row.result = cc in
    omega (arith, c.self.invariant.placed.bytes c.unwrap-row.result.place, row-le-bytes_of place_of c.self.inside.rows c.args.object c.unwrap-row.result is)

pub overflow_sub-self : goal.overflow_sub-self
overflow_sub-self c =
    let is : lookup (is_at (nat_cmp c.args.object)) c.self.inside.rows ≡ Some c.unwrap-row.result = cc in
    omega (arith, c.self.invariant.whole, row-le-total c.self.inside.rows c.args.object c.unwrap-row.result is)

pub invariant_of-self : goal.invariant_of-self
invariant_of-self c =
    let rows : List (ℕ × Place) = c.self.inside.rows in
    let row : Place = c.unwrap-row.result in
    let m : Lists = c.self.inside.lists in
    let n : Lists = c.remove_row.new.self in
    let is : lookup (is_at (nat_cmp c.args.object)) rows ≡ Some row = cc in
    let sum = rw is at (sum_by-remove_entry (λ (r : Place). r.size) (is_at (nat_cmp c.args.object)) rows) in
    let sized = values-remove_entry (λ (r : Place). 1 ≤ r.size) rows c.args.object c.self.invariant.sized in
    rw c.remove.ensures.rest
    (record {
      homed = Follows-remove home_of rows (homed_in m) (homed_in n) m n c.args.object row c.self.invariant.ordered is sized c.self.invariant.homed c.remove_row.ensures.homed c.remove_row.ensures.homes_list;
      placed = Follows-remove place_of rows (placed_in m) (placed_in n) m n c.args.object row c.self.invariant.ordered is sized c.self.invariant.placed c.remove_row.ensures.placed c.remove_row.ensures.places_list;
      whole = omega (arith, sum, c.self.invariant.whole);
      ordered = sorted-remove_entry rows c.args.object c.self.invariant.ordered;
      sized = sized;
    })
