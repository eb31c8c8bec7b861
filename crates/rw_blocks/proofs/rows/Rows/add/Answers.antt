use Rattle.std.proofs.Common.{arith, subst, sym, ◌≡◌, ◌≤◌, ◌+◌, ◌<◌, ◌^◌, ℕ, List}
use Rattle.std.specs.Prelude.{None}
use Rattle.std.specs.Ordering.{nat_cmp}
use Rattle.std.specs.Cmp.{nat_cmp_total}
use Rattle.std.specs.Map.{lookup, values_of}
use Rattle.rw_blocks.specs.Rows.{size_of}
use Rattle.std.specs.BTreeMap.{is_at}
use Rattle.std.proofs.lemmas.Map.Entries.{sum_by-insert_entry}
use Rattle.rw_blocks.proofs.Entries.{sorted-insert_entry, values-insert_entry}
use Rattle.rw_blocks.specs.declared.Place.{Place}
use Rattle.rw_blocks.specs.declared.lists.Lists.{Lists}
use Rattle.rw_blocks.specs.Index.{home_of, place_of}
use Rattle.rw_blocks.specs.Lists.{homed_in, placed_in}
use Rattle.rw_blocks.proofs.Bytes.{bytes_of-le}
use Rattle.rw_blocks.proofs.Follows.{Follows-insert, Follows-back, Follows-same}
use Rattle.rw_blocks.proofs.rows.Rows.add.Goals as goal

pub add_row-requires-clause-homed_fit : goal.add_row-requires-clause-homed_fit
add_row-requires-clause-homed_fit c b =
    let rows : List (ℕ × Place) = c.self.inside.rows in
    let fits : size_of (values_of rows) + c.args.row.size < 2 ^ 64 = subst (λ (es : List (ℕ × Place)). size_of (values_of es) + c.args.row.size < 2 ^ 64) (sym c.self.view_is) c.requires.room in
    omega (arith, fits, bytes_of-le home_of b rows, c.self.invariant.homed.bytes b)

pub add_row-requires-clause-placed_fit : goal.add_row-requires-clause-placed_fit
add_row-requires-clause-placed_fit c b =
    let rows : List (ℕ × Place) = c.self.inside.rows in
    let fits : size_of (values_of rows) + c.args.row.size < 2 ^ 64 = subst (λ (es : List (ℕ × Place)). size_of (values_of es) + c.args.row.size < 2 ^ 64) (sym c.self.view_is) c.requires.room in
    omega (arith, fits, bytes_of-le place_of b rows, c.self.invariant.placed.bytes b)

pub invariant_of-self : goal.invariant_of-self
invariant_of-self c =
    let rows : List (ℕ × Place) = c.self.inside.rows in
    let m : Lists = c.self.inside.lists in
    let n : Lists = c.add_row.new.self in
    record {
      homed = Follows-same home_of rows (homed_in m) (homed_in n) m n c.self.invariant.sized c.self.invariant.homed c.in_err-wide.ensures.same.homed c.in_err-wide.ensures.same.homes_list;
      placed = Follows-same place_of rows (placed_in m) (placed_in n) m n c.self.invariant.sized c.self.invariant.placed c.in_err-wide.ensures.same.placed c.in_err-wide.ensures.same.places_list;
      whole = c.self.invariant.whole;
      ordered = c.self.invariant.ordered;
      sized = c.self.invariant.sized;
    }

pub invariant_of-self-in-Err : goal.invariant_of-self-in-Err
invariant_of-self-in-Err c =
    let rows : List (ℕ × Place) = c.self.inside.rows in
    let row : Place = c.args.row in
    let m : Lists = c.self.inside.lists in
    let n : Lists = c.add_row.new.self in
    let k : Lists = c.remove_row.new.self in
    let none : lookup (is_at (nat_cmp c.args.object)) rows ≡ None = cc in
    let homed = Follows-insert home_of rows (homed_in m) (homed_in n) m n c.args.object row c.self.invariant.ordered none c.self.invariant.homed c.in_ok-wide.ensures.homed c.in_ok-wide.ensures.lists.kept c.in_ok-wide.ensures.lists.home in
    let placed = Follows-insert place_of rows (placed_in m) (placed_in n) m n c.args.object row c.self.invariant.ordered none c.self.invariant.placed c.in_ok-wide.ensures.placed c.in_ok-wide.ensures.lists.kept c.in_ok-wide.ensures.lists.place in
    rw c.in-Err.ensures.same
    (record {
      homed = Follows-back home_of rows (homed_in n) (homed_in k) n k c.args.object row c.self.invariant.ordered none c.self.invariant.sized homed c.remove_row.ensures.homed c.remove_row.ensures.homes_list;
      placed = Follows-back place_of rows (placed_in n) (placed_in k) n k c.args.object row c.self.invariant.ordered none c.self.invariant.sized placed c.remove_row.ensures.placed c.remove_row.ensures.places_list;
      whole = c.self.invariant.whole;
      ordered = c.self.invariant.ordered;
      sized = c.self.invariant.sized;
    })

pub invariant_of-self-2 : goal.invariant_of-self-2
invariant_of-self-2 c =
    let rows : List (ℕ × Place) = c.self.inside.rows in
    let row : Place = c.args.row in
    let m : Lists = c.self.inside.lists in
    let n : Lists = c.add_row.new.self in
    let none : lookup (is_at (nat_cmp c.args.object)) rows ≡ None = cc in
    let sum = rw none at (sum_by-insert_entry (λ (r : Place). r.size) nat_cmp_total rows c.args.object row c.self.invariant.ordered) in
    rw c.in_default.ensures.put
    (record {
      homed = Follows-insert home_of rows (homed_in m) (homed_in n) m n c.args.object row c.self.invariant.ordered none c.self.invariant.homed c.in_ok-wide.ensures.homed c.in_ok-wide.ensures.lists.kept c.in_ok-wide.ensures.lists.home;
      placed = Follows-insert place_of rows (placed_in m) (placed_in n) m n c.args.object row c.self.invariant.ordered none c.self.invariant.placed c.in_ok-wide.ensures.placed c.in_ok-wide.ensures.lists.kept c.in_ok-wide.ensures.lists.place;
      whole = omega (arith, sum, c.self.invariant.whole);
      ordered = sorted-insert_entry rows c.args.object row c.self.invariant.ordered;
      sized = values-insert_entry (λ (r : Place). 1 ≤ r.size) rows c.args.object row c.self.invariant.sized c.requires.sized;
    })
