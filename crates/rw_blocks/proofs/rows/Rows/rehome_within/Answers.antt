use Rattle.std.proofs.Common.{arith, ap, subst, sym, refl, ◌∙◌, ◌≡◌, ◌≤◌, ◌+◌, ◌<◌, ◌^◌, ℕ, List}
use Rattle.std.specs.Prelude.{Some}
use Rattle.std.specs.Ordering.{nat_cmp}
use Rattle.std.specs.Cmp.{nat_cmp_total}
use Rattle.std.specs.Map.{lookup, values_of}
use Rattle.std.specs.BTreeMap.{is_at}
use Rattle.std.proofs.lemmas.Map.Entries.{sum_by-insert_entry}
use Rattle.rw_blocks.specs.declared.Place.{Place}
use Rattle.rw_blocks.specs.declared.lists.Lists.{Lists}
use Rattle.rw_blocks.specs.Rows.{row_homed, size_of}
use Rattle.rw_blocks.specs.Index.{home_of, place_of, bytes_of}
use Rattle.rw_blocks.specs.Lists.{homed_in, placed_in, Gains, Appends, Same}
use Rattle.rw_blocks.proofs.Entries.{sorted-insert_entry, values-insert_entry, found-value}
use Rattle.rw_blocks.proofs.Bytes.{bytes_of-le, row-le-bytes_of}
use Rattle.rw_blocks.proofs.Errors.{at_some, when_none}
use Rattle.rw_blocks.proofs.Follows.{Follows-moved, Gains-own, IsListed-same}
use Rattle.rw_blocks.proofs.rows.Rows.rehome_within.Goals as goal

pub add_within-requires-clause-homed_fit : goal.add_within-requires-clause-homed_fit
add_within-requires-clause-homed_fit c =
    let rows : List (ℕ × Place) = c.self.inside.rows in
    let fits : size_of (values_of rows) + c.args.row.size < 2 ^ 64 = subst (λ (es : List (ℕ × Place)). size_of (values_of es) + c.args.row.size < 2 ^ 64) (sym c.self.view_is) c.requires.room in
    omega (arith, fits, bytes_of-le home_of c.args.block rows, c.self.invariant.homed.bytes c.args.block)

pub add_within-requires-clause-placed_fit : goal.add_within-requires-clause-placed_fit
add_within-requires-clause-placed_fit c =
    let rows : List (ℕ × Place) = c.self.inside.rows in
    let fits : size_of (values_of rows) + c.args.row.size < 2 ^ 64 = subst (λ (es : List (ℕ × Place)). size_of (values_of es) + c.args.row.size < 2 ^ 64) (sym c.self.view_is) c.requires.room in
    omega (arith, fits, bytes_of-le place_of c.args.block rows, c.self.invariant.placed.bytes c.args.block)

pub invariant_of-self : goal.invariant_of-self
invariant_of-self c = IsListed-same _ _ _ _ c.self.invariant c.in_err-wide.ensures.same

pub invariant_of-self-in_default : goal.invariant_of-self-in_default
invariant_of-self-in_default c = IsListed-same _ _ _ _ c.self.invariant (when_none (Same c.self.inside.lists c.add_within.new.self) c.in_ok-wide.field-0 c.in_default.is c.in_ok-wide.ensures.full)

pub remove_row-requires-clause-homed_there : goal.remove_row-requires-clause-homed_there
remove_row-requires-clause-homed_there c =
    let rows : List (ℕ × Place) = c.self.inside.rows in
    let b : ℕ = c.args.block in
    let z : ℕ = c.args.row.size in
    let row : Place = c.args.row in
    let o : ℕ = c.args.object in
    let m : Lists = c.self.inside.lists in
    let n : Lists = c.add_within.new.self in
    let is : lookup (is_at (nat_cmp o)) rows ≡ Some row = ap (λ (es : List (ℕ × Place)). lookup (is_at (nat_cmp o)) es) c.self.view_is ∙ c.requires.row in
    let at_home : Gains (homed_in m) (homed_in n) b z = at_some (λ w. Gains (homed_in m) (homed_in n) b z) c.in_ok-wide.field-0 c.in-Some.wide c.in-Some.is c.in_ok-wide.ensures.homed in
    let at_place : Gains (placed_in m) (placed_in n) b z = at_some (λ w. Gains (placed_in m) (placed_in n) b z) c.in_ok-wide.field-0 c.in-Some.wide c.in-Some.is c.in_ok-wide.ensures.placed in
    omega (arith, row-le-bytes_of home_of rows o row is, c.self.invariant.homed.bytes row.home, at_home row.home)

pub remove_row-requires-clause-placed_there : goal.remove_row-requires-clause-placed_there
remove_row-requires-clause-placed_there c =
    let rows : List (ℕ × Place) = c.self.inside.rows in
    let b : ℕ = c.args.block in
    let z : ℕ = c.args.row.size in
    let row : Place = c.args.row in
    let o : ℕ = c.args.object in
    let m : Lists = c.self.inside.lists in
    let n : Lists = c.add_within.new.self in
    let is : lookup (is_at (nat_cmp o)) rows ≡ Some row = ap (λ (es : List (ℕ × Place)). lookup (is_at (nat_cmp o)) es) c.self.view_is ∙ c.requires.row in
    let at_home : Gains (homed_in m) (homed_in n) b z = at_some (λ w. Gains (homed_in m) (homed_in n) b z) c.in_ok-wide.field-0 c.in-Some.wide c.in-Some.is c.in_ok-wide.ensures.homed in
    let at_place : Gains (placed_in m) (placed_in n) b z = at_some (λ w. Gains (placed_in m) (placed_in n) b z) c.in_ok-wide.field-0 c.in-Some.wide c.in-Some.is c.in_ok-wide.ensures.placed in
    omega (arith, row-le-bytes_of place_of rows o row is, c.self.invariant.placed.bytes row.place, at_place row.place)

pub set-requires : goal.set-requires
set-requires c =
    let is : lookup (is_at (nat_cmp c.args.object)) c.self.inside.rows ≡ Some c.args.row = ap (λ (es : List (ℕ × Place)). lookup (is_at (nat_cmp c.args.object)) es) c.self.view_is ∙ c.requires.row in
    rw is refl

pub invariant_of-self-2 : goal.invariant_of-self-2
invariant_of-self-2 c =
    let rows : List (ℕ × Place) = c.self.inside.rows in
    let b : ℕ = c.args.block in
    let z : ℕ = c.args.row.size in
    let row : Place = c.args.row in
    let o : ℕ = c.args.object in
    let m : Lists = c.self.inside.lists in
    let n : Lists = c.add_within.new.self in
    let is : lookup (is_at (nat_cmp o)) rows ≡ Some row = ap (λ (es : List (ℕ × Place)). lookup (is_at (nat_cmp o)) es) c.self.view_is ∙ c.requires.row in
    let at_home : Gains (homed_in m) (homed_in n) b z = at_some (λ w. Gains (homed_in m) (homed_in n) b z) c.in_ok-wide.field-0 c.in-Some.wide c.in-Some.is c.in_ok-wide.ensures.homed in
    let at_place : Gains (placed_in m) (placed_in n) b z = at_some (λ w. Gains (placed_in m) (placed_in n) b z) c.in_ok-wide.field-0 c.in-Some.wide c.in-Some.is c.in_ok-wide.ensures.placed in
    let new : Place = row_homed z b in
    let k : Lists = c.remove_row.new.self in
    let list : Appends m n b o = at_some (λ w. Appends m n b o) c.in_ok-wide.field-0 c.in-Some.wide c.in-Some.is c.in_ok-wide.ensures.list in
    let sum = rw is at (sum_by-insert_entry (λ (r : Place). r.size) nat_cmp_total rows o new c.self.invariant.ordered) in
    let sized = values-insert_entry (λ (r : Place). 1 ≤ r.size) rows o new c.self.invariant.sized (found-value (λ (r : Place). 1 ≤ r.size) rows o row c.self.invariant.sized is) in
    rw c.set.ensures
    (record {
      homed = Follows-moved home_of rows (homed_in m) (homed_in n) (homed_in k) m n k o row new c.self.invariant.ordered is refl sized c.self.invariant.homed at_home list c.remove_row.ensures.homed c.remove_row.ensures.homes_list;
      placed = Follows-moved place_of rows (placed_in m) (placed_in n) (placed_in k) m n k o row new c.self.invariant.ordered is refl sized c.self.invariant.placed at_place list c.remove_row.ensures.placed c.remove_row.ensures.places_list;
      whole = omega (arith, sum, c.self.invariant.whole);
      ordered = sorted-insert_entry rows o new c.self.invariant.ordered;
      sized = sized;
    })

pub returns-clause-fits : goal.returns-clause-fits
returns-clause-fits c =
    let rows : List (ℕ × Place) = c.self.inside.rows in
    let m : Lists = c.self.inside.lists in
    let n : Lists = c.add_within.new.self in
    let b : ℕ = c.args.block in
    let z : ℕ = c.args.row.size in
    let gains : Gains (homed_in m) (homed_in n) b z = at_some (λ w. Gains (homed_in m) (homed_in n) b z) c.in_ok-wide.field-0 c.in-Some.wide c.in-Some.is c.in_ok-wide.ensures.homed in
    let most : homed_in n b ≤ c.args.most = (at_some (λ w. (homed_in n b ≤ c.args.most) × (placed_in n b ≤ c.args.most)) c.in_ok-wide.field-0 c.in-Some.wide c.in-Some.is c.in_ok-wide.ensures.fits).0 in
    let more : homed_in n b ≡ homed_in m b + z = Gains-own (homed_in m) (homed_in n) b z gains in
    let same : bytes_of home_of b c.args.self.now ≡ bytes_of home_of b rows = ap (bytes_of home_of b) (sym c.self.view_is) in
    λ t. omega (arith, most, more, same, c.self.invariant.homed.bytes b)
