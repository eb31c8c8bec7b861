use Rattle.std.proofs.Common.{arith, ap, subst, sym, refl, ◌≡◌, ◌≤◌, ◌+◌, ◌<◌, ◌^◌, ℕ, List}
use Rattle.std.specs.Prelude.{None}
use Rattle.std.specs.Ordering.{nat_cmp}
use Rattle.std.specs.Cmp.{nat_cmp_total}
use Rattle.std.specs.Map.{lookup, values_of}
use Rattle.std.specs.BTreeMap.{is_at}
use Rattle.std.proofs.lemmas.Map.Entries.{sum_by-insert_entry}
use Rattle.rw_blocks.specs.declared.Place.{Place}
use Rattle.rw_blocks.specs.declared.lists.Lists.{Lists}
use Rattle.rw_blocks.specs.Rows.{row_homed, size_of}
use Rattle.rw_blocks.specs.Index.{home_of, place_of, bytes_of}
use Rattle.rw_blocks.specs.Lists.{homed_in, placed_in, Gains, Appends, Same, HasCome}
use Rattle.rw_blocks.proofs.Entries.{sorted-insert_entry, values-insert_entry}
use Rattle.rw_blocks.proofs.Bytes.{bytes_of-le}
use Rattle.rw_blocks.proofs.Errors.{at_some, when_none}
use Rattle.rw_blocks.proofs.Follows.{Follows-insert, Follows-back, come-once, Gains-own, IsListed-same}
use Rattle.rw_blocks.proofs.rows.Rows.add_within.Goals as goal

pub add_within-requires-clause-homed_fit : goal.add_within-requires-clause-homed_fit
add_within-requires-clause-homed_fit c =
    let rows : List (ℕ × Place) = c.self.inside.rows in
    let fits : size_of (values_of rows) + c.args.size < 2 ^ 64 = subst (λ (es : List (ℕ × Place)). size_of (values_of es) + c.args.size < 2 ^ 64) (sym c.self.view_is) c.requires.room in
    omega (arith, fits, bytes_of-le home_of c.args.block rows, c.self.invariant.homed.bytes c.args.block)

pub add_within-requires-clause-placed_fit : goal.add_within-requires-clause-placed_fit
add_within-requires-clause-placed_fit c =
    let rows : List (ℕ × Place) = c.self.inside.rows in
    let fits : size_of (values_of rows) + c.args.size < 2 ^ 64 = subst (λ (es : List (ℕ × Place)). size_of (values_of es) + c.args.size < 2 ^ 64) (sym c.self.view_is) c.requires.room in
    omega (arith, fits, bytes_of-le place_of c.args.block rows, c.self.invariant.placed.bytes c.args.block)

pub invariant_of-self : goal.invariant_of-self
invariant_of-self c = IsListed-same _ _ _ _ c.self.invariant c.in_err-wide.ensures.same

pub invariant_of-self-in_default : goal.invariant_of-self-in_default
invariant_of-self-in_default c = IsListed-same _ _ _ _ c.self.invariant (when_none (Same c.self.inside.lists c.add_within.new.self) c.in_ok-wide.field-0 c.in_default.is c.in_ok-wide.ensures.full)

pub invariant_of-self-in-Err : goal.invariant_of-self-in-Err
invariant_of-self-in-Err c =
    let rows : List (ℕ × Place) = c.self.inside.rows in
    let b : ℕ = c.args.block in
    let z : ℕ = c.args.size in
    let row : Place = row_homed z b in
    let o : ℕ = c.args.object in
    let m : Lists = c.self.inside.lists in
    let n : Lists = c.add_within.new.self in
    let k : Lists = c.remove_row.new.self in
    let none : lookup (is_at (nat_cmp o)) rows ≡ None = cc in
    let at_home : Gains (homed_in m) (homed_in n) b z = at_some (λ w. Gains (homed_in m) (homed_in n) b z) c.in_ok-wide.field-0 c.in-Some.wide c.in-Some.is c.in_ok-wide.ensures.homed in
    let at_place : Gains (placed_in m) (placed_in n) b z = at_some (λ w. Gains (placed_in m) (placed_in n) b z) c.in_ok-wide.field-0 c.in-Some.wide c.in-Some.is c.in_ok-wide.ensures.placed in
    let list : Appends m n b o = at_some (λ w. Appends m n b o) c.in_ok-wide.field-0 c.in-Some.wide c.in-Some.is c.in_ok-wide.ensures.list in
    let come : HasCome m n o row = come-once m n o row refl list in
    let homed = Follows-insert home_of rows (homed_in m) (homed_in n) m n o row c.self.invariant.ordered none c.self.invariant.homed at_home come.kept come.home in
    let placed = Follows-insert place_of rows (placed_in m) (placed_in n) m n o row c.self.invariant.ordered none c.self.invariant.placed at_place come.kept come.place in
    rw c.in-Err.ensures.same
    (record {
      homed = Follows-back home_of rows (homed_in n) (homed_in k) n k o row c.self.invariant.ordered none c.self.invariant.sized homed c.remove_row.ensures.homed c.remove_row.ensures.homes_list;
      placed = Follows-back place_of rows (placed_in n) (placed_in k) n k o row c.self.invariant.ordered none c.self.invariant.sized placed c.remove_row.ensures.placed c.remove_row.ensures.places_list;
      whole = c.self.invariant.whole;
      ordered = c.self.invariant.ordered;
      sized = c.self.invariant.sized;
    })

pub invariant_of-self-2 : goal.invariant_of-self-2
invariant_of-self-2 c =
    let rows : List (ℕ × Place) = c.self.inside.rows in
    let b : ℕ = c.args.block in
    let z : ℕ = c.args.size in
    let row : Place = row_homed z b in
    let o : ℕ = c.args.object in
    let m : Lists = c.self.inside.lists in
    let n : Lists = c.add_within.new.self in
    let none : lookup (is_at (nat_cmp o)) rows ≡ None = cc in
    let at_home : Gains (homed_in m) (homed_in n) b z = at_some (λ w. Gains (homed_in m) (homed_in n) b z) c.in_ok-wide.field-0 c.in-Some.wide c.in-Some.is c.in_ok-wide.ensures.homed in
    let at_place : Gains (placed_in m) (placed_in n) b z = at_some (λ w. Gains (placed_in m) (placed_in n) b z) c.in_ok-wide.field-0 c.in-Some.wide c.in-Some.is c.in_ok-wide.ensures.placed in
    let list : Appends m n b o = at_some (λ w. Appends m n b o) c.in_ok-wide.field-0 c.in-Some.wide c.in-Some.is c.in_ok-wide.ensures.list in
    let come : HasCome m n o row = come-once m n o row refl list in
    let sum = rw none at (sum_by-insert_entry (λ (r : Place). r.size) nat_cmp_total rows o row c.self.invariant.ordered) in
    rw c.in_default-insert.ensures.put
    (record {
      homed = Follows-insert home_of rows (homed_in m) (homed_in n) m n o row c.self.invariant.ordered none c.self.invariant.homed at_home come.kept come.home;
      placed = Follows-insert place_of rows (placed_in m) (placed_in n) m n o row c.self.invariant.ordered none c.self.invariant.placed at_place come.kept come.place;
      whole = omega (arith, sum, c.self.invariant.whole);
      ordered = sorted-insert_entry rows o row c.self.invariant.ordered;
      sized = values-insert_entry (λ (r : Place). 1 ≤ r.size) rows o row c.self.invariant.sized c.requires.sized;
    })

pub returns-clause-fits : goal.returns-clause-fits
returns-clause-fits c =
    let rows : List (ℕ × Place) = c.self.inside.rows in
    let m : Lists = c.self.inside.lists in
    let n : Lists = c.add_within.new.self in
    let b : ℕ = c.args.block in
    let z : ℕ = c.args.size in
    let gains : Gains (homed_in m) (homed_in n) b z = at_some (λ w. Gains (homed_in m) (homed_in n) b z) c.in_ok-wide.field-0 c.in-Some.wide c.in-Some.is c.in_ok-wide.ensures.homed in
    let most : homed_in n b ≤ c.args.most = (at_some (λ w. (homed_in n b ≤ c.args.most) × (placed_in n b ≤ c.args.most)) c.in_ok-wide.field-0 c.in-Some.wide c.in-Some.is c.in_ok-wide.ensures.fits).0 in
    let more : homed_in n b ≡ homed_in m b + z = Gains-own (homed_in m) (homed_in n) b z gains in
    let same : bytes_of home_of b c.args.self.now ≡ bytes_of home_of b rows = ap (bytes_of home_of b) (sym c.self.view_is) in
    λ t. omega (arith, most, more, same, c.self.invariant.homed.bytes b)
