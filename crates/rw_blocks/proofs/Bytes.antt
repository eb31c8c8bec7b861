-- The bytes of a block's rows: no more than those of all rows, and no fewer than those of each.
use Rattle.std.proofs.Common.{◌≡◌, ℕ, ◌+◌, ◌≤◌, List, refl, arith, Bool, true, false, cond, nat_eq}
use Rattle.std.specs.Prelude.{Some}
use Rattle.std.specs.Ordering.{nat_cmp}
use Rattle.std.specs.Map.{lookup, remove_entry, values_of}
use Rattle.std.specs.BTreeMap.{is_at}
use Rattle.std.proofs.lemmas.Map.Entries.{sum_by-remove_entry}
use Rattle.std.proofs.lemmas.List.Sums.{sum_by-le-sum_by}
use Rattle.std.proofs.lemmas.Bool.{eq-eqb, ne_eqb}
use Rattle.rw_blocks.specs.declared.Place.{Place}
use Rattle.rw_blocks.specs.Rows.{size_of}
use Rattle.rw_blocks.specs.Index.{weight_of, bytes_of}

pub bytes_of-le : (key : Place → ℕ) (b : ℕ) (rows : List (ℕ × Place)) → bytes_of key b rows ≤ size_of (values_of rows)
bytes_of-le key b rows = sum_by-le-sum_by (weight_of key b) (λ r. r.size) (values_of rows) (λ r. part (nat_eq (key r) b) r.size)
  where
    part : (t : Bool) (n : ℕ) → cond t n 0 ≤ n
    part true n = omega arith
    part false n = omega arith

-- a row weighs no more than its block
pub row-le-bytes_of : (key : Place → ℕ) (rows : List (ℕ × Place)) (o : ℕ) (r : Place) → lookup (is_at (nat_cmp o)) rows ≡ Some r → r.size ≤ bytes_of key (key r) rows
row-le-bytes_of key rows o r is =
    let sum = rw is at (sum_by-remove_entry (weight_of key (key r)) (is_at (nat_cmp o)) rows) in
    let one : weight_of key (key r) r ≡ r.size = rw (eq-eqb (key r) (key r) refl) refl in
    omega (arith, sum, one)

pub row-le-total : (rows : List (ℕ × Place)) (o : ℕ) (r : Place) → lookup (is_at (nat_cmp o)) rows ≡ Some r → r.size ≤ size_of (values_of rows)
row-le-total rows o r is =
    let sum = rw is at (sum_by-remove_entry (λ x. x.size) (is_at (nat_cmp o)) rows) in
    omega (arith, sum)

-- a block that is not a row's has room for the row
pub others-room : (key : Place → ℕ) (b : ℕ) (rows : List (ℕ × Place)) (o : ℕ) (r : Place) → lookup (is_at (nat_cmp o)) rows ≡ Some r → (key r ≡ b → ⊥) → bytes_of key b rows + r.size ≤ size_of (values_of rows)
others-room key b rows o r is apart =
    let block = rw is at (sum_by-remove_entry (weight_of key b) (is_at (nat_cmp o)) rows) in
    let all = rw is at (sum_by-remove_entry (λ x. x.size) (is_at (nat_cmp o)) rows) in
    let none : weight_of key b r ≡ 0 = rw (ne_eqb (key r) b apart) refl in
    omega (arith, block, all, none, bytes_of-le key b (remove_entry (is_at (nat_cmp o)) rows))
