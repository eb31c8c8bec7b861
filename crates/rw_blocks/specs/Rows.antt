-- Rows by their objects: they stand in the order of these, one for each.
use Rattle.std.specs.Prelude.{List, Option, sum_by}
use Rattle.std.specs.Ordering.{nat_cmp}
use Rattle.std.specs.Map.{lookup, remove_entry}
use Rattle.std.specs.BTreeMap.{insert_entry, is_at}
use Rattle.rw_numbers.specs.Words.{Object, Serial, Size}
use Rattle.rw_blocks.specs.declared.Place.{Place}

-- the row of an object, if it has one
abbrev pub row_in : List (Object × Place) → Object → Option Place
row_in rows o = lookup (is_at (nat_cmp o)) rows

-- the rows with another one for the object, or with none
abbrev pub rows_with : List (Object × Place) → Object → Place → List (Object × Place)
rows_with rows o r = insert_entry nat_cmp rows o r

abbrev pub rows_without : List (Object × Place) → Object → List (Object × Place)
rows_without rows o = remove_entry (is_at (nat_cmp o)) rows

-- a row whose home is also its place
abbrev pub row_homed : Size → Serial → Place
row_homed z b = record { size = z; home = b; place = b }

-- the bytes of all of them
abbrev pub size_of : List Place → Size
size_of rows = sum_by (λ r. r.size) rows
