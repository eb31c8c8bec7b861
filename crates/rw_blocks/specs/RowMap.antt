-- A map by object as a list.
use Rattle.std.specs.Prelude.{List, [], ◌∷◌}
use Rattle.std.specs.Ordering.{nat_cmp}
use Rattle.std.specs.BTreeMap.{insert_entry}
use Rattle.rw_numbers.specs.Words.{Object}

-- the entries, in the rising order of their objects
unfoldable pub by_object : {X : Type 0} → List (Object × X) → List (Object × X)
by_object [] = []
by_object (e ∷ es) = insert_entry nat_cmp (by_object es) e.0 e.1
