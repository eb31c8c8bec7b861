-- What the index of the rows says, by the block that is a row's home or its place.
use Rattle.std.specs.Prelude.{List, if◌then◌else◌, nat_eq, filter, sum_by}
use Rattle.std.specs.Map.{values_of, keys_of}
use Rattle.rw_numbers.specs.Words.{Object, Serial, Size}
use Rattle.rw_blocks.specs.declared.Place.{Place}

abbrev pub home_of : Place → Serial
home_of r = r.home

abbrev pub place_of : Place → Serial
place_of r = r.place

-- the rows that a key leads to the block: their bytes, and their objects in rising order
abbrev pub weight_of : (Place → Serial) → Serial → Place → Size
weight_of key b r = if nat_eq (key r) b then r.size else 0

abbrev pub bytes_of : (Place → Serial) → Serial → List (Object × Place) → Size
bytes_of key b rows = sum_by (weight_of key b) (values_of rows)

abbrev pub objects_of : (Place → Serial) → Serial → List (Object × Place) → List Object
objects_of key b rows = keys_of (filter (λ e. nat_eq (key e.1) b) rows)
