-- The list of a block's objects only grows: it has each object whose row names the block, and may have others, and
-- some of them more than once. The rows tell which entries count.
use Rattle.std.specs.Prelude.{◌≡◌, Bool, false, List, [], ◌∷◌, ◌++◌, Option, Some, None, nat_eq, filter, if◌then◌else◌, ◌||◌}
use Rattle.std.specs.List.{Contains}
use Rattle.rw_numbers.specs.Words.{Object, Serial}
use Rattle.rw_blocks.specs.declared.Place.{Place}
use Rattle.rw_blocks.specs.declared.listed.Role.{Role}
use Rattle.rw_blocks.specs.declared.listed.Role.TheVariants.{Home, Priority}
use Rattle.rw_blocks.specs.Rows.{row_in}
use Rattle.rw_blocks.specs.Index.{home_of, place_of}

-- the block that a row names
abbrev pub key_of : Role → Place → Serial
key_of Home = home_of
key_of Priority = place_of

-- whether a row, if there is one, names the block
abbrev pub is_of : (Place → Serial) → Serial → Option Place → Bool
is_of key b None = false
is_of key b (Some r) = nat_eq (key r) b

-- whether a row, if there is one, names the block as its home or as its place
abbrev pub names_block : Serial → Option Place → Bool
names_block b None = false
names_block b (Some r) = nat_eq r.home b || nat_eq r.place b

-- whether an object's row names the block
abbrev pub counts : (Place → Serial) → Serial → List (Object × Place) → Object → Bool
counts key b rows o = is_of key b (row_in rows o)

-- the entries that count
abbrev pub counted : (Place → Serial) → Serial → List (Object × Place) → List Object → List Object
counted key b rows list = filter (counts key b rows) list

-- each object whose row names the block stands in the list
abbrev pub Covers : (Place → Serial) → Serial → List Object → List (Object × Place) → Type 0
Covers key b list rows =
    (o : Object) (r : Place) → row_in rows o ≡ Some r → key r ≡ b → Contains list o

-- the list of block b, after an object was appended to that of block c
abbrev pub appended : Serial → Serial → List Object → Object → List Object
appended c b list o = if nat_eq c b then list ++ o ∷ [] else list
