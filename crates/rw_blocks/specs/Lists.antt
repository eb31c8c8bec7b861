-- What the bytes and the lists of all blocks say of the rows.
use Rattle.std.specs.Prelude.{All, ◌≡◌, ◌+◌, ◌≤◌, if◌then◌else◌, List, [], nat_eq, unwrap_or}
use Rattle.std.specs.Option.{option_map}
use Rattle.std.specs.List.{Contains}
use Rattle.std.specs.HashMap.{get}
use Rattle.std.specs.Ordering.{nat_cmp}
use Rattle.std.specs.List.Sorted.{IsStrictlySortedBy}
use Rattle.std.specs.Map.{values_of, keys_of}
use Rattle.rw_numbers.specs.Words.{Object, Serial, Size}
use Rattle.rw_blocks.specs.declared.Place.{Place}
use Rattle.rw_blocks.specs.declared.lists.Lists.{Lists}
use Rattle.rw_blocks.specs.Index.{bytes_of, home_of, place_of}
use Rattle.rw_blocks.specs.Rows.{size_of}
use Rattle.rw_blocks.specs.Covering.{Covers, appended}

-- the bytes of the rows whose home a block is, and of those whose place it is, and the block's list
unfoldable pub homed_in : Lists → Serial → Size
homed_in m b = unwrap_or (option_map (λ e. e.bytes.homed) (get nat_eq m.blocks b)) 0

unfoldable pub placed_in : Lists → Serial → Size
placed_in m b = unwrap_or (option_map (λ e. e.bytes.placed) (get nat_eq m.blocks b)) 0

unfoldable pub list_in : Lists → Serial → List Object
list_in m b = unwrap_or (option_map (λ e. e.objects) (get nat_eq m.blocks b)) []

-- ---- what a change does to all blocks
-- one block's bytes are more after than before, or less, and the others' are the same
abbrev pub Gains : (Serial → Size) → (Serial → Size) → Serial → Size → Type 0
Gains before after b z = (c : Serial) → after c ≡ before c + (if nat_eq b c then z else 0)

abbrev pub Loses : (Serial → Size) → (Serial → Size) → Serial → Size → Type 0
Loses before after b z = (c : Serial) → after c + (if nat_eq b c then z else 0) ≡ before c

-- each block's bytes are the same
abbrev pub SameBytes : (Serial → Size) → (Serial → Size) → Type 0
SameBytes before after = (c : Serial) → after c ≡ before c

-- an object is appended to a block's list, and the other lists stay
abbrev pub Appends : Lists → Lists → Serial → Object → Type 0
Appends before after b o = (c : Serial) → list_in after c ≡ appended b c (list_in before c) o

-- the list of each block that has bytes stays
abbrev pub Stays : (Serial → Size) → Lists → Lists → Type 0
Stays bytes before after = (c : Serial) → 1 ≤ bytes c → list_in after c ≡ list_in before c

-- the list of each block that has bytes has all that it had
abbrev pub Grows : (Serial → Size) → Lists → Lists → Type 0
Grows bytes before after =
    (c : Serial)
    → 1 ≤ bytes c
    → (o : Object) → Contains (list_in before c) o → Contains (list_in after c) o

-- a list that covers its block covers it still
abbrev pub StaysCovered : (Place → Serial) → List (Object × Place) → Lists → Lists → Type 0
StaysCovered key rows before after =
    (c : Serial) → Covers key c (list_in before c) rows → Covers key c (list_in after c) rows

-- all of each block is the same
pub record Same (before after : Lists) : Type 0 where
  pub homed : SameBytes (homed_in before) (homed_in after)
  pub placed : SameBytes (placed_in before) (placed_in after)
  pub list : (c : Serial) → list_in after c ≡ list_in before c

-- an object's row comes: its home and its place have the object, and each list has all that it had
pub record HasCome (before after : Lists) (o : Object) (r : Place) : Type 0 where
  pub kept :
      (c : Serial) (q : Object)
      → Contains (list_in before c) q → Contains (list_in after c) q
  pub home : Contains (list_in after r.home) o
  pub place : Contains (list_in after r.place) o

-- all rows are the same; a list may have objects besides
pub record SameRows (before after : Lists) : Type 0 where
  pub homed : SameBytes (homed_in before) (homed_in after)
  pub placed : SameBytes (placed_in before) (placed_in after)
  pub homes_list : Grows (homed_in after) before after
  pub places_list : Grows (placed_in after) before after

-- ---- what always holds
-- the bytes of each block are those of the rows that a key leads to it, and its list covers it
pub record IsFiled
    (key : Place → Serial) (rows : List (Object × Place))
    (held : Serial → Size) (m : Lists) : Type 0 where
  pub bytes : (b : Serial) → held b ≡ bytes_of key b rows
  pub covers : (b : Serial) → Covers key b (list_in m b) rows

-- the rows, the bytes and the lists of the blocks, and the bytes of all rows, of which each has some
pub record IsListed (rows : List (Object × Place)) (m : Lists) (total : Size) : Type 0 where
  pub homed : IsFiled home_of rows (homed_in m) m
  pub placed : IsFiled place_of rows (placed_in m) m
  pub whole : total ≡ size_of (values_of rows)
  pub ordered : IsStrictlySortedBy nat_cmp (keys_of rows)
  pub sized : All (λ r. 1 ≤ r.size) (values_of rows)
