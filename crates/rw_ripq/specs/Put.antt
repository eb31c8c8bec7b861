-- Put: an object comes into the active device block of a section; where it does not fit, that block is sealed first.
use Rattle.std.specs.Prelude.{◌+◌, Bool, if◌then◌else◌, nat_le}
use Rattle.rw_numbers.specs.Words.{Object, Section, Size}
use Rattle.rw_blocks.specs.declared.Kind.{Kind}
use Rattle.rw_blocks.specs.declared.Kind.TheVariants.{Device}
use Rattle.rw_blocks.specs.Sections.{active_of}
use Rattle.rw_blocks.specs.State.{QueueState, section_at, row_or}
use Rattle.rw_blocks.specs.Sums.{bytes_held}
use Rattle.rw_blocks.specs.Primitives.{after_add, after_rehome, after_seal}

-- whether the size fits the section's active block of the kind
abbrev pub is_room : QueueState → Kind → Section → Size → Bool
is_room q kind i z = nat_le (bytes_held kind q (active_of kind (section_at q i)) + z) q.shape.block

-- room for the size: where it does not fit the section's active block of the kind, that block is sealed
abbrev pub with_room : QueueState → Kind → Section → Size → QueueState
with_room q kind i z = if is_room q kind i z then q else after_seal q i kind

-- put an object that is not stored
abbrev pub put_new : QueueState → Object → Size → Section → QueueState
put_new q o z i = after_add (with_room q Device i z) o z i

-- put an object that is stored: it is written again
abbrev pub put_again : QueueState → Object → Section → QueueState
put_again q o i = after_rehome (with_room q Device i (row_or q o).size) o i
