-- Promote: a hit raises an object's priority by a virtual block, without writing it.
use Rattle.std.specs.Prelude.{Bool, if◌then◌else◌, ◌||◌, nat_eq}
use Rattle.rw_numbers.specs.Words.{Object, Section, Serial}
use Rattle.rw_blocks.specs.declared.Kind.TheVariants.{Virtual}
use Rattle.rw_blocks.specs.State.{QueueState, section_at, row_or}
use Rattle.rw_blocks.specs.Primitives.{after_replace}
use Rattle.rw_ripq.specs.declared.Policy.{Policy}
use Rattle.rw_ripq.specs.Put.{with_room}
use Rattle.rw_ripq.specs.Sealed.{without_if_emptied}
use Rattle.rw_ripq.specs.Levels.{hit_target}

-- whether the block is one of the section's two active ones
abbrev pub is_active_in : QueueState → Serial → Section → Bool
is_active_in q b i =
    let s = section_at q i in
    nat_eq b s.active_device || nat_eq b s.active_virtual

-- unless its place is an active block of the section already, the object's place becomes the section's active virtual
-- block, which is sealed first where the size does not fit; the old place is taken out where that empties it
abbrev pub promote_to : QueueState → Object → Section → QueueState
promote_to q o i =
    let r = row_or q o in
    if is_active_in q r.place i
    then q
    else without_if_emptied (after_replace (with_room q Virtual i r.size) o i) r.place

-- the section is the target of the level to which a hit raises the object
abbrev pub promote : Policy → QueueState → Object → QueueState
promote policy q o = promote_to q o (hit_target policy q o)
