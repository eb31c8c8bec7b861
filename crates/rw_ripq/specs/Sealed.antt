-- Where a block stands, and the queue without a sealed one.
use Rattle.std.specs.Prelude.{Bool, if◌then◌else◌, ◌&&◌, length, nat_eq, sum_by, unwrap_or}
use Rattle.std.specs.List.{list_any, position_or_len}
use Rattle.rw_vt.specs.Words.{Count, Position}
use Rattle.rw_numbers.specs.Words.{Section, Serial}
use Rattle.rw_blocks.specs.declared.Kind.TheVariants.{Device}
use Rattle.rw_blocks.specs.Sections.{SectionState, has_serial, is_block}
use Rattle.rw_blocks.specs.State.{QueueState, section_at}
use Rattle.rw_blocks.specs.Sums.{rows_homed, rows_placed}
use Rattle.rw_blocks.specs.Loose.{is_sealed_virtual}
use Rattle.rw_blocks.specs.Primitives.{after_take_out}
use Rattle.rw_blocks.specs.Questions.{section_of}

-- the section that has the block, the head where there is none
abbrev pub section_with : QueueState → Serial → Section
section_with q b = unwrap_or (section_of q b) 0

-- whether the block is sealed: in a section, in the queue
abbrev pub has_sealed : Serial → SectionState → Bool
has_sealed b s = list_any (has_serial b) s.sealed

abbrev pub is_sealed : QueueState → Serial → Bool
is_sealed q b = list_any (has_sealed b) q.sections

-- how many blocks are sealed
abbrev pub sealed_blocks : QueueState → Count
sealed_blocks q = sum_by (λ s. length s.sealed) q.sections

-- the section in whose sealed list the block stands, and its position there
abbrev pub sealed_section : QueueState → Serial → Section
sealed_section q b = position_or_len (has_sealed b) q.sections

abbrev pub sealed_position : QueueState → Serial → Position
sealed_position q b = position_or_len (has_serial b) (section_at q (sealed_section q b)).sealed

-- the queue without a sealed block
abbrev pub without_block : QueueState → Serial → QueueState
without_block q b = after_take_out q (sealed_section q b) (sealed_position q b)

-- whether it is a sealed virtual block that no row has as its place
abbrev pub is_emptied : QueueState → Serial → Bool
is_emptied q b = is_sealed_virtual q b && nat_eq (length (rows_placed q b)) 0

-- a sealed virtual block without rows is taken out
abbrev pub without_if_emptied : QueueState → Serial → QueueState
without_if_emptied q b = if is_emptied q b then without_block q b else q

-- whether it is a sealed device block
abbrev pub is_sealed_device : QueueState → Serial → Bool
is_sealed_device q b = list_any (λ s. list_any (is_block Device b) s.sealed) q.sections

-- whether it is a sealed device block that is the home of no row
abbrev pub is_abandoned : QueueState → Serial → Bool
is_abandoned q b = is_sealed_device q b && nat_eq (length (rows_homed q b)) 0

-- a sealed device block that is the home of no row is taken out
abbrev pub without_if_abandoned : QueueState → Serial → QueueState
without_if_abandoned q b = if is_abandoned q b then without_block q b else q
