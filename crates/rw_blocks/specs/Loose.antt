-- Loose and well-formed queues.
use Rattle.std.specs.Prelude.{◌≡◌, ◌+◌, ◌≤◌, Bool, true, length, count_by, sum_by, All, ◌⊎◌}
use Rattle.std.specs.List.{list_any}
use Rattle.std.specs.List.Sorted.{IsStrictlySortedBy}
use Rattle.std.specs.Ordering.{nat_cmp}
use Rattle.std.specs.Map.{values_of, keys_of}
use Rattle.rw_numbers.specs.Words.{Count, Serial}
use Rattle.rw_blocks.specs.Words.{most_bytes}
use Rattle.rw_blocks.specs.declared.Kind.{Kind}
use Rattle.rw_blocks.specs.declared.Kind.TheVariants.{Device, Virtual}
use Rattle.rw_blocks.specs.declared.Place.{Place}
use Rattle.rw_blocks.specs.Sections.{SectionState, blocks_of, is_block, devices_in}
use Rattle.rw_blocks.specs.State.{QueueState, IsShape}
use Rattle.rw_blocks.specs.Sums.{bytes_held, total, rows_placed}

-- how many blocks of the kind have the serial
abbrev pub count_in : Kind → Serial → SectionState → Count
count_in kind b s = count_by (is_block kind b) (blocks_of s)

abbrev pub count : Kind → QueueState → Serial → Count
count kind q b = sum_by (count_in kind b) q.sections

-- ---- what a loose queue says of each row
-- its home is a device block that is there
abbrev pub IsHomed : QueueState → Place → Type 0
IsHomed q r = count Device q r.home ≡ 1

-- its place is its home, or a virtual block that is there
abbrev pub IsPlaced : QueueState → Place → Type 0
IsPlaced q r = (r.place ≡ r.home) ⊎ (count Virtual q r.place ≡ 1)

abbrev pub IsSized : QueueState → Place → Type 0
IsSized q r = (1 ≤ r.size) × (r.size ≤ q.shape.block)

-- what holds of a queue also within an operation
pub record IsLoose (q : QueueState) : Type 0 where
  pub shaped : IsShape q.shape.sections q.shape.block q.shape.blocks
  pub some_section : 1 ≤ length q.sections
  pub few_sections : length q.sections ≤ q.shape.sections
  -- no two blocks have one serial
  pub distinct : (b : Serial) → count Device q b + count Virtual q b ≤ 1
  -- no block has the next serial, or one above it
  pub below : (b : Serial) → q.next ≤ b → count Device q b + count Virtual q b ≡ 0
  pub homes : All (IsHomed q) (values_of q.rows)
  pub places : All (IsPlaced q) (values_of q.rows)
  pub sizes : All (IsSized q) (values_of q.rows)
  pub fills : (kind : Kind) (b : Serial) → count kind q b ≡ 1 → bytes_held kind q b ≤ q.shape.block
  pub within : total q ≤ most_bytes
  -- the rows stand in the order of their objects, one for each
  pub ordered : IsStrictlySortedBy nat_cmp (keys_of q.rows)

-- ---- sealed blocks
abbrev pub is_sealed_virtual : QueueState → Serial → Bool
is_sealed_virtual q b = list_any (λ s. list_any (is_block Virtual b) s.sealed) q.sections

-- how many device blocks are sealed
abbrev pub sealed_devices : QueueState → Count
sealed_devices q = sum_by devices_in q.sections

-- what holds of a queue between operations
pub record IsWellFormedQueue (q : QueueState) : Type 0 where
  pub loose : IsLoose q
  -- no sealed virtual block is without rows
  pub used : (b : Serial) → is_sealed_virtual q b ≡ true → 1 ≤ length (rows_placed q b)
  pub few_devices : sealed_devices q ≤ q.shape.blocks

-- how many blocks there are, active and sealed
abbrev pub block_count : QueueState → Count
block_count q = sum_by (λ s. length (blocks_of s)) q.sections

-- no row has its home or its place there
abbrev pub IsFree : QueueState → Serial → Type 0
IsFree q b = All (λ r. (r.home ≡ b → ⊥) × (r.place ≡ b → ⊥)) (values_of q.rows)
