-- For the contracts inside the crate: a sealed device block whose rows are put again.
use Rattle.std.specs.Prelude.{◌≡◌, ◌≤◌, sum_by, count_by, All}
use Rattle.std.specs.Map.{values_of}
use Rattle.rw_vt.specs.Words.{Count}
use Rattle.rw_numbers.specs.Words.{Serial}
use Rattle.rw_blocks.specs.Sections.{SectionState, has_serial}
use Rattle.rw_blocks.specs.State.{QueueState}
use Rattle.rw_blocks.specs.Loose.{IsLoose}

-- how many sealed blocks have the serial
abbrev pub in_sealed : Serial → SectionState → Count
in_sealed b s = count_by (has_serial b) s.sealed

abbrev pub sealed_count : Serial → QueueState → Count
sealed_count b q = sum_by (in_sealed b) q.sections

-- what holds while the rows of the victim b are put again
pub record IsVictim (b : Serial) (q : QueueState) : Type 0 where
  pub loose : IsLoose q
  pub sealed : 1 ≤ sealed_count b q
  pub apart : All (λ r. r.place ≡ b → ⊥) (values_of q.rows)
