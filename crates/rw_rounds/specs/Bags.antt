-- Lists as bags: two lists that weigh the same, however their elements are weighed, hold the same
-- elements as often.
use Rattle.std.specs.Prelude.{ℕ, Bool, if◌then◌else◌}
pub use Rattle.std.specs.List.{AllByRecursion as Every}
pub use Rattle.rw_vt.specs.Order.{weigh}

-- weighs those that pass the test
abbrev pub only : {X : Type 0} → (X → Bool) → (X → ℕ) → X → ℕ
only p h x = if p x then h x else 0
