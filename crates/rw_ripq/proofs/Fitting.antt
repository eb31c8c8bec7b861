-- The sums that the tests of levels, merges and splits take stay within 64 bits.
use Rattle.std.proofs.Common.{ℕ, ◌+◌, ◌*◌, ◌≤◌, ◌<◌, ◌^◌, arith, length}
use Rattle.std.specs.Prelude.{sum_by, drop}
use Rattle.rw_blocks.specs.State.{QueueState, section_at}
use Rattle.rw_blocks.specs.Sums.{section_bytes, bytes_below, bytes_in}
use Rattle.rw_blocks.specs.Loose.{IsLoose}
use Rattle.rw_blocks.proofs.Cited.{bytes_in-le-total}
use Rattle.std.proofs.lemmas.Nat.{mul-le}
use Rattle.std.proofs.Common.{get_or, length-drop}
use Rattle.std.proofs.lemmas.List.Sums.{sum_by-le}
use Rattle.rw_ripq.specs.declared.segments.Levels.{Levels}

pub bytes-fit : (q : QueueState) (i : ℕ) → IsLoose q → section_bytes q i ≤ 2 ^ 48
bytes-fit q i loose = omega (arith, bytes_in-le-total q (section_at q i), loose.within)

pub below-fit : (q : QueueState) (i : ℕ) → IsLoose q → i < length q.sections → bytes_below q i ≤ 2 ^ 52
below-fit q i loose there =
    let each : sum_by (bytes_in q) (drop (i + 1) q.sections) ≤ length (drop (i + 1) q.sections) * (2 ^ 48) =
    sum_by-le (bytes_in q) (2 ^ 48) (drop (i + 1) q.sections) (λ k d lt. omega (arith, bytes_in-le-total q (get_or (drop (i + 1) q.sections) k d), loose.within)) in
    omega (arith, each, length-drop (i + 1) q.sections, loose.few_sections, loose.shaped.1)

pub times-fit : (a b : ℕ) → a ≤ 2 ^ 49 → b ≤ 16 → a * b < 2 ^ 64
times-fit a b small few = omega (arith, mul-le a b (2 ^ 49) 16 small few)

-- all bytes, some of them counted twice, as often as there may be segments
pub segments-fit : (levels : Levels) (n : ℕ) → n ≤ 2 ^ 53 → levels.segments * n < 2 ^ 64
segments-fit levels n small = omega (arith, mul-le levels.segments n 8 (2 ^ 53) levels.in_range.1 small)
