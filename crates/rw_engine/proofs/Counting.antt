-- How many rounds of one worker execute so many events.
use Rattle.std.proofs.Common.{ℕ, zero, suc, ◌+◌, ◌-◌, ◌*◌, ◌/◌, ◌<◌, ◌≤◌, arith}
use Rattle.std.proofs.Math.Nat.{div-lt_iff_lt-mul, lt-div-mul-add, mul-le-mul, mul-pos}
use Rattle.rw_rounds.specs.declared.plan.Plan.{Plan}
use Rattle.rw_rounds.specs.Plans.{IsInRanges}
use Rattle.rw_engine.specs.Alone.{AreRoundsOf}

-- a round has room for an event, and for no more than the plan's bounds let it
pub round_some : (plan : Plan) → IsInRanges plan → 0 < plan.turns * plan.batch
round_some plan ranges = mul-pos ranges.turns.0 ranges.batch.0

pub round_bound : (plan : Plan) → IsInRanges plan → plan.turns * plan.batch ≤ 16777216
round_bound plan ranges = mul-le-mul {n₂ = 4096} {m₂ = 4096} ranges.turns.1 ranges.batch.1

module _ (events per : ℕ) (some : 0 < per) where
  enough_for : events ≤ ((events - 1) / per + 1) * per
  enough_for = let room = lt-div-mul-add {a = events - 1} some in omega arith

  fewest_for : (n : ℕ) → 1 ≤ n → events ≤ n * per → (events - 1) / per + 1 ≤ n
  fewest_for zero l h = absurd (omega arith)
  fewest_for (suc n) l h =
      let room : events - 1 < suc n * per = omega arith in
      let fewer = (div-lt_iff_lt-mul {x = events - 1} {y = suc n} some).1 room in
      omega arith

pub rounds_are : (plan : Plan) (events : ℕ) → IsInRanges plan → AreRoundsOf plan events ((events - 1) / (plan.turns * plan.batch) + 1)
rounds_are plan events ranges =
    let some = round_some plan ranges in
    record { one = omega arith; enough = enough_for events (plan.turns * plan.batch) some; fewest = fewest_for events (plan.turns * plan.batch) some }
