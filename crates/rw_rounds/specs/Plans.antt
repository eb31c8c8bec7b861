-- Which plans may be run.
use Rattle.std.specs.Prelude.{◌≤◌}
use Rattle.rw_vt.specs.Limits.{end_of_time}
use Rattle.rw_rounds.specs.declared.plan.Plan.{Plan}

pub record IsInRanges (plan : Plan) : Type 0 where
  pub workers : (1 ≤ plan.workers) × (plan.workers ≤ 16)
  pub turns : (1 ≤ plan.turns) × (plan.turns ≤ 4096)
  pub batch : (1 ≤ plan.batch) × (plan.batch ≤ 4096)
  pub window : (1 ≤ plan.window) × (plan.window ≤ end_of_time)
  pub ring : (1 ≤ plan.ring) × (plan.ring ≤ 4096)
  pub max_rounds : (1 ≤ plan.max_rounds) × (plan.max_rounds ≤ 1048576)
