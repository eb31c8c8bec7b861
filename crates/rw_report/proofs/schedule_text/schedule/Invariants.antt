use Rattle.std.proofs.Common.{◌≡◌, ◌+◌, ◌≤◌, length, suc}
use Rattle.rw_report.specs.Schedule.{schedule_of}
use Rattle.rw_report.proofs.Words.{after_steps, left_size, left_steps}
use Rattle.rw_report.proofs.schedule_text.schedule.Given as goal

abbrev pub invariant-loop-left : goal.invariant-loop-left
invariant-loop-left l = record {
  said : schedule_of l.fn.text ≡ after_steps l.steps.items (left_steps l.index l.left);
  bounded : l.index + left_size l.left ≤ suc (length l.fn.text);
}

abbrev pub decreases-loop-left : goal.decreases-loop-left
decreases-loop-left l = left_size l.left
