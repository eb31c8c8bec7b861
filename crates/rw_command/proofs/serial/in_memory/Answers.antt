use Rattle.std.proofs.Common.{inl, inr}
use Rattle.rw_command.proofs.serial.in_memory.Goals as goal

pub returns-then-is_plain-clause-report : goal.returns-then-is_plain-clause-report
returns-then-is_plain-clause-report g c = inl (c.in_ok-config.config, c.as_slice.result.now, c.in_ok-replay.ensures.report)

pub returns-clause-report : goal.returns-clause-report
returns-clause-report g c = inr (c.in_ok-config.config, c.in_ok-outlook.outlook, c.as_slice-else-is_plain.result.now, c.in_ok-replay_over_time.ensures.told)
