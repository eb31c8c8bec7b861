use Rattle.std.proofs.Common.{◌≡◌}
use Rattle.rw_world.proofs.Collects.{collected_to}
use Rattle.rw_world.proofs.parts.collect_all.Given as goal

abbrev pub invariant-loop-place : goal.invariant-loop-place
invariant-loop-place g l = l.processes.items ≡ collected_to l.time l.place l.initial.processes.items
