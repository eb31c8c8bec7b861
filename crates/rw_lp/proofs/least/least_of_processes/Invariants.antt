use Rattle.std.proofs.Common.{◌≡◌, ◌≤◌, ◌^◌, drop, map}
use Rattle.rw_lp.specs.Calls.{least_of_processes}
use Rattle.rw_lp.proofs.least.least_of_processes.Given as goal

abbrev pub invariant-loop-process : goal.invariant-loop-process
invariant-loop-process g l = record {
  within : l.least ≤ 2 ^ 40;
  found : least_of_processes l.least (map (λ x. x.process) (drop l.process-index l.processes)) ≡ least_of_processes (2 ^ 40) (map (λ x. x.process) l.processes);
}
