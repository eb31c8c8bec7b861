use Rattle.std.proofs.Common.{◌≡◌, map}
use Rattle.std.specs.List.{range_with_len}
use Rattle.rw_phold.specs.Beginning.{first_holder}
use Rattle.rw_phold.proofs.opening.holders.Given as goal

abbrev pub invariant-loop-process : goal.invariant-loop-process
invariant-loop-process l = l.holders.items ≡ map (first_holder l.seed) (range_with_len 0 l.process)
