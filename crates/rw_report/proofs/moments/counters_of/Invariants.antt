use Rattle.std.proofs.Common.{◌≡◌, map, take}
use Rattle.rw_report.proofs.moments.counters_of.Given as goal

abbrev pub invariant-loop-state : goal.invariant-loop-state
invariant-loop-state l = l.counters.items ≡ map (λ s. s.counters) (take l.state-index l.states)
