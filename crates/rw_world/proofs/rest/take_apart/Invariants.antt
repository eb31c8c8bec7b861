use Rattle.std.proofs.Common.{◌≡◌, ◌++◌, map}
use Rattle.rw_vt.specs.System.{flatten}
use Rattle.rw_world.specs.Leaving.{owed_at}
use Rattle.rw_world.proofs.rest.take_apart.Given as goal

abbrev pub invariant-loop-process : goal.invariant-loop-process
invariant-loop-process g l = record {
  states : l.states.items ++ map (λ k. k.process.state) l.process-iterator.rest.items ≡ map (λ k. k.process.state) l.fn.processes.items;
  there : l.there.items ++ flatten (map (λ k. k.process.pending) l.process-iterator.rest.items) ≡ l.fn.there.items ++ flatten (map (λ k. k.process.pending) l.fn.processes.items);
  owed : l.owed.items ++ flatten (map owed_at l.process-iterator.rest.items) ≡ l.fn.owed.items ++ flatten (map owed_at l.fn.processes.items);
}
