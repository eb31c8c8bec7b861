use Rattle.std.proofs.Common.{◌≡◌, ◌+◌, ◌++◌, length, map, vec_len, vec_capacity}
use Rattle.rw_rounds.proofs.running.outcomes.Given as goal

abbrev pub invariant-loop-process : goal.invariant-loop-process
invariant-loop-process g l = record {
  room : (vec_capacity l.journals ≡ l.count) × (vec_capacity l.states ≡ l.count);
  many : (vec_len l.journals + length l.process-iterator.rest.items ≡ l.count) × (vec_len l.states + length l.process-iterator.rest.items ≡ l.count);
  journals : map (λ j. j.items) l.journals.items ++ map (λ x. x.process.committed) l.process-iterator.rest.items ≡ map (λ x. x.process.committed) l.fn.processes.items;
  states : l.states.items ++ map (λ x. x.process.state) l.process-iterator.rest.items ≡ map (λ x. x.process.state) l.fn.processes.items;
}
