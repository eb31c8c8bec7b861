use Rattle.std.proofs.Common.{◌≡◌, ◌+◌, ◌<◌, ℕ, [], ◌++◌, length, map, drop, get_or}
use Rattle.std.specs.Prelude.{filter, ◌==◌}
use Rattle.rw_vt.specs.System.{system, map_from}
use Rattle.rw_world.specs.WorldState.{opening_process}
use Rattle.rw_world.proofs.opening.open_processes.Given as goal

abbrev pub invariant-loop-start : goal.invariant-loop-start
invariant-loop-start g l = record {
  room : l.number + length l.start-iterator.a.rest.items ≡ l.count;
  boxes : length l.start-iterator.b.rest.items ≡ length l.start-iterator.a.rest.items;
  left : l.start-iterator.a.rest.items ≡ drop l.number l.fn.starts.items;
  sorted_out : (k : ℕ) → k < length l.start-iterator.b.rest.items → get_or (map (λ j. j.items) l.start-iterator.b.rest.items) k [] ≡ filter (λ e. e.to == (l.number + k)) l.events;
  opened : l.processes.items ++ map_from l.number (λ q s. record { model = l.model; number = q; process = opening_process (system g.M.Model g.M.Body.Ord.cmp l.model l.fn.starts.items l.events) q s }) l.start-iterator.a.rest.items
      ≡ map_from 0 (λ q s. record { model = l.model; number = q; process = opening_process (system g.M.Model g.M.Body.Ord.cmp l.model l.fn.starts.items l.events) q s }) l.fn.starts.items;
}
