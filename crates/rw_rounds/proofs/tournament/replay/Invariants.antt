use Rattle.std.proofs.Common.{◌≡◌, ℕ, ◌+◌, ◌*◌, ◌<◌, ◌≤◌, ◌≢◌, length}
use Rattle.std.specs.Prelude.{◌/◌}
use Rattle.rw_vt.specs.Order.{event_cmp}
use Rattle.rw_rounds.specs.Tournament.{node_at, IsPlayed}
use Rattle.rw_rounds.proofs.tournament.replay.Given as goal

abbrev pub invariant-loop-node : goal.invariant-loop-node
invariant-loop-node g l = record {
  within : l.node < length l.fn.nodes;
  others : (k : ℕ) → 0 < k → 2 * k + 1 < length l.fn.nodes → k ≢ l.node / 2 → IsPlayed (event_cmp g.M.Body.Ord.cmp) l.nodes k;
  same : (k : ℕ) → length l.fn.nodes ≤ 2 * k → node_at l.nodes k ≡ node_at l.fn.nodes k;
}

abbrev pub decreases-loop-node : goal.decreases-loop-node
decreases-loop-node g l = l.node
