use Rattle.std.proofs.Common.{◌≡◌, ◌+◌, ◌<◌, ◌++◌, ℕ, length, map, All, get_or, replicate, vec_len, vec_capacity}
use Rattle.rw_windows.specs.Beginning.{HasNotBegun}
use Rattle.rw_windows.proofs.beginning.make_shares.Given as goal

abbrev pub invariant-loop-number : goal.invariant-loop-number
invariant-loop-number g l = record {
  shares_left : l.number + length l.parts.shares.items ≡ l.windows.workers;
  inboxes_left : l.number + length l.parts.inboxes.items ≡ l.windows.workers;
  ports_left : l.number + length l.parts.ports.items ≡ l.windows.workers;
  parkers_left : l.number + length l.parts.parkers.items ≡ l.windows.workers;
  capacity : vec_capacity l.shares ≡ l.windows.workers;
  count : vec_len l.shares ≡ l.number;
  numbers : (i : ℕ) (d : _) → i < l.number → (get_or l.shares.items i d).number ≡ i;
  states : map (λ w. w.states) l.shares.items ++ map (λ h. h.items) l.parts.shares.items ≡ map (λ h. h.items) l.fn.parts.shares.items;
  given : map (λ w. w.given) l.shares.items ++ map (λ b. b.items) l.parts.inboxes.items ≡ map (λ b. b.items) l.fn.parts.inboxes.items;
  ports : map (λ w. w.port) l.shares.items ++ l.parts.ports.items ≡ l.fn.parts.ports.items;
  starts : map (λ w. w.starts) l.shares.items ≡ replicate l.number l.starts.value.items;
  new : All (HasNotBegun l.windows l.bound) l.shares.items;
}
