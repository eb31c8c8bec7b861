use Rattle.std.proofs.Common.{◌≡◌, ◌<◌, ℕ, length, map}
use Rattle.std.specs.Prelude.{slice_get}
use Rattle.rw_pool.specs.Shares.{of_shares}
use Rattle.rw_pool.proofs.Dealing.{GoRound}
use Rattle.rw_pool.proofs.shares.join.Given as goal

abbrev pub invariant-loop-item : goal.invariant-loop-item
invariant-loop-item g l = record {
  long : length l.shares.items ≡ length l.fn.shares.items;
  many : length l.list.items ≡ l._item;
  round : GoRound (length l.fn.shares.items) (of_shares (length l.fn.shares.items) (map (λ h. h.items) l.fn.shares.items)) l._item (map (λ h. h.items) l.shares.items);
  joined : (q : ℕ) → q < l._item → slice_get l.list.items q ≡ of_shares (length l.fn.shares.items) (map (λ h. h.items) l.fn.shares.items) q;
}
