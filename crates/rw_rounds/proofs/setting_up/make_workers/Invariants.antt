use Rattle.std.proofs.Common.{◌≡◌, ◌+◌, ◌<◌, ℕ, [], ◌++◌, length, map, All, Some, vec_len, vec_capacity}
use Rattle.std.specs.Prelude.{slice_get}
use Rattle.rw_rounds.specs.Rounds.{role}
use Rattle.rw_rounds.proofs.setting_up.make_workers.Given as goal

abbrev pub invariant-loop-number : goal.invariant-loop-number
invariant-loop-number g l = record {
  shares_left : l.number + length l.supply.shares.items ≡ l.plan.workers;
  inboxes_left : l.number + length l.supply.inboxes.items ≡ l.plan.workers;
  ports_left : l.number + length l.supply.ports.items ≡ l.plan.workers;
  seats_left : l.number + length l.supply.seats.items ≡ l.plan.workers;
  capacity : vec_capacity l.workers ≡ l.plan.workers;
  count : vec_len l.workers ≡ l.number;
  roles : (i : ℕ) → i < l.number → slice_get (map (λ w. w.role) l.workers.items) i ≡ Some (role l.plan l.collected i);
  processes : map (λ w. w.processes) l.workers.items ++ map (λ h. h.items) l.supply.shares.items ≡ map (λ h. h.items) l.fn.supply.shares.items;
  inboxes : map (λ w. w.inbox) l.workers.items ++ map (λ b. b.items) l.supply.inboxes.items ≡ map (λ b. b.items) l.fn.supply.inboxes.items;
  ports : map (λ w. w.port) l.workers.items ++ l.supply.ports.items ≡ l.fn.supply.ports.items;
  seats : map (λ w. w.seat) l.workers.items ++ l.supply.seats.items ≡ l.fn.supply.seats.items;
  none : All (λ w. (w.kept ≡ []) × (w.aside ≡ [])) l.workers.items;
}
