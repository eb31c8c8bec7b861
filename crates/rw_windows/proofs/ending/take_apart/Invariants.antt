use Rattle.std.proofs.Common.{◌≡◌, ◌+◌, ◌++◌, ℕ, map}
use Rattle.rw_vt.specs.declared.event.Event.{Event}
use Rattle.rw_vt.specs.Order.{weigh}
use Rattle.rw_vt.specs.System.{flatten}
use Rattle.rw_windows.proofs.ending.take_apart.Given as goal

abbrev pub invariant-loop-share : goal.invariant-loop-share
invariant-loop-share g l = record {
  shares : map (λ h. h.items) l.parts.shares.items ++ map (λ w. w.states) l.share-iterator.rest.items ≡ map (λ w. w.states) l.fn.shares.items;
  ports : l.parts.ports.items ++ map (λ w. w.port) l.share-iterator.rest.items ≡ map (λ w. w.port) l.fn.shares.items;
  events : (h : Event g.row.M-Body.Denot → ℕ) → weigh h l.parts.events.items + weigh h (flatten (map (λ w. w.waiting ++ flatten w.outbox) l.share-iterator.rest.items)) ≡ weigh h (flatten (map (λ w. w.waiting ++ flatten w.outbox) l.fn.shares.items));
}
