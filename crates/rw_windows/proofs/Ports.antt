-- A port stays the same port.
use Rattle.std.proofs.Common.{◌≡◌, ◌∙◌, ap}
use Rattle.std.specs.Prelude.{length}
use Rattle.rw_exchange.specs.Ports.{PortState, SamePort}

module _ {T : Type 0} where
  -- as it was, it is the same
  pub same_port : (p q : PortState T) → q ≡ p → SamePort p q
  same_port p q e = record {
    worker = ap (λ x. x.worker) e;
    capacity = ap (λ x. x.capacity) e;
    out = ap (λ x. x.out) e;
    into = ap (λ x. x.into) e;
    sent = ap (λ x. length x.sent) e;
    received = ap (λ x. length x.received) e;
  }

  pub same_port_then : (p q r : PortState T) → SamePort p q → SamePort q r → SamePort p r
  same_port_then p q r f s = record {
    worker = s.worker ∙ f.worker;
    capacity = s.capacity ∙ f.capacity;
    out = s.out ∙ f.out;
    into = s.into ∙ f.into;
    sent = s.sent ∙ f.sent;
    received = s.received ∙ f.received;
  }
