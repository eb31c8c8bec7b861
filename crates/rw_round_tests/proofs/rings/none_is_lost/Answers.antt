use Rattle.std.proofs.Common.{◌<◌, subst, sym, ◌∙◌}
use Rattle.rw_round_tests.proofs.LaterPorts.{all_stay}
use Rattle.rw_round_tests.proofs.rings.none_is_lost.Goals as goal

pub settle-requires : goal.settle-requires
settle-requires g c =
    let ports = c.in_ok-ports.ports in
    let results = c.in_ok-results.results in
    record {
      opening = all_stay (λ t. t.port) ports.items c.in_ok-ports-2.ports.items c.in_ok-traders.traders.items results.items c.in_ok-ports.ensures.stays c.in_ok-traders.ensures.all
          (sym results.ok.0 ∙ (c.in_ok-results.ensures.count ∙ ports.ok.0))
          (λ i d e lt. c.in_ok-results.ensures.same i d e (subst (λ n. i < n) (sym ports.ok.0) lt)) c.in_ok-ports-2.ensures.ports;
    }
