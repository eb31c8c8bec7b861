use Rattle.std.proofs.Common.{◌≡◌, length, subst, arith}
use Rattle.rw_exchange.specs.Ports.{StayAnOpening}
use Rattle.rw_round_tests.proofs.LaterPorts.{are_two}
use Rattle.rw_round_tests.proofs.two_ports.two_ports.Goals as goal

pub returns-clause-opening : goal.returns-clause-opening
returns-clause-opening g c =
    let count : length c.in_ok-ports.ports.items ≡ 2 = omega (arith, c.in_ok-ports.ensures.count, c.in_ok-ports.ports.ok) in
    let all = are_two c.in_ok-ports.ports.items c.remove-second.new.self.items c.remove-first.result c.remove-second.result count c.remove-second.ensures.value c.remove-second.ensures.items c.remove-first.ensures.value in
    subst StayAnOpening all c.in_ok-ports.ensures.stays
