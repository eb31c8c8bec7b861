use Rattle.rw_round_tests.proofs.LaterPorts.{same_then}
use Rattle.rw_round_tests.proofs.LaterPorts.{two_stay}
use Rattle.rw_round_tests.proofs.rings.keeps_to_one_slot.Goals as goal

pub settle_two-requires : goal.settle_two-requires
settle_two-requires c = record {
  opening = two_stay c.in_ok-first.first c.in_ok-first.second c.send-sent_later.new.self c.receive-2.new.self c.in_ok-first.ensures.opening
      (same_then _ _ _ (same_then _ _ _ c.send.ensures.same c.send-2.ensures.same) c.send-sent_later.ensures.same) (same_then _ _ _ c.receive.ensures.same c.receive-2.ensures.same);
}
