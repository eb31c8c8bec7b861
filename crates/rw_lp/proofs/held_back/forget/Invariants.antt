use Rattle.std.proofs.Common.{◌≡◌, ◌+◌}
use Rattle.std.proofs.Math.ListN.{take}
use Rattle.rw_vt.specs.declared.event.Event.{Event}
use Rattle.rw_vt.specs.Order.{event_cmp, copies}
use Rattle.rw_lp.specs.HeldMessages.{held_messages}
use Rattle.rw_lp.proofs.held_back.forget.Given as goal

abbrev pub invariant-loop-pair : goal.invariant-loop-pair
invariant-loop-pair g l = (m : Event g.row.M-Body.Denot) → copies (event_cmp g.M.Body.Ord.cmp) m l.messages + copies (event_cmp g.M.Body.Ord.cmp) m (held_messages (take l.pair-index l.pairs)) ≡ copies (event_cmp g.M.Body.Ord.cmp) m l.fn.messages
