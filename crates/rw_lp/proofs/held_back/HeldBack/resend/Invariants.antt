use Rattle.std.proofs.Common.{◌≡◌, ◌++◌, false}
use Rattle.std.proofs.Math.ListN.{drop}
use Rattle.rw_vt.specs.Order.{event_cmp}
use Rattle.rw_vt.specs.Letters.{letters_of}
use Rattle.rw_lp.specs.HeldMessages.{unheld_sends}
use Rattle.rw_lp.proofs.held_back.HeldBack.resend.Given as goal

abbrev pub invariant-loop-send : goal.invariant-loop-send
invariant-loop-send g l =
    (l.out.items ++ letters_of false (unheld_sends (event_cmp g.M.Body.Ord.cmp) (drop l.send-index l.sends) l.self).0 ≡ l.fn.out.items ++ letters_of false (unheld_sends (event_cmp g.M.Body.Ord.cmp) l.sends l.fn.self).0)
    × ((unheld_sends (event_cmp g.M.Body.Ord.cmp) (drop l.send-index l.sends) l.self).1 ≡ (unheld_sends (event_cmp g.M.Body.Ord.cmp) l.sends l.fn.self).1)
