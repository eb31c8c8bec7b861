use denote.Param.{param}
use denote.Param.Send.{param_send}
use Rattle.rw_windows.proofs.Moving.{share_may_move}
use Rattle.rw_round_tests.proofs.windows.by_a_pool.Goals as goal

-- a share may move to a thread of the pool
pub grow-requires-send-T : goal.grow-requires-send-T
grow-requires-send-T g c κs within =
    let t = c.type_bounds in
    let share = share_may_move (param 1 g.row.M) _ _ _ g.M.Model g.M.Body.Ord g.M.Body.Eq g.M.Body.PartialEq g.M.Body.PartialOrd g.M.Body.Clone t.send-M-State t.send-M-Body t.send-M-Undo in
    record { owned = share.owned; leaving = λ k. (param_send 3 _ share).leaving k }
