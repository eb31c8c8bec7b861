use denote.Param.{param}
use denote.Param.Send.{param_send}
use Rattle.rw_rounds.proofs.Cited.{worker_may_move}
use Rattle.rw_windows.proofs.Moving.{share_may_move}
use Rattle.rw_engine.proofs.workers.start.Goals as goal

-- a worker of rounds may move to a thread of the run
pub grow_for_both-requires-send-T : goal.grow_for_both-requires-send-T
grow_for_both-requires-send-T g c κs within =
    let t = c.type_bounds in
    let port = c.may_move.ensures.moves in
    let worker = worker_may_move (param 1 g.row.M) _ _ _ g.M.Model g.M.Body.Ord g.M.Body.Eq g.M.Body.PartialEq g.M.Body.PartialOrd t.send-M-State t.send-M-Body t.send-M-Undo (record { owned = port.owned; leaving = λ k d w. tt }) in
    record { owned = worker.owned; leaving = λ k. (param_send 3 _ worker).leaving k }

-- a worker's share of windows may move to a thread of the run
pub grow_for_both-requires-send-U : goal.grow_for_both-requires-send-U
grow_for_both-requires-send-U g c κs within =
    let t = c.type_bounds in
    let share = share_may_move (param 1 g.row.M) _ _ _ g.M.Model g.M.Body.Ord g.M.Body.Eq g.M.Body.PartialEq g.M.Body.PartialOrd g.M.Body.Clone t.send-M-State t.send-M-Body t.send-M-Undo in
    record { owned = share.owned; leaving = λ k. (param_send 5 _ share).leaving k }
