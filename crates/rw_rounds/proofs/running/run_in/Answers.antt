use denote.Param.{param}
use denote.Param.Send.{param_send}
use Rattle.rw_rounds.proofs.Cited.{worker_may_move}
use Rattle.rw_rounds.proofs.running.run_in.Goals as goal

-- a worker may move to a thread of its own
pub start_pool-requires-send-T : goal.start_pool-requires-send-T
start_pool-requires-send-T g c κs within =
    let t = c.type_bounds in
    let port = c.may_move.ensures.moves in
    let worker = worker_may_move (param 1 g.row.M) _ _ _ g.M.Model g.M.Body.Ord g.M.Body.Eq g.M.Body.PartialEq g.M.Body.PartialOrd t.send-M-State t.send-M-Body t.send-M-Undo (record { owned = port.owned; leaving = λ k d w. tt }) in
    record { owned = worker.owned; leaving = λ k. (param_send 3 _ worker).leaving k }
