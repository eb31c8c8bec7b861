use denote.Param.{param}
use denote.Param.Send.{param_send}
use Rattle.std.proofs.Common.{ap, subst, ◌^◌}
use Rattle.rw_rounds.specs.Segments.{Advanced}
use Rattle.rw_rounds.proofs.Rounding.{rounded}
use Rattle.rw_rounds.proofs.Cited.{worker_may_move}
use Rattle.rw_rounds.proofs.running.run_round_in.Goals as goal

-- a worker may move to a thread of its own
pub start_pool-requires-send-T : goal.start_pool-requires-send-T
start_pool-requires-send-T g c κs within =
    let t = c.type_bounds in
    let port = c.may_move.ensures.moves in
    let worker = worker_may_move (param 1 g.row.M) _ _ _ g.M.Model g.M.Body.Ord g.M.Body.Eq g.M.Body.PartialEq g.M.Body.PartialOrd t.send-M-State t.send-M-Body t.send-M-Undo (record { owned = port.owned; leaving = λ k d w. tt }) in
    record { owned = worker.owned; leaving = λ k. (param_send 3 _ worker).leaving k }

-- nothing is kept back
pub returns-clause-round : goal.returns-clause-round
returns-clause-round g c =
    let seen = c.sim.view_is in
    rounded c.args.sim _ (ap (λ s. s.plan) seen)
    (subst (λ u. Advanced g.M.Model g.M.Body.Ord.cmp (2 ^ 40) u.simulation c.in_ok-world.field-0.world c.in_ok-world.field-0.floor) seen c.in_ok-world.ensures.advanced)
