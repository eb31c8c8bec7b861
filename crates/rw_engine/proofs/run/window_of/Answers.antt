use Rattle.std.proofs.Common.{◌≡◌, subst, arith, max}
use Rattle.rw_vt.proofs.Laws.{laws_of}
use Rattle.rw_engine.proofs.Ahead.{ahead_at_least}
use Rattle.rw_engine.proofs.run.window_of.Goals as goal

pub returns-clause-some : goal.returns-clause-some
returns-clause-some g c = omega (arith, c.max.ensures)

pub returns-clause-ahead : goal.returns-clause-ahead
returns-clause-ahead g c =
    let model = c.args.model.now in
    let far = subst (λ t. c.max.result ≡ max t 1) c.lookahead.ensures c.max.ensures in
    ahead_at_least (laws_of g.met.M.Model g.met.M.Body.Ord.total) model (g.M.Lookahead.lookahead_of model) c.max.result (g.met.M.Lookahead.ahead model) far
