use Rattle.std.proofs.Common.{arith}
use Rattle.rw_phold.specs.Balls.{phold_ahead}
use Rattle.rw_round_tests.proofs.windows.narrow_agree.Goals as goal

-- what is sent is the lookahead ahead, so one tick at least
pub go_on-requires-clause-ahead : goal.go_on-requires-clause-ahead
go_on-requires-clause-ahead g c κs lives p s e well valid to k d within =
    let m = c.in_ok-whole.whole.model in
    let far = phold_ahead m p s e well valid to k d within in
    omega (arith, far, m.some_lookahead)
