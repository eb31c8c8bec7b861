use Rattle.std.proofs.Common.{arith}
use Rattle.rw_pool.proofs.Asking.{may_ask}
use Rattle.rw_pool.proofs.note.ends_of.Goals as goal

pub push_reserved-requires : goal.push_reserved-requires
push_reserved-requires g c =
    (omega (arith, c.in_ok-answer.ensures.producer.1), may_ask g.J.Job.Gives _ _ _ c.in_ok-answer.ensures.producer.0)
