use Rattle.std.proofs.Common.{subst, sym, IfOk}
use Rattle.rw_pool.proofs.Asking.{may_answer}
use Rattle.rw_pool.proofs.task.TaskAnswerRunnable.run.Goals as goal

pub run-result-requires : goal.run-result-requires
run-result-requires g c = record {
  takes = subst (λ j. g.J.Job.Takes j c.args.self.input) (sym c.deref.ensures) c.requires.fits.takes;
}

pub push_reserved-requires : goal.push_reserved-requires
push_reserved-requires g c =
    let gives = subst (λ j. IfOk c.run-result.result (g.J.Job.Gives j c.args.self.input)) c.deref.ensures c.run-result.ensures.gives in
    (c.requires.fits.room, may_answer g.J.Job.Gives _ _ _ _ c.requires.fits.asked gives)
