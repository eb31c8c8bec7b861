use Rattle.std.proofs.Common.{sym, subst}
use Rattle.rw_pool.specs.Notes.{IsAsked}
use Rattle.rw_pool.proofs.pool.submit.Goals as goal

pub ask-requires : goal.ask-requires
ask-requires g c = record {
  takes = subst (λ j. g.J.Job.Takes j c.args.input) (sym c.in_ok-try_clone.ensures) c.requires.takes;
}

pub from_task-requires : goal.from_task-requires
from_task-requires g c = record { fits = c.in_ok-task.ensures.task }

pub push-requires : goal.push-requires
push-requires g c = c.from_task.ensures.fits

pub returns : goal.returns
returns g c = record {
  asked = subst (λ j. IsAsked j c.args.input c.in_ok-task.answer.notes) c.in_ok-try_clone.ensures c.in_ok-task.ensures.asked;
}
