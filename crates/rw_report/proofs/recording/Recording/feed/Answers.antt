use Rattle.rw_report.proofs.Failing.{only_memory}
use Rattle.rw_report.proofs.recording.Recording.feed.Goals as goal

pub returns-in_err-piece-clause-exhausted : goal.returns-in_err-piece-clause-exhausted
returns-in_err-piece-clause-exhausted c = only_memory c.from_residual.result _ c.from_residual.ensures.1
