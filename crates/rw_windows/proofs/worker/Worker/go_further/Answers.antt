use Rattle.std.proofs.Common.{arith, subst, sym}
use Rattle.rw_windows.specs.Working.{HandedOver, IsAtWork}
use Rattle.rw_windows.proofs.Workers.{further}
use Rattle.rw_windows.proofs.worker.Worker.go_further.Goals as goal

pub returns-clause-at_work : goal.returns-clause-at_work
returns-clause-at_work g c =
    let at = subst (IsAtWork g.M.Model g.M.Body.Ord.cmp c.args.model.now) (sym c.self.view_is) c.requires.at_work in
    let none = subst HandedOver (sym c.self.view_is) c.requires.handed_over in
    further c.args.model.now _ at none c.max-domain.result
    (omega (arith, c.max-domain.ensures, c.min-2.ensures, c.min.ensures, at.times.until.0, at.times.until.1, at.times.until.2)) (omega (arith, c.max-domain.ensures, c.min-2.ensures, c.min.ensures, at.times.until.0, at.times.until.1, at.times.until.2)) (omega (arith, c.max-domain.ensures, c.min-2.ensures, c.min.ensures, at.times.until.0, at.times.until.1, at.times.until.2)) (omega (arith, c.max-domain.ensures, c.min-2.ensures, c.min.ensures, at.times.until.0, at.times.until.1, at.times.until.2))
