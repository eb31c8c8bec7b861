use Rattle.std.proofs.Common.{length}
use Rattle.rw_vt.specs.System.{rules}
use Rattle.rw_lp.proofs.Arriving.{IsUnderway}
use Rattle.rw_lp.proofs.lp.Lp.arrive_by.Given as goal

abbrev pub invariant-undoing : goal.invariant-undoing
invariant-undoing g l = IsUnderway l.fn.way (rules g.M.Model g.M.Body.Ord.cmp l.fn.self.model) l.letter l.fn.self l.lp l.fn.out.items l.out.items

abbrev pub decreases-undoing : goal.decreases-undoing
decreases-undoing g l = length l.lp.process.processed
