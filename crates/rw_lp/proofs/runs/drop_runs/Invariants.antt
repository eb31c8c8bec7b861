use Rattle.std.specs.VecDeque.{deque_len}
use Rattle.rw_lp.specs.Runs.{AreFilled, IsLeftAfter}
use Rattle.rw_lp.proofs.runs.drop_runs.Given as goal

abbrev pub invariant-runs : goal.invariant-runs
invariant-runs g l = record { filled : AreFilled l.older.items; values : IsLeftAfter l.count l.fn.older.items l.left l.older.items }

abbrev pub decreases-runs : goal.decreases-runs
decreases-runs g l = deque_len l.older
