-- How far the next serial rises.
use Rattle.std.proofs.Common.{ℕ, ◌+◌, ◌*◌, ◌≤◌, arith}
use Rattle.rw_ripq.proofs.Folds.{reinsert-row}
use Rattle.rw_ripq.proofs.Measures.{displaced-after_remove}
use Rattle.rw_ripq.proofs.Walks.{Keeps}
use Rattle.rw_ripq.specs.Evict.{displaced_rows}
use Rattle.rw_ripq.specs.Work.{Work}

-- each seal of an eviction is for a row that is put again, which was displaced until then
pub record IsWithin (n d : ℕ) (w : Work) : Type 0 where
  pub serial : w.queue.next ≤ n + w.tally.reinserted + 2 * w.tally.splits
  pub settled : w.tally.reinserted + displaced_rows w.queue ≤ d

pub keeps-within : (n d : ℕ) → Keeps (IsWithin n d)
keeps-within n d =
    record {
      leaves = λ w e o r loose last is at g. record { serial = g.serial; settled = omega (arith, g.settled, displaced-after_remove w.queue o) };
      reputs = λ w b o r os v homed is home g.
          (let c = reinsert-row w.queue b o r os v homed is home in
          record { serial = omega (arith, g.serial, c.next); settled = omega (arith, g.settled, c.lower) });
      outs = λ w b loose some free g. record { serial = g.serial; settled = g.settled };
    }
