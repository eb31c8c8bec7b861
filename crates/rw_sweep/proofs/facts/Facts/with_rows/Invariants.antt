use Rattle.std.proofs.Common.{◌≡◌, ◌+◌, ◌<◌, ◌++◌, List, take}
use Rattle.rw_trace.specs.declared.Row.{Row}
use Rattle.rw_sweep.specs.Facts.{digest_modulus, facts_of}
use Rattle.rw_sweep.proofs.facts.Facts.with_rows.Given as goal

abbrev pub invariant-loop-row : goal.invariant-loop-row
invariant-loop-row l = record {
  facts : (before : List Row) → l.fn.self ≡ facts_of before → l.facts ≡ facts_of (before ++ take l.row-index l.rows);
  rows : l.facts.rows ≡ l.fn.self.rows + l.row-index;
  digest : l.facts.digest < digest_modulus;
}
