use Rattle.std.proofs.Common.{[]}
use Rattle.rw_sweep.proofs.facts.facts_of.Goals as goal

pub returns : goal.returns
returns c = c.with_rows.ensures [] c.none.ensures
