use Rattle.std.proofs.Common.{eqb, rules, tests}
use Rattle.std.proofs.lemmas.Iterator.Consumers.{count_from_yields_List}
use Rattle.std.proofs.lemmas.Iterator.Splits.{YieldsList-from_slice_split}
use Rattle.rw_sweep.proofs.joiner.columns.columns.Goals as goal

pub returns : goal.returns
returns c = count_from_yields_List c.split.result _ c.count.ensures.ran (YieldsList-from_slice_split _ (λ b. eqb b 44) c.args.body.now c.split.ensures.rest c.split.ensures.done c.split.ensures.closure (λ x b q k. search (rules, tests)))
