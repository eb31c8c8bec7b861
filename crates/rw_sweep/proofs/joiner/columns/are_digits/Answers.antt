use Rattle.std.proofs.Common.{rules, tests}
use Rattle.std.specs.Char.{is_ascii_digit}
use Rattle.std.proofs.lemmas.Iterator.{YieldsList-from_slice}
use Rattle.std.proofs.lemmas.Iterator.Search.{all_from_yields_List}
use Rattle.rw_sweep.proofs.Fields.{digits-decides}
use Rattle.rw_sweep.proofs.joiner.columns.are_digits.Goals as goal

pub returns : goal.returns
returns c = digits-decides c.all.result c.args.bytes.now (all_from_yields_List is_ascii_digit _ _ _ c.all.ensures.ran (YieldsList-from_slice c.args.bytes.now cc) (λ x b q k. search (rules, tests)))
