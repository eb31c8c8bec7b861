use Rattle.std.proofs.Common.{rules, tests}
use Rattle.std.specs.Str.{bytes_eq}
use Rattle.std.proofs.lemmas.Iterator.{YieldsList-from_slice}
use Rattle.std.proofs.lemmas.Iterator.Search.{any_from_yields_List}
use Rattle.rw_sweep.proofs.Fields.{one-of}
use Rattle.rw_sweep.proofs.joiner.columns.is_one_of.Goals as goal

pub returns : goal.returns
returns c =
    one-of c.any.result c.args.field.now c.args.words.now
    (any_from_yields_List (λ w. bytes_eq w.now c.args.field.now) _ _ _ c.any.ensures.ran (YieldsList-from_slice c.args.words.now cc) (λ x b q k. search (rules, tests)))
