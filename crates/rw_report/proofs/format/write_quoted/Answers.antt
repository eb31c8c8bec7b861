use Rattle.std.proofs.Common.{codes}
use Rattle.rw_report.proofs.Lines.{three-pieces}
use Rattle.rw_report.proofs.format.write_quoted.Goals as goal

pub returns : goal.returns
returns c =
    three-pieces c.args.text.now.items (codes "\"") c.args.word.now (codes "\"")
    _ _ _ c.in_ok-push.ensures.items c.in_ok-extend_from_slice.ensures.items c.in_ok-push-2.ensures.items
