use Rattle.std.proofs.Common.{codes}
use Rattle.rw_report.specs.Formats.{json_value, quoted}
use Rattle.rw_report.proofs.Lines.{three-calls}
use Rattle.rw_report.proofs.format.write_member.Goals as goal

pub returns : goal.returns
returns c =
    three-calls c.write_value.result c.args.text.now.items (quoted c.args.name.now) (codes ":") (json_value c.args.field.now)
    _ _ _ c.in_ok-write_quoted.ensures c.in_ok-push.ensures.items c.write_value.ensures
