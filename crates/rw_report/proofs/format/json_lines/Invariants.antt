use Rattle.std.proofs.Common.{◌≡◌, map}
use Rattle.std.specs.List.{flat_map}
use Rattle.rw_report.specs.Formats.{json_object}
use Rattle.rw_report.proofs.format.json_lines.Given as goal

abbrev pub invariant-loop-line : goal.invariant-loop-line
invariant-loop-line l = l.text.items ≡ flat_map (json_object l.names) (map (λ x. x.now) l.yielded)
