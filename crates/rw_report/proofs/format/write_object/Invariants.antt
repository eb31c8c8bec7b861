use Rattle.std.proofs.Common.{◌≡◌, ◌++◌, codes}
use Rattle.std.specs.List.{join_with_byte}
use Rattle.rw_report.proofs.Pieces.{comma_after, members}
use Rattle.rw_report.proofs.format.write_object.Given as goal

abbrev pub invariant-loop-name : goal.invariant-loop-name
invariant-loop-name l = record {
  text : l.text.items ≡ l.fn.text.items ++ (codes "{" ++ join_with_byte 44 (members (λ p. (p.0.now, p.1.now)) l.yielded));
  comma : l.comma ≡ comma_after (members (λ p. (p.0.now, p.1.now)) l.yielded);
}
