use Rattle.std.proofs.Common.{◌≡◌, ◌++◌, drop}
use Rattle.rw_plot.specs.Escape.{escaped}
use Rattle.rw_plot.proofs.escaping.escape.Given as goal

abbrev pub invariant-loop-byte : goal.invariant-loop-byte
invariant-loop-byte l = l.out.items ++ escaped (drop l.byte-index l.text) ≡ escaped l.fn.text
