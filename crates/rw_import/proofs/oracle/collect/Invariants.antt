use Rattle.std.proofs.Common.{map}
use Rattle.std.specs.List.{range_with_len}
use Rattle.rw_import.specs.Oracle.{judged_at}
use Rattle.rw_import.specs.Sheet.{IsCounted, IsSheetOf}
use Rattle.rw_import.proofs.Sheets.{itself}
use Rattle.rw_import.proofs.oracle.collect.Given as goal

abbrev pub invariant-loop-at : goal.invariant-loop-at
invariant-loop-at g l = record {
  sheet : IsSheetOf itself l.options.edges l.options l.least (map (judged_at l.options l.least l.bytes) (range_with_len 0 l.at)) l.sheet;
  counts : IsCounted l.at l.sheet;
}
