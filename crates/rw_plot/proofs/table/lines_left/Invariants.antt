use Rattle.std.proofs.Common.{◌≡◌, map}
use Rattle.rw_trace.specs.Unread.{Steady, unread}
use Rattle.rw_plot.specs.Tables.{drawn_of, most_lines, row_of_line}
use Rattle.rw_plot.proofs.Rows.{rows_before}
use Rattle.rw_plot.proofs.table.lines_left.Given as goal

abbrev pub invariant-loop-at : goal.invariant-loop-at
invariant-loop-at l = record {
  steady : Steady l.reader;
  meaning : drawn_of l.places l.drawn most_lines 0 (unread l.fn.reader) ≡ rows_before (map row_of_line l.lines.items) (drawn_of l.places l.drawn most_lines l.at (unread l.reader));
}
