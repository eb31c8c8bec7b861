-- The lines of the rows are a trace of them.
use Rattle.std.proofs.lemmas.Result.{MatchResult-weaker}
use Rattle.rw_trace.specs.Limits.{most_rows}
use Rattle.rw_import.specs.Written.{has_purge}
use Rattle.rw_import.proofs.Reread.{lines-header, lines-trace, purges-named}
use Rattle.rw_import.proofs.text.write_trace.Goals as goal

pub returns-clause-trace : goal.returns-clause-trace
returns-clause-trace c =
    MatchResult-weaker c.lines.result c.lines.ensures
    (λ text e. lines-trace most_rows (has_purge c.args.rows.now) c.args.rows.now text.items (rw c.needs_kinds.ensures at e) (purges-named c.args.rows.now)) (λ e p. p)

pub returns-clause-header : goal.returns-clause-header
returns-clause-header c =
    MatchResult-weaker c.lines.result c.lines.ensures
    (λ text e. lines-header (has_purge c.args.rows.now) c.args.rows.now text.items (rw c.needs_kinds.ensures at e)) (λ e p. p)
