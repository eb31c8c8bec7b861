-- The next record that is kept gives the next row, or is refused.
use Rattle.std.proofs.Common.{ℕ, ap}
use Rattle.std.specs.Io.Buffered.{reader_remaining}
use Rattle.rw_trace.specs.Pieces.{RowsAhead}
use Rattle.rw_trace.proofs.Piecewise.{where_some}
use Rattle.rw_import.specs.Log.{Said}
use Rattle.rw_import.specs.OracleRows.{FindsKept}
use Rattle.rw_import.proofs.OracleOrder.{early-found, first-found, many-found, row-found}
use Rattle.rw_import.proofs.oracle_rows.OracleRowsRowSource.next_row.Goals as goal

pub returns-then-self-ge-MAX_STREAMED_ROWS-clause-refused : goal.returns-then-self-ge-MAX_STREAMED_ROWS-clause-refused
returns-then-self-ge-MAX_STREAMED_ROWS-clause-refused g c =
    let was = c.self.inside in
    let now = c.next_kept.new in
    let old = reader_remaining g.R.Read.remaining was.reader in
    let new = reader_remaining g.R.Read.remaining now.reader in
    let s : Said ℕ = (c.in-Some.entry, c.in-Some.object) in
    let found = where_some (FindsKept was.options was.epoch now.epoch was.number now.number old new) c.in-Some.is c.in_ok-next.ensures.some in
    let ahead = ap (λ (v : RowsAhead). v.ahead) c.self.view_is in
    many-found was.options was.epoch now.epoch was.number now.number was.kept was.latest old new s found c.args.self.now ahead c.if-self-ge-MAX_STREAMED_ROWS.true c.self.invariant.0

pub returns-then-row-self-clause-refused : goal.returns-then-row-self-clause-refused
returns-then-row-self-clause-refused g c =
    let was = c.self.inside in
    let now = c.next_kept.new in
    let old = reader_remaining g.R.Read.remaining was.reader in
    let new = reader_remaining g.R.Read.remaining now.reader in
    let s : Said ℕ = (c.in-Some.entry, c.in-Some.object) in
    let found = where_some (FindsKept was.options was.epoch now.epoch was.number now.number old new) c.in-Some.is c.in_ok-next.ensures.some in
    let ahead = ap (λ (v : RowsAhead). v.ahead) c.self.view_is in
    early-found was.options was.epoch now.epoch was.number now.number was.kept was.latest old new s found c.args.self.now ahead c.unwrap_or-epoch.result c.row_of_entry-row.result c.unwrap_or-epoch.ensures c.row_of_entry-row.ensures
    c.if-self-ge-MAX_STREAMED_ROWS.false c.if-row-self.true

pub returns-clause-first : goal.returns-clause-first
returns-clause-first g c =
    let was = c.self.inside in
    let now = c.next_kept.new in
    let old = reader_remaining g.R.Read.remaining was.reader in
    let new = reader_remaining g.R.Read.remaining now.reader in
    let s : Said ℕ = (c.in-Some.entry, c.in-Some.object) in
    let found = where_some (FindsKept was.options was.epoch now.epoch was.number now.number old new) c.in-Some.is c.in_ok-next.ensures.some in
    let ahead = ap (λ (v : RowsAhead). v.ahead) c.self.view_is in
    first-found was.options was.epoch now.epoch was.number now.number was.kept was.latest old new s found c.args.self.now ahead c.unwrap_or-epoch.result c.row_of_entry-row.result c.unwrap_or-epoch.ensures c.row_of_entry-row.ensures
    c.if-self-ge-MAX_STREAMED_ROWS.false c.if-row-self.false

pub returns-clause-range : goal.returns-clause-range
returns-clause-range g c =
    let was = c.self.inside in
    let now = c.next_kept.new in
    let old = reader_remaining g.R.Read.remaining was.reader in
    let new = reader_remaining g.R.Read.remaining now.reader in
    let s : Said ℕ = (c.in-Some.entry, c.in-Some.object) in
    let found = where_some (FindsKept was.options was.epoch now.epoch was.number now.number old new) c.in-Some.is c.in_ok-next.ensures.some in
    let ahead = ap (λ (v : RowsAhead). v.ahead) c.self.view_is in
    row-found was.options was.epoch now.epoch was.number now.number was.kept was.latest old new s found c.args.self.now ahead c.unwrap_or-epoch.result c.row_of_entry-row.result c.unwrap_or-epoch.ensures c.row_of_entry-row.ensures
    (ap (λ (v : RowsAhead). v.edges) c.self.view_is)
