use Rattle.std.proofs.Common.{◌≡◌, length, rules, subst}
use Rattle.std.proofs.lemmas.Result.{IfErr-weaker, IfOk-weaker}
use Rattle.std.specs.Io.Buffered.{reader_remaining}
use Rattle.rw_trace.specs.Ahead.{HasReadLine, still_ahead}
use Rattle.rw_trace.proofs.Ahead.{fresh-reader, header-opened, opened-again, unopened-again}
use Rattle.rw_trace.proofs.record_reader.RecordReader.open.Goals as goal

pub returns-clause-opened : goal.returns-clause-opened
returns-clause-opened g c =
    let rem = g.R.Read.remaining in
    let line = c.read_line.new.line.items in
    let fresh = fresh-reader rem c.in-Ok.reader c.args.bytes c.in-Ok.ensures.inner c.in-Ok.ensures.empty c.in-Ok.ensures.capacity in
    let read = subst (λ k. HasReadLine k line (reader_remaining rem c.read_line.new.reader)) fresh c.in_ok-read_line.ensures.read in
    let whole : c.in-Some.next ≡ length line = search rules in
    let header = rw c.deref.ensures.value at c.in-Some.ensures.longer in
    header-opened (rem c.args.bytes) (reader_remaining rem c.read_line.new.reader) line c.in-Some.version c.in-Some.next read header whole

pub returns-2-clause-opened : goal.returns-2-clause-opened
returns-2-clause-opened g c =
    let rem = g.R.Read.remaining in
    let line = c.read_line.new.line.items in
    let mid = reader_remaining rem c.read_line.new.reader in
    let fresh = fresh-reader rem c.in-Ok.reader c.args.bytes c.in-Ok.ensures.inner c.in-Ok.ensures.empty c.in-Ok.ensures.capacity in
    let read = subst (λ k. HasReadLine k line mid) fresh c.in_ok-read_line.ensures.read in
    IfOk-weaker c.open_records.result _ _ (λ r h. opened-again (rem c.args.bytes) mid line read r.1 (still_ahead rem r.0.source) h) c.open_records.ensures.opened

pub returns-2-clause-refused : goal.returns-2-clause-refused
returns-2-clause-refused g c =
    let rem = g.R.Read.remaining in
    let line = c.read_line.new.line.items in
    let mid = reader_remaining rem c.read_line.new.reader in
    let fresh = fresh-reader rem c.in-Ok.reader c.args.bytes c.in-Ok.ensures.inner c.in-Ok.ensures.empty c.in-Ok.ensures.capacity in
    let read = subst (λ k. HasReadLine k line mid) fresh c.in_ok-read_line.ensures.read in
    IfErr-weaker c.open_records.result _ _ (λ e h. unopened-again (rem c.args.bytes) mid line read e h) c.open_records.ensures.refused
