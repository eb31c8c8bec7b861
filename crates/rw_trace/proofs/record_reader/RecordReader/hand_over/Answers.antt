use Rattle.std.proofs.Common.{◌≡◌, ◌∙◌, ◌∷◌, ap, rules, subst}
use Rattle.std.specs.Prelude.{option_map}
use Rattle.std.specs.Io.Buffered.{reader_remaining}
use Rattle.std.specs.Io.KnownBytes.{prepend_known}
use Rattle.rw_trace.specs.Ahead.{IsHandedOver}
use Rattle.rw_trace.specs.Unread.{records_of}
use Rattle.rw_trace.specs.declared.record_reader.Source.TheVariants as source
use Rattle.rw_trace.proofs.Ahead.{handed-over}
use Rattle.rw_trace.proofs.record_reader.RecordReader.hand_over.Goals as goal

pub returns-in-Lines-clause-handed : goal.returns-in-Lines-clause-handed
returns-in-Lines-clause-handed g c =
    let line = c.args.self.now.line.items in
    let known = reader_remaining g.R.Read.remaining c.in-Lines.reader in
    let front : c.extend_from_slice.new.self.items ≡ 10 ∷ line = search rules in
    subst (λ s. IsHandedOver g.R.Read.remaining s line (source.Records c.records_behind.result)) c.in-Lines.ensures.value
    (c.records_behind.ensures.ahead ∙ ap (λ xs. option_map records_of (prepend_known xs known)) front ∙ handed-over known line)
