-- What the calls for a record tell of it.
use Rattle.csv.specs.Records.{fields_of}
use Rattle.std.specs.List.{position_or_len}
use Rattle.rw_import.specs.Csv.{is_same_text}
use Rattle.rw_import.specs.Sheet.{texts_in}
use Rattle.rw_import.proofs.CsvStreams.{told-record}
use Rattle.rw_import.proofs.Streams.{get-since, keepable-since}
use Rattle.rw_import.proofs.csv_stream.next_told.Goals as goal

pub returns-clause-some : goal.returns-clause-some
returns-clause-some g c =
    let log = c.args.log.now in
    let n = position_or_len (is_same_text c.field_of-text.result.now) (texts_in log.texts) in
    let said = c.read_fields-said in
    let judged = c.judge_since-judged in
    let told = c.in_ok-told in
    told-record g.R.Read.remaining c.args.options log _ c.args.epoch.now judged.new.epoch told.told (fields_of c.next_fields.new.fields) said.result judged.result c.field_of-text.result.now
    (rw c.if-not-branch.false at c.in_ok-next_fields.ensures.gives) said.ensures.said c.field_of-text.ensures judged.ensures.epoch judged.ensures.judged told.ensures.said told.ensures.texts
    (λ asked. keepable-since log.edges c.args.options _ log.places.time n log.places.edge said.result judged.result told.told judged.ensures.judged told.ensures.said said.ensures.short said.ensures.edge said.ensures.some said.ensures.few told.ensures.small asked)
    (λ none. get-since c.args.options.ticks _ log.places.time n log.places.kind said.result judged.result told.told judged.ensures.judged told.ensures.said said.ensures.get none)
