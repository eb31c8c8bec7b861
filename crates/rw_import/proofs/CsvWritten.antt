-- The lines that are written of a log of fields, where its bytes are known, are the trace that it means.
use Rattle.std.proofs.Common.{◌≡◌, ◌≢◌, ◌≤◌, ◌∙◌, ℕ, List, Option, Some, None, Result, Ok, Err, ◌⊎◌, inl, inr, length, map, refl, sym, ap, subst, true, false}
use Rattle.std.specs.Prelude.{IfErr, IfOk, IfSome, IsOk, OnOk, option_map}
use Rattle.std.specs.Io.KnownBytes.{Appends}
use Rattle.std.proofs.lemmas.Result.{IfErr-at_err}
use Rattle.rw_trace.specs.Pieces.{RiseFrom, records_ahead}
use Rattle.rw_trace.specs.Words.{Fields, Text}
use Rattle.rw_trace.specs.declared.Row.{Row}
use Rattle.rw_import.specs.Csv.{HaveOneNumberEach, columns_found, csv_said, edges_of, have_their_lines, log_records, number_among, objects_in, record_said, time_column}
use Rattle.rw_import.specs.CsvStream.{FindsColumns, HasReadCsv, IsRecordsFault, records_rows, records_told}
use Rattle.rw_import.specs.Log.{IsErrorOfLosses, IsStrictlyKept, Saying, clamped_in, row_counts, kept_in, left_out_of, rows_for}
use Rattle.rw_import.specs.Stream.{AreAllRead, counts_so_far}
use Rattle.rw_import.specs.Streamed.{GainsTrace, IsCsvRefusal, IsFirstRefused, IsOfLog, IsTableRefusal, IsTooFewKept, csv_rows_since, csv_told_since, epoch_of, names_kinds, told_since}
use Rattle.rw_import.specs.declared.csv_stream.Log.{Log}
use Rattle.rw_import.specs.declared.entry.Counts.{Counts}
use Rattle.rw_import.specs.declared.fault.ImportFault.{ImportFault}
use Rattle.rw_import.specs.declared.fault.ImportFault.TheVariants as fault
use Rattle.rw_import.specs.declared.layout.Layout.{Layout}
use Rattle.rw_import.specs.declared.layout.Places.{Places}
use Rattle.rw_import.specs.declared.layout.Quotes.{Quotes}
use Rattle.rw_import.specs.declared.options.Options.{Options}
use Rattle.rw_import.specs.declared.options.Streaming.{Streaming}
use Rattle.rw_import.specs.declared.stream.Stream.{Stream}
use Rattle.rw_import.proofs.Collecting.{edges-few, rows-numbers, said-whole}
use Rattle.rw_import.proofs.Texts.{one-number-each}
use Rattle.rw_import.proofs.Written.{counts-told, if-known, known-at, on-ok, stream-gains, stream-rises}

-- two rows of a log have one number exactly where their objects are the same text
pub numbered-since : (l : Layout) (s : Streaming) (known : Option Text) → IfSome known (λ bytes. HaveOneNumberEach (objects_in (csv_told_since l s bytes)) (map (λ r. r.object) (csv_rows_since l s bytes)))
numbered-since l s known = if-known known _ (λ bytes is.
    let told = csv_told_since l s bytes in
    subst (λ (ns : List ℕ). HaveOneNumberEach (objects_in told) ns) (sym (rows-numbers s.options (epoch_of s.epoch (csv_said l s.options bytes)) (number_among (objects_in told)) 0 (kept_in told))) (one-number-each (objects_in told)))

-- a log's trace is one for few edges
pub few-edges : (l : Layout) (o : Options) (edges : ℕ) → edges ≡ edges_of l o → edges ≤ 256
few-edges l o edges all = subst (λ (n : ℕ). n ≤ 256) (sym all) (edges-few l.edge o.edges o.few_edges)

-- what is written, and counted
pub record IsCsvWritten (l : Layout) (s : Streaming) (known before after : Option Text) (counts : Counts) : Type 0 where
  pub trace : IfSome known (λ bytes. GainsTrace (edges_of l s.options) (names_kinds l) (csv_rows_since l s bytes) before after)
  pub rising : IfSome known (λ bytes. RiseFrom 0 (csv_rows_since l s bytes))
  pub kept : IfSome known (λ bytes. counts.kept ≡ length (kept_in (csv_told_since l s bytes)))
  pub clamped : IfSome known (λ bytes. counts.clamped ≡ clamped_in (kept_in (csv_told_since l s bytes)))
  pub left_out : IfSome known (λ bytes. counts.left_out ≡ left_out_of (csv_told_since l s bytes))
  pub strict : IfSome known (λ bytes. IsStrictlyKept s.options (csv_told_since l s bytes))
  pub any : (rows : List Row) × RiseFrom 0 rows × GainsTrace (edges_of l s.options) (names_kinds l) rows before after

-- the rows that are still to come behind the header, and what is known of them
record IsBehind (l : Layout) (s : Streaming) (bytes : Text) (p : Places) (edges : ℕ) (ahead : Option (List Fields)) : Type 0 where
  rows : List Fields
  ahead_is : ahead ≡ Some rows
  found : columns_found l (log_records l bytes) ≡ Ok p
  told : csv_told_since l s bytes ≡ records_told p edges s.options s.epoch rows
  rows_are : csv_rows_since l s bytes ≡ records_rows p edges s.options s.epoch rows
  lines : have_their_lines l.quotes (log_records l bytes) ≡ have_their_lines l.quotes rows

behind : (l : Layout) (s : Streaming) (bytes : Text) (p : Places) (edges : ℕ) (ahead : Option (List Fields)) → FindsColumns l (Some (log_records l bytes)) p ahead → edges ≡ edges_of l s.options → IsBehind l s bytes p edges ahead
behind l s bytes p edges None h all = absurd h
behind l s bytes p edges (Some rows) h all =
    let o = s.options in
    let whole : map (record_said p edges) rows ≡ csv_said l o bytes = said-whole l o bytes p rows edges h.0 h.1 all in
    let column : time_column (columns_found l (log_records l bytes)) ≡ p.time = ap time_column h.0 in
    let told : csv_told_since l s bytes ≡ records_told p edges o s.epoch rows =
    ap (λ (c : ℕ). told_since o.ticks c s.epoch (csv_said l o bytes)) column ∙ ap (λ (said : List (Saying Text)). told_since o.ticks p.time s.epoch said) (sym whole) in
    record {
      rows = rows;
      ahead_is = refl;
      found = h.0;
      told = told;
      rows_are =
          ap (λ (ts : List (Saying Text)). rows_for o (epoch_of s.epoch (csv_said l o bytes)) (number_among (objects_in ts)) 0 (kept_in ts)) told
          ∙ ap (λ (said : List (Saying Text)). rows_for o (epoch_of s.epoch said) (number_among (objects_in (records_told p edges o s.epoch rows))) 0 (kept_in (records_told p edges o s.epoch rows))) (sym whole);
      lines = h.2;
    }

module _ {R : Type 0} (rem : R → Option Text) (l : Layout) (s : Streaming) (known : Option Text) (log : Log R) (edges : ℕ) (found : FindsColumns l (option_map (log_records l) known) log.places (records_ahead rem log.reader)) (all : edges ≡ edges_of l s.options) (same : log.edges ≡ edges) (quotes : log.quotes ≡ l.quotes) where
  here : (bytes : Text) → known ≡ Some bytes → IsBehind l s bytes log.places log.edges (records_ahead rem log.reader)
  here bytes is = behind l s bytes log.places log.edges (records_ahead rem log.reader) (subst (λ (k : Option Text). FindsColumns l (option_map (log_records l) k) log.places (records_ahead rem log.reader)) is found) (same ∙ all)

  refusal : (bytes : Text) (e : ImportFault) → known ≡ Some bytes → IfSome (records_ahead rem log.reader) (λ rows. IsRecordsFault log s.options s.epoch rows e) → IsCsvRefusal l s bytes e
  refusal bytes e is h =
      let b = here bytes is in
      elim (known-at (λ rows. IsRecordsFault log s.options s.epoch rows e) b.ahead_is h) [
        | inl unclosed ↦ inl (unclosed.0, unclosed.1, b.lines ∙ subst (λ (q : Quotes). have_their_lines q b.rows ≡ false) quotes unclosed.2)
        | inr refused ↦
            inr (subst (λ (r : Result Places ImportFault). IsTableRefusal s.options (csv_told_since l s bytes) r e) (sym b.found) (inl (subst (λ (ts : List (Saying Text)). IsFirstRefused s.options ts e) (sym b.told) refused)))
      ]

  module _ (before mid after : Option Text) (old new : Stream) (epoch : old.epoch ≡ s.epoch) (kinds : old.kinds ≡ names_kinds l) where
    written : (counts : Counts) → HasReadCsv rem s.options log before mid old new → Appends mid after new.text.items → counts ≡ counts_so_far new → IsCsvWritten l s known before after counts
    written counts h gained is_counted =
        let o = s.options in
        let few = few-edges l o log.edges (same ∙ all) in
        let asked = old.epoch in
        let told = records_told log.places log.edges o asked h.seen in
        let rises : RiseFrom 0 (records_rows log.places log.edges o asked h.seen) = stream-rises log.edges o (epoch_of asked (map (record_said log.places log.edges) h.seen)) (number_among (objects_in told)) told h.gone new h.stream in
        let gains : GainsTrace (edges_of l o) (names_kinds l) (records_rows log.places log.edges o asked h.seen) before after =
        subst (λ (n : ℕ). GainsTrace n (names_kinds l) (records_rows log.places log.edges o asked h.seen) before after) (same ∙ all)
        (stream-gains log.edges o (epoch_of asked (map (record_said log.places log.edges) h.seen)) (number_among (objects_in told)) told h.gone new (names_kinds l) before mid after h.stream h.gained gained (h.kinds ∙ kinds) o.some_edges few) in
        let rows : (bytes : Text) → known ≡ Some bytes → records_rows log.places log.edges o asked h.seen ≡ csv_rows_since l s bytes = λ bytes is.
        let b = here bytes is in
        let seen : b.rows ≡ h.seen = subst (λ (k : Option (List Fields)). AreAllRead k h.seen) b.ahead_is h.all in
        ap (λ (rs : List Fields). records_rows log.places log.edges o asked rs) (sym seen) ∙ ap (λ (e : Option ℕ). records_rows log.places log.edges o e b.rows) epoch ∙ sym b.rows_are in
        let tells : (bytes : Text) → known ≡ Some bytes → told ≡ csv_told_since l s bytes = λ bytes is.
        let b = here bytes is in
        let seen : b.rows ≡ h.seen = subst (λ (k : Option (List Fields)). AreAllRead k h.seen) b.ahead_is h.all in
        ap (λ (rs : List Fields). records_told log.places log.edges o asked rs) (sym seen) ∙ ap (λ (e : Option ℕ). records_told log.places log.edges o e b.rows) epoch ∙ sym b.told in
        record {
          trace = if-known known _ (λ bytes is. subst (λ (rs : List Row). GainsTrace (edges_of l o) (names_kinds l) rs before after) (rows bytes is) gains);
          rising = if-known known _ (λ bytes is. subst (λ (rs : List Row). RiseFrom 0 rs) (rows bytes is) rises);
          kept = if-known known _ (λ bytes is. ap (λ (c : Counts). c.kept) is_counted ∙ h.stream.kept ∙ ap (λ (ts : List (Saying Text)). length (kept_in ts)) (tells bytes is));
          clamped = if-known known _ (λ bytes is. ap (λ (c : Counts). c.clamped) is_counted ∙ h.stream.clamped ∙ ap (λ (ts : List (Saying Text)). clamped_in (kept_in ts)) (tells bytes is));
          left_out = if-known known _ (λ bytes is. ap (λ (c : Counts). c.left_out) is_counted ∙ h.stream.left_out ∙ ap left_out_of (tells bytes is));
          strict = if-known known _ (λ bytes is. subst (λ (ts : List (Saying Text)). IsStrictlyKept o ts) (tells bytes is) h.stream.taken.strict);
          any = (records_rows log.places log.edges o asked h.seen, rises, gains);
        }

    -- an answer that came out
    pub csv-written : {A : Type 0} (read : Result A ImportFault) (result : Result Counts ImportFault) → (IsOk result → IsOk read) → OnOk read (HasReadCsv rem s.options log before mid old new) → OnOk result (Appends mid after new.text.items)
        → IfOk result (λ c. c ≡ counts_so_far new) → IfOk result (IsCsvWritten l s known before after)
    csv-written read (Ok counts) whole has gained is = written counts (on-ok read (whole refl) has) gained is
    csv-written read (Err e) whole has gained is = tt

    -- too few rows are kept
    losses : (bytes : Text) (e : ImportFault) → known ≡ Some bytes → HasReadCsv rem s.options log before mid old new → IsErrorOfLosses s.options (counts_so_far new) e → IsCsvRefusal l s bytes e
    losses bytes e is h lost =
        let b = here bytes is in
        let seen : b.rows ≡ h.seen = subst (λ (k : Option (List Fields)). AreAllRead k h.seen) b.ahead_is h.all in
        let o = s.options in
        let tells : records_told log.places log.edges o old.epoch h.seen ≡ csv_told_since l s bytes =
        ap (λ (rs : List Fields). records_told log.places log.edges o old.epoch rs) (sym seen) ∙ ap (λ (x : Option ℕ). records_told log.places log.edges o x b.rows) epoch ∙ sym b.told in
        let told : IsTooFewKept o (csv_told_since l s bytes) e = subst (λ (c : Counts). IsErrorOfLosses o c e) (counts-told h.stream ∙ ap row_counts tells) lost in
        inr (subst (λ (r : Result Places ImportFault). IsTableRefusal o (csv_told_since l s bytes) r e) (sym b.found) (inr told))

    -- an answer that is a fault
    pub csv-refused : {A B : Type 0} (read : Result A ImportFault) (judged : Result B ImportFault) (result : Result Counts ImportFault) → IfErr result (λ e. e ≢ fault.Output → judged ≡ Err e)
        → IfErr judged (λ e. (read ≡ Err e) ⊎ (IsOk read × IsErrorOfLosses s.options (counts_so_far new) e))
        → IfErr read (λ e. IsOfLog e → IfSome (records_ahead rem log.reader) (λ rows. IsRecordsFault log s.options old.epoch rows e)) → OnOk read (HasReadCsv rem s.options log before mid old new)
        → IfErr result (λ e. IsOfLog e → IfSome known (λ bytes. IsCsvRefusal l s bytes e))
    csv-refused read judged (Ok counts) handed judges refused has = tt
    csv-refused read judged (Err e) handed judges refused has = λ of.
        let at : judged ≡ Err e = handed (λ output. subst IsOfLog output of) in
        elim (IfErr-at_err _ at judges) [
          | inl is ↦ if-known known _ (λ bytes at. refusal bytes e at (subst (λ (x : Option ℕ). IfSome (records_ahead rem log.reader) (λ rows. IsRecordsFault log s.options x rows e)) epoch (IfErr-at_err _ is refused of)))
          | inr lost ↦ if-known known _ (λ bytes at. losses bytes e at (on-ok read lost.0 has) lost.1)
        ]

    -- line ends stand only where they may
    pub csv-lines : {A : Type 0} (read : Result A ImportFault) (result : Result Counts ImportFault) → (IsOk result → IsOk read) → OnOk read (IfSome (records_ahead rem log.reader) (λ all. have_their_lines log.quotes all ≡ true))
        → IfOk result (λ _. IfSome known (λ bytes. have_their_lines l.quotes (log_records l bytes) ≡ true))
    csv-lines read (Err e) whole has = tt
    csv-lines read (Ok counts) whole has = if-known known _ (λ bytes is.
        let b = here bytes is in
        let rows : have_their_lines log.quotes b.rows ≡ true = known-at (λ all. have_their_lines log.quotes all ≡ true) b.ahead_is (on-ok read (whole refl) has) in
        b.lines ∙ subst (λ (q : Quotes). have_their_lines q b.rows ≡ true) quotes rows)
