-- The lines that are written of a log in the oracle-general format, where its bytes are known, are the trace that it means.
use Rattle.std.proofs.Common.{◌≡◌, ◌≢◌, ◌∙◌, ℕ, List, [], false, Option, Some, None, Result, Ok, Err, ◌⊎◌, inl, inr, length, map, refl, sym, ap, subst}
use Rattle.std.specs.Prelude.{IfErr, IfOk, IfSome, IsOk, OnOk}
use Rattle.std.specs.Io.Buffered.{reader_buffer, reader_capacity, reader_inner, reader_remaining}
use Rattle.std.specs.Io.KnownBytes.{Appends, prepend_known}
use Rattle.std.specs.List.{range_with_len}
use Rattle.std.specs.declared.io.buffered.BufReader.{BufReader}
use Rattle.std.proofs.lemmas.Result.{IfErr-at_err}
use Rattle.std.proofs.lemmas.Simd.{map-map}
use Rattle.rw_trace.specs.Pieces.{RiseFrom}
use Rattle.rw_trace.specs.Words.{Text}
use Rattle.rw_trace.specs.declared.Row.{Row}
use Rattle.rw_import.specs.Log.{IsErrorOfLosses, IsStrictlyKept, Saying, clamped_in, row_counts, kept_in, left_out_of, rows_for}
use Rattle.rw_import.specs.Oracle.{oracle_said, piece_at, piece_count, piece_said}
use Rattle.rw_import.specs.OracleStream.{HasReadOracle, pieces_ahead, pieces_of, pieces_rows, pieces_told}
use Rattle.rw_import.specs.Stream.{AreAllRead, counts_so_far}
use Rattle.rw_import.specs.Streamed.{GainsTrace, IsFirstRefused, IsOfLog, IsStreamRefusal, IsTooFewKept, epoch_of, oracle_rows_since, oracle_told_since, told_since}
use Rattle.rw_import.specs.declared.entry.Counts.{Counts}
use Rattle.rw_import.specs.declared.fault.ImportFault.{ImportFault}
use Rattle.rw_import.specs.declared.fault.ImportFault.TheVariants as fault
use Rattle.rw_import.specs.declared.options.Streaming.{Streaming}
use Rattle.rw_import.specs.declared.stream.Stream.{Stream}
use Rattle.rw_import.proofs.Sheets.{rows-objects}
use Rattle.rw_import.proofs.Written.{counts-told, if-known, on-ok, stream-gains, stream-rises}

-- a reader through a buffer that is empty gives what the one underneath does
prepend-none : (known : Option Text) → prepend_known [] known ≡ known
prepend-none None = refl
prepend-none (Some xs) = refl

pub buffered-known : {R A : Type 0} (rem : R → Option Text) (r : BufReader R A) (log : R) → reader_capacity r ≡ 65536 → reader_buffer r ≡ [] → reader_inner r ≡ log → reader_remaining rem r ≡ rem log
buffered-known rem r log capacity empty inner = rw (capacity, empty, inner) (prepend-none (rem log))

-- each row has the object of its record
pub objects-since : (s : Streaming) (known : Option Text) → IfSome known (λ bytes. map (λ r. r.object) (oracle_rows_since s bytes) ≡ map (λ x. x.1) (kept_in (oracle_told_since s bytes)))
objects-since s known = if-known known _ (λ bytes is. rows-objects s.options (epoch_of s.epoch (oracle_said bytes)) 0 (kept_in (oracle_told_since s bytes)))

-- what is written, and counted
pub record IsOracleWritten (s : Streaming) (known before after : Option Text) (counts : Counts) : Type 0 where
  pub trace : IfSome known (λ bytes. GainsTrace s.options.edges false (oracle_rows_since s bytes) before after)
  pub rising : IfSome known (λ bytes. RiseFrom 0 (oracle_rows_since s bytes))
  pub kept : IfSome known (λ bytes. counts.kept ≡ length (kept_in (oracle_told_since s bytes)))
  pub clamped : IfSome known (λ bytes. counts.clamped ≡ clamped_in (kept_in (oracle_told_since s bytes)))
  pub left_out : IfSome known (λ bytes. counts.left_out ≡ left_out_of (oracle_told_since s bytes))
  pub strict : IfSome known (λ bytes. IsStrictlyKept s.options (oracle_told_since s bytes))
  pub any : (rows : List Row) × RiseFrom 0 rows × GainsTrace s.options.edges false rows before after

-- what all records come to is what the log does
pub said-all : (bytes : Text) → map piece_said (pieces_of bytes) ≡ oracle_said bytes
said-all bytes = map-map piece_said (piece_at bytes) (range_with_len 0 (piece_count bytes))

told-all : (s : Streaming) (bytes : Text) → pieces_told s.options s.epoch (pieces_of bytes) ≡ oracle_told_since s bytes
told-all s bytes = ap (λ (said : List (Saying ℕ)). told_since s.options.ticks 0 s.epoch said) (said-all bytes)

rows-all : (s : Streaming) (bytes : Text) → pieces_rows s.options s.epoch (pieces_of bytes) ≡ oracle_rows_since s bytes
rows-all s bytes =
    ap (λ (ts : List (Saying ℕ)). rows_for s.options (epoch_of s.epoch (map piece_said (pieces_of bytes))) (λ n. n) 0 (kept_in ts)) (told-all s bytes)
    ∙ ap (λ (said : List (Saying ℕ)). rows_for s.options (epoch_of s.epoch said) (λ n. n) 0 (kept_in (oracle_told_since s bytes))) (said-all bytes)

module _ (s : Streaming) (known inner : Option Text) (same : inner ≡ known) (before mid after : Option Text) (old new : Stream) (epoch : old.epoch ≡ s.epoch) (kinds : old.kinds ≡ false) where
  written : (counts : Counts) → HasReadOracle s.options inner before mid old new → Appends mid after new.text.items → counts ≡ counts_so_far new → IsOracleWritten s known before after counts
  written counts h gained is_counted =
      let o = s.options in
      let asked = old.epoch in
      let told = pieces_told o asked h.seen in
      let rises : RiseFrom 0 (pieces_rows o asked h.seen) = stream-rises o.edges o (epoch_of asked (map piece_said h.seen)) (λ n. n) told h.gone new h.stream in
      let gains : GainsTrace o.edges false (pieces_rows o asked h.seen) before after =
      stream-gains o.edges o (epoch_of asked (map piece_said h.seen)) (λ n. n) told h.gone new false before mid after h.stream h.gained gained (h.kinds ∙ kinds) o.some_edges o.few_edges in
      let seen : (bytes : Text) → known ≡ Some bytes → h.seen ≡ pieces_of bytes = λ bytes is. sym (subst (λ (k : Option Text). AreAllRead (pieces_ahead k) h.seen) (same ∙ is) h.all) in
      let rows : (bytes : Text) → known ≡ Some bytes → pieces_rows o asked h.seen ≡ oracle_rows_since s bytes = λ bytes is.
      ap (λ (ps : List Text). pieces_rows o asked ps) (seen bytes is) ∙ ap (λ (e : Option ℕ). pieces_rows o e (pieces_of bytes)) epoch ∙ rows-all s bytes in
      let tells : (bytes : Text) → known ≡ Some bytes → told ≡ oracle_told_since s bytes = λ bytes is.
      ap (λ (ps : List Text). pieces_told o asked ps) (seen bytes is) ∙ ap (λ (e : Option ℕ). pieces_told o e (pieces_of bytes)) epoch ∙ told-all s bytes in
      record {
        trace = if-known known _ (λ bytes is. subst (λ (rs : List Row). GainsTrace o.edges false rs before after) (rows bytes is) gains);
        rising = if-known known _ (λ bytes is. subst (λ (rs : List Row). RiseFrom 0 rs) (rows bytes is) rises);
        kept = if-known known _ (λ bytes is. ap (λ (c : Counts). c.kept) is_counted ∙ h.stream.kept ∙ ap (λ (ts : List (Saying ℕ)). length (kept_in ts)) (tells bytes is));
        clamped = if-known known _ (λ bytes is. ap (λ (c : Counts). c.clamped) is_counted ∙ h.stream.clamped ∙ ap (λ (ts : List (Saying ℕ)). clamped_in (kept_in ts)) (tells bytes is));
        left_out = if-known known _ (λ bytes is. ap (λ (c : Counts). c.left_out) is_counted ∙ h.stream.left_out ∙ ap left_out_of (tells bytes is));
        strict = if-known known _ (λ bytes is. subst (λ (ts : List (Saying ℕ)). IsStrictlyKept o ts) (tells bytes is) h.stream.taken.strict);
        any = (pieces_rows o asked h.seen, rises, gains);
      }

  -- an answer that came out
  pub oracle-written : {A : Type 0} (read : Result A ImportFault) (result : Result Counts ImportFault) → (IsOk result → IsOk read) → OnOk read (HasReadOracle s.options inner before mid old new) → OnOk result (Appends mid after new.text.items)
      → IfOk result (λ c. c ≡ counts_so_far new) → IfOk result (IsOracleWritten s known before after)
  oracle-written read (Ok counts) whole has gained is = written counts (on-ok read (whole refl) has) gained is
  oracle-written read (Err e) whole has gained is = tt

  -- a record is refused
  refusal : (bytes : Text) (e : ImportFault) → known ≡ Some bytes → IfSome (pieces_ahead inner) (λ all. IsFirstRefused s.options (pieces_told s.options old.epoch all) e) → IsFirstRefused s.options (oracle_told_since s bytes) e
  refusal bytes e is h =
      let P = λ (k : Option Text). IfSome (pieces_ahead k) (λ all. IsFirstRefused s.options (pieces_told s.options old.epoch all) e) in
      let why : IsFirstRefused s.options (pieces_told s.options old.epoch (pieces_of bytes)) e = subst P (same ∙ is) h in
      subst (λ (ts : List (Saying ℕ)). IsFirstRefused s.options ts e) (ap (λ (x : Option ℕ). pieces_told s.options x (pieces_of bytes)) epoch ∙ told-all s bytes) why

  -- too few records are kept
  losses : (bytes : Text) (e : ImportFault) → known ≡ Some bytes → HasReadOracle s.options inner before mid old new → IsErrorOfLosses s.options (counts_so_far new) e → IsTooFewKept s.options (oracle_told_since s bytes) e
  losses bytes e is h lost =
      let seen : h.seen ≡ pieces_of bytes = sym (subst (λ (k : Option Text). AreAllRead (pieces_ahead k) h.seen) (same ∙ is) h.all) in
      let tells : pieces_told s.options old.epoch h.seen ≡ oracle_told_since s bytes =
      ap (λ (ps : List Text). pieces_told s.options old.epoch ps) seen ∙ ap (λ (x : Option ℕ). pieces_told s.options x (pieces_of bytes)) epoch ∙ told-all s bytes in
      subst (λ (c : Counts). IsErrorOfLosses s.options c e) (counts-told h.stream ∙ ap row_counts tells) lost

  -- an answer that is a fault
  pub oracle-refused : {A B : Type 0} (read : Result A ImportFault) (judged : Result B ImportFault) (result : Result Counts ImportFault) → IfErr result (λ e. e ≢ fault.Output → judged ≡ Err e)
      → IfErr judged (λ e. (read ≡ Err e) ⊎ (IsOk read × IsErrorOfLosses s.options (counts_so_far new) e))
      → IfErr read (λ e. IsOfLog e → IfSome (pieces_ahead inner) (λ all. IsFirstRefused s.options (pieces_told s.options old.epoch all) e)) → OnOk read (HasReadOracle s.options inner before mid old new)
      → IfErr result (λ e. IsOfLog e → IfSome known (λ bytes. IsStreamRefusal s.options (oracle_told_since s bytes) e))
  oracle-refused read judged (Ok counts) handed judges refused has = tt
  oracle-refused read judged (Err e) handed judges refused has = λ of.
      let at : judged ≡ Err e = handed (λ output. subst IsOfLog output of) in
      elim (IfErr-at_err _ at judges) [
        | inl is ↦ if-known known _ (λ bytes at. inl (refusal bytes e at (IfErr-at_err _ is refused of)))
        | inr lost ↦ if-known known _ (λ bytes at. inr (losses bytes e at (on-ok read lost.0 has) lost.1))
      ]
