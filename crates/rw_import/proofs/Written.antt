-- The lines that a stream has written are a trace of its rows.
use Rattle.std.proofs.Common.{◌≡◌, ◌≤◌, ◌+◌, ◌-◌, ◌*◌, ◌/◌, ◌∙◌, ℕ, suc, List, [], ◌∷◌, ◌++◌, Bool, Option, Some, None, Result, Ok, Err, length, refl, ap, subst, sym, arith, ◌⊎◌, inl, inr}
use Rattle.std.specs.Prelude.{◌≢◌, IfErr, IfOk, IfSome, IsOk, OnOk, codes, true, false}
use Rattle.std.specs.Io.KnownBytes.{Appends}
use Rattle.std.proofs.lemmas.List.{append-nil}
use Rattle.std.proofs.lemmas.Nat.{mul-le}
use Rattle.std.proofs.lemmas.Result.{IfErr-at_err}
use Rattle.rw_trace.specs.Limits.{most_streamed_rows}
use Rattle.rw_trace.specs.Pieces.{RiseFrom}
use Rattle.rw_trace.specs.Words.{Text}
use Rattle.rw_trace.specs.declared.Row.{Row}
use Rattle.rw_import.specs.Lines.{trace_lines}
use Rattle.rw_import.specs.Log.{AreEnough, Said, row_counts, Saying, billion, kept_in, rows_for, ticks_from}
use Rattle.rw_import.specs.Stream.{AreWholeLines, HasSentWhole, IsStreamOf, counts_so_far, fault_line}
use Rattle.rw_import.specs.Streamed.{GainsNoTrace, GainsTrace, StandInOrder}
use Rattle.rw_import.specs.Written.{NamesPurges}
use Rattle.rw_trace.specs.Trace.{trace_of}
use Rattle.rw_trace.specs.Unread.{records_of}
use Rattle.rw_import.specs.declared.entry.Counts.{Counts}
use Rattle.rw_import.specs.declared.fault.ImportFault.{ImportFault}
use Rattle.rw_import.specs.declared.fault.ImportFault.TheVariants as fault
use Rattle.rw_import.specs.declared.options.Options.{Options}
use Rattle.rw_import.specs.declared.stream.Stream.{Stream}
use Rattle.rw_trace.proofs.Ordered.{rising_accepted}
use Rattle.rw_import.proofs.Reread.{cut-no-trace, lines-header, lines-trace, nothing-no-trace}
use Rattle.rw_import.proofs.Streams.{appends-more, appends-none}

-- ---- ticks rise as log times do
div-rise : (x y : ℕ) → x ≤ y → x / billion ≤ y / billion
div-rise x y h = omega arith

ticks-rise : (ticks epoch a b : ℕ) → a ≤ b → ticks_from ticks epoch a ≤ ticks_from ticks epoch b
ticks-rise ticks epoch a b h = div-rise ((a - epoch) * ticks) ((b - epoch) * ticks) (mul-le (a - epoch) ticks (b - epoch) ticks (omega arith) (omega arith))

rows-rise : {O : Type 0} (o : Options) (epoch : ℕ) (number : O → ℕ) (place t : ℕ) (ss : List (Said O)) → StandInOrder t ss → RiseFrom (ticks_from o.ticks epoch t) (rows_for o epoch number place ss)
unfolding rows_for
rows-rise o epoch number place t [] h = tt
rows-rise o epoch number place t (s ∷ ss) h = (ticks-rise o.ticks epoch t s.0.time h.0, rows-rise o epoch number (place + 1) s.0.time ss h.1)

from-none : (t : ℕ) (rows : List Row) → RiseFrom t rows → RiseFrom 0 rows
from-none t [] h = tt
from-none t (r ∷ rs) h = (omega arith, h.1)

pub rows-length : {O : Type 0} (o : Options) (epoch : ℕ) (number : O → ℕ) (place : ℕ) (ss : List (Said O)) → length (rows_for o epoch number place ss) ≡ length ss
unfolding rows_for
rows-length o epoch number place [] = refl
rows-length o epoch number place (s ∷ ss) = ap (λ (n : ℕ). suc n) (rows-length o epoch number (place + 1) ss)

module _ {O : Type 0} (edges : ℕ) (o : Options) (epoch : ℕ) (number : O → ℕ) (told : List (Saying O)) (gone : Text) (s : Stream) where
  abbrev pub all_rows : List Row
  all_rows = rows_for o epoch number 0 (kept_in told)

  pub stream-rises : IsStreamOf edges o all_rows told gone s → RiseFrom 0 all_rows
  stream-rises k = from-none (ticks_from o.ticks epoch 0) all_rows (rows-rise o epoch number 0 0 (kept_in told) k.taken.ordered)

  -- once all lines have gone out, what the writer has gained is the trace
  pub stream-gains : (kinds : Bool) (before mid after : Option Text) → IsStreamOf edges o all_rows told gone s → Appends before mid gone → Appends mid after s.text.items → s.kinds ≡ kinds → 1 ≤ o.edges → edges ≤ 256
      → GainsTrace edges kinds all_rows before after
  stream-gains kinds before mid after k first last same some few =
      let text = gone ++ s.text.items in
      let lines : text ≡ trace_lines kinds all_rows = subst (λ (b : Bool). text ≡ trace_lines b all_rows) same k.lines in
      let named = subst (λ (b : Bool). NamesPurges b all_rows) same k.named in
      let trace : trace_of edges most_streamed_rows (records_of text) ≡ Ok all_rows =
      lines-trace most_streamed_rows kinds all_rows text lines named edges (omega arith) (k.ranges some) (omega (arith, rows-length o epoch number 0 (kept_in told), k.taken.few)) in
      record {
        text = text;
        gained = appends-more before mid after gone s.text.items first last;
        trace = trace;
        ordered = rising_accepted edges most_streamed_rows (records_of text) all_rows trace (stream-rises k);
        header = lines-header kinds all_rows text lines;
      }

-- ---- what is known of an answer
pub if-known : {A : Type 0} (known : Option A) (P : A → Type 0) → ((x : A) → known ≡ Some x → P x) → IfSome known P
if-known None P h = tt
if-known (Some x) P h = h x refl

pub known-at : {A : Type 0} {known : Option A} {x : A} (P : A → Type 0) → known ≡ Some x → IfSome known P → P x
known-at P e h = subst (λ (o : Option _). IfSome o P) e h

pub on-ok : {A E P : Type 0} (r : Result A E) → IsOk r → OnOk r P → P
on-ok (Ok x) is h = h
on-ok (Err e) is h = absurd (cc is)

-- what has come of a stream's rows
pub counts-told : {O : Type 0} {edges : ℕ} {o : Options} {rows : List Row} {told : List (Saying O)} {gone : Text} {s : Stream} → IsStreamOf edges o rows told gone s → counts_so_far s ≡ row_counts told
counts-told k i = record { kept = k.kept i; clamped = k.clamped i; left_out = k.left_out i }

-- enough of them are kept
pub enough-counted : {A : Type 0} (judged : Result A ImportFault) (result : Result Counts ImportFault) (o : Options) (s : Stream) → (IsOk result → IsOk judged) → OnOk judged (AreEnough o s.kept s.left_out) → IfOk result (λ c. c ≡ counts_so_far s)
    → IfOk result (λ c. AreEnough o c.kept c.left_out)
enough-counted judged (Ok c) o s whole has is = subst (λ (x : Counts). AreEnough o x.kept x.left_out) (sym is) (on-ok judged (whole refl) has)
enough-counted judged (Err e) o s whole has is = tt

-- what has gone out before any fault
pub sent-before : {A : Type 0} (r : Result A ImportFault) (edges : ℕ) (begun kinds : Bool) (before after : Option Text) → HasSentWhole edges begun kinds before after → IfErr r (λ e. e ≢ fault.Output → HasSentWhole edges begun kinds before after)
sent-before (Ok x) edges begun kinds before after h = tt
sent-before (Err e) edges begun kinds before after h = λ _. h

-- ---- a trace that is cut off
pub gains-nothing : (known : Option Text) → GainsNoTrace known known
gains-nothing known = record { text = []; gained = appends-none known; none = nothing-no-trace }

pub cut-off-gains : (edges : ℕ) (begun kinds : Bool) (before mid after : Option Text) → edges ≤ 256 → HasSentWhole edges begun kinds before mid → Appends mid after (fault_line begun) → GainsNoTrace before after
cut-off-gains edges false kinds before mid after small h last =
    let none : h.gone ++ [] ≡ [] = append-nil h.gone ∙ h.whole.none refl in
    record {
      text = h.gone ++ [];
      gained = appends-more before mid after h.gone [] h.gained last;
      none = λ others most rows e. nothing-no-trace others most rows (subst (λ (t : Text). trace_of others most (records_of t) ≡ Ok rows) none e);
    }
cut-off-gains edges true kinds before mid after small h last =
    let (sent, lines, fine) = h.whole.some refl in
    let text = h.gone ++ codes "fault\n" in
    record {
      text = text;
      gained = appends-more before mid after h.gone (codes "fault\n") h.gained last;
      none = λ others most rows e. cut-no-trace kinds sent edges (omega arith) fine others most rows (subst (λ (t : Text). trace_of others most (records_of (t ++ codes "fault\n")) ≡ Ok rows) lines e);
    }

-- of an answer that is a fault but the writer's
pub answer-cut-off : {A B : Type 0} (edges : ℕ) (begun kinds : Bool) (before mid after : Option Text) (read : Result A ImportFault) (result : Result B ImportFault) → edges ≤ 256
    → IfErr result (λ e. e ≢ fault.Output → read ≡ Err e) → IfErr read (λ e. e ≢ fault.Output → HasSentWhole edges begun kinds before mid)
    → IfErr result (λ e. e ≢ fault.Output → Appends mid after (fault_line begun)) → IfErr result (λ e. e ≢ fault.Output → GainsNoTrace before after)
answer-cut-off edges begun kinds before mid after read (Ok x) small handed sent last = tt
answer-cut-off edges begun kinds before mid after read (Err e) small handed sent last = λ other.
    cut-off-gains edges begun kinds before mid after small (IfErr-at_err _ (handed other) sent other) (last other)

-- what has gone out once the log is read to its end
pub whole-read : {O : Type 0} (edges : ℕ) (o : Options) (rows : List Row) (told : List (Saying O)) (gone : Text) (old new : Stream) (before mid : Option Text) → Appends before mid gone → IsStreamOf edges o rows told gone new → new.kinds ≡ old.kinds
    → HasSentWhole edges new.begun old.kinds before mid
whole-read edges o rows told gone old new before mid gained k kinds = record { gone = gone; gained = gained; whole = subst (λ (b : Bool). AreWholeLines edges new.begun b gone) kinds k.whole }

-- of a log that is read to its end or up to a fault, and then judged
pub judged-cut-off : {A B H P : Type 0} (Q : ImportFault → Type 0) (read : Result A ImportFault) (judged : Result B ImportFault) → IfErr read (λ e. e ≢ fault.Output → P) → OnOk read H → (H → P)
    → IfErr judged (λ e. (read ≡ Err e) ⊎ (IsOk read × Q e)) → IfErr judged (λ e. e ≢ fault.Output → P)
judged-cut-off Q read (Ok x) sent has whole judges = tt
judged-cut-off Q read (Err e) sent has whole (inl is) = λ other. IfErr-at_err _ is sent other
judged-cut-off Q read (Err e) sent has whole (inr lost) = λ _. whole (on-ok read lost.0 has)

-- and of a fault before anything has gone out
pub nothing-before : {A : Type 0} (r : Result A ImportFault) (known : Option Text) → IfErr r (λ e. e ≢ fault.Output → GainsNoTrace known known)
nothing-before (Ok x) known = tt
nothing-before (Err e) known = λ _. gains-nothing known
