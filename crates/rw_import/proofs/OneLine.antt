-- Where line ends stand in the fields of records that are read one by one.
use Rattle.std.proofs.Common.{◌≡◌, ◌∙◌, ◌⊎◌, ℕ, List, ◌∷◌, Bool, true, false, Option, Some, None, inl, inr, refl, ap, subst}
use Rattle.std.specs.Prelude.{IfSome, ◌&&◌, ⊤}
use Rattle.rw_trace.specs.Pieces.{Gives, GivesNone, records_ahead}
use Rattle.rw_trace.specs.Words.{Fields, Text}
use Rattle.rw_import.specs.Csv.{IsOpenQuote, has_its_lines, have_their_lines}
use Rattle.rw_import.specs.CsvStream.{IsUnread, ReadsLines}
use Rattle.rw_import.specs.Streamed.{IsOfLog}
use Rattle.rw_import.specs.declared.csv_stream.Log.{Log}
use Rattle.rw_import.specs.declared.fault.ImportFault.{ImportFault}
use Rattle.rw_import.specs.declared.fault.ImportFault.TheVariants as fault
use Rattle.rw_import.specs.declared.layout.Quotes.{Quotes}

-- all records have line ends only where they may exactly where those do that are still to come, where these are known
abbrev pub KeepsLines : Quotes → Option (List Fields) → Option (List Fields) → Type 0
KeepsLines q None now = ⊤
KeepsLines q (Some all) None = ⊥
KeepsLines q (Some all) (Some rest) = have_their_lines q all ≡ have_their_lines q rest

pub lines-none : (q : Quotes) (o : Option (List Fields)) → KeepsLines q o o
lines-none q None = tt
lines-none q (Some all) = refl

-- one more record that has
pub line-more : (q : Quotes) (all rest : List Fields) (x : Fields) (more : List Fields) → have_their_lines q all ≡ have_their_lines q rest → rest ≡ x ∷ more → has_its_lines q x ≡ true → have_their_lines q all ≡ have_their_lines q more
line-more q all rest x more h gives fits = h ∙ ap (λ (rs : List Fields). have_their_lines q rs) gives ∙ ap (λ (b : Bool). b && have_their_lines q more) fits

-- one that has not
pub line-open : (q : Quotes) (all rest : List Fields) (x : Fields) (more : List Fields) → have_their_lines q all ≡ have_their_lines q rest → rest ≡ x ∷ more → has_its_lines q x ≡ false → have_their_lines q all ≡ false
line-open q all rest x more h gives fits = h ∙ ap (λ (rs : List Fields). have_their_lines q rs) gives ∙ ap (λ (b : Bool). b && have_their_lines q more) fits

more-known : (q : Quotes) (before now after : Option (List Fields)) (x : Fields) → KeepsLines q before now → Gives now x after → has_its_lines q x ≡ true → KeepsLines q before after
more-known q None now after x h g fits = tt
more-known q (Some all) None after x h g fits = absurd h
more-known q (Some all) (Some rest) None x h g fits = absurd g
more-known q (Some all) (Some rest) (Some more) x h g fits = line-more q all rest x more h g fits

open-known : (q : Quotes) (before now after : Option (List Fields)) (x : Fields) → KeepsLines q before now → Gives now x after → has_its_lines q x ≡ false → IfSome before (λ all. have_their_lines q all ≡ false)
open-known q None now after x h g fits = tt
open-known q (Some all) None after x h g fits = absurd h
open-known q (Some all) (Some rest) None x h g fits = absurd g
open-known q (Some all) (Some rest) (Some more) x h g fits = line-open q all rest x more h g fits

pub lines-all : (q : Quotes) (before now : Option (List Fields)) → KeepsLines q before now → GivesNone now → IfSome before (λ all. have_their_lines q all ≡ true)
lines-all q None now h none = tt
lines-all q (Some all) None h none = absurd h
lines-all q (Some all) (Some rest) h none = h ∙ ap (λ (rs : List Fields). have_their_lines q rs) none

pub lines-more : {R : Type 0} (rem : R → Option Text) (q : Quotes) (before : Option (List Fields)) (old new : Log R) → old.quotes ≡ q → KeepsLines q before (records_ahead rem old.reader)
    → ReadsLines rem old.quotes old.reader new.reader true → KeepsLines q before (records_ahead rem new.reader)
lines-more rem q before old new same h reads =
    more-known q before (records_ahead rem old.reader) (records_ahead rem new.reader) reads.fields h reads.gives (subst (λ (p : Quotes). has_its_lines p reads.fields ≡ true) same reads.lines)

-- why a log is refused, where it is known to be for one of two reasons
pub some-inr : {A : Type 0} (P Q : A → Type 0) (o : Option A) → IfSome o Q → IfSome o (λ x. P x ⊎ Q x)
some-inr P Q None h = tt
some-inr P Q (Some x) h = inr h

some-open : (P : List Fields → Type 0) (q : Quotes) (o : Option (List Fields)) (e : ImportFault) (n : ℕ) → e ≡ fault.OpenQuote n → IfSome o (λ all. have_their_lines q all ≡ false) → IfSome o (λ all. IsOpenQuote q all e ⊎ P all)
some-open P q None e n is h = tt
some-open P q (Some all) e n is h = inl (n, is, h)

-- no record is read: this is why the log is refused, if the fault is the log's
pub lines-open : {R : Type 0} (rem : R → Option Text) (q : Quotes) (before : Option (List Fields)) (P : List Fields → Type 0) (old new : Log R) (e : ImportFault) → old.quotes ≡ q → KeepsLines q before (records_ahead rem old.reader)
    → IsOfLog e → IsUnread rem old.quotes old.reader new.reader e → IfSome before (λ all. IsOpenQuote q all e ⊎ P all)
lines-open rem q before P old new e same h of (inl (n, is, reads)) =
    some-open P q before e n is (open-known q before (records_ahead rem old.reader) (records_ahead rem new.reader) reads.fields h reads.gives (subst (λ (p : Quotes). has_its_lines p reads.fields ≡ false) same reads.lines))
lines-open rem q before P old new e same h of (inr (inl is)) = absurd (subst IsOfLog is of)
lines-open rem q before P old new e same h of (inr (inr is)) = absurd (subst IsOfLog is of)
