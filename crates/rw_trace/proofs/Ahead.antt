-- What is still to come behind a plain line, and where a line is handed over to the reader of records.
use Rattle.std.proofs.Common.{Global, MatchBool, All, ◌≡◌, inl, inr, ◌≢◌, ◌≤◌, ◌<◌, ℕ, List, [], ◌∷◌, ◌++◌, length, drop, Bool, true, false, Option, None, Some, Err, refl, sym, ap, ◌∙◌, arith, append_assoc, subst}
use Rattle.std.specs.Prelude.{◌==◌, IfSome, option_map}
use Rattle.std.specs.Io.{StartsWith}
use Rattle.std.specs.Io.Buffered.{reader_buffer, reader_capacity, reader_inner, reader_remaining}
use Rattle.std.specs.declared.io.buffered.BufReader.{BufReader}
use Rattle.std.specs.Io.BufRead.{DropsConsumable, drop_through, take_through}
use Rattle.std.specs.Io.KnownBytes.{Keeps, prepend_known}
use Rattle.std.proofs.Math.Seq.{drop-append_seam}
use Rattle.std.proofs.lemmas.Grind.{common_steps}
use Rattle.std.proofs.lemmas.List.{drop-append-le, drop_all, length-drop, take-append-drop}
use Rattle.std.proofs.lemmas.List.Elements.{All-append, All-cons, All-head, All-nil, All-tail, All-weaker}
use Rattle.csv.specs.Machine.{Read, next_record}
use Rattle.csv.specs.Reading.{default_config, strip_bom}
use Rattle.csv.specs.declared.parser.State.TheVariants as st
use Rattle.rw_trace.specs.Ahead.{HasNoRecord, HasReadLine, IsFaultFound, IsFound, IsHandedOver, IsOpened, IsRowFound, IsUnopened, lines_ahead, still_ahead}
use Rattle.rw_trace.specs.Lines.{EndsLine, IsHeaderAt, IsOrdinary, IsOrdinaryField, IsRowAt, commas}
use Rattle.rw_trace.specs.Pieces.{Gives, GivesNone, IsRefusal, ordered_rows_of, ordered_trace_of}
use Rattle.rw_trace.specs.Unread.{LacksHeader, records_left, records_of}
use Rattle.rw_trace.specs.Laws.{IsWrong, WritesRow}
use Rattle.rw_trace.specs.declared.Row.{Row}
use Rattle.rw_trace.specs.declared.TraceFault.{TraceFault}
use Rattle.rw_trace.specs.declared.record_reader.Found.{Found}
use Rattle.rw_trace.specs.declared.record_reader.Found.TheVariants as found
use Rattle.rw_trace.specs.declared.TraceFault.TheVariants as fault
use Rattle.rw_trace.specs.declared.pieces.RowsFault.{RowsFault}
use Rattle.rw_trace.specs.declared.pieces.RowsFault.TheVariants as refused
use Rattle.rw_trace.specs.declared.Version.{Version}
use Rattle.rw_trace.specs.declared.record_reader.Source.{Source}
use Rattle.rw_trace.specs.declared.record_reader.Source.TheVariants as source
use Rattle.rw_trace.proofs.Cut.{unmarked}
use Rattle.rw_trace.proofs.Lines.{plain-left}
use Rattle.rw_trace.proofs.Piecewise.{headed_ahead}
use Rattle.rw_trace.proofs.Records.{left-more, left-none}

-- the records of a text
abbrev records : List ℕ → List (List (List ℕ))
records xs = records_left default_config st.StartRecord (Some xs)

commas-append : (fs : List (List ℕ)) (tail more : List ℕ) → commas fs tail ++ more ≡ commas fs (tail ++ more)
commas-append [] tail more = refl
commas-append (f ∷ fs) tail more = ap (λ (r : List ℕ). 44 ∷ r) (append_assoc f (commas fs tail) more ∙ ap (λ r. f ++ r) (commas-append fs tail more))

-- a line with more behind it
module _ (version : Version) (edges : ℕ) (line : List ℕ) (row : Row) (next : ℕ) (h : IsRowAt version edges line 0 row next) (more : List ℕ) where
  records-line : EndsLine (h.tail ++ more) (drop next line ++ more) → records (line ++ more) ≡ (h.field ∷ h.others) ∷ records (drop next line ++ more)
  records-line ends =
      ap (λ xs. records (xs ++ more)) h.parts
      ∙ ap records (append_assoc h.field (commas h.others h.tail) more ∙ ap (λ r. h.field ++ r) (commas-append h.others h.tail more))
      ∙ plain-left h.field h.others (h.tail ++ more) (drop next line ++ more) h.plain h.plains ends

  ends-with : ((h.tail ≡ []) → (drop next line ≡ []) → EndsLine more (drop next line ++ more)) → EndsLine (h.tail ++ more) (drop next line ++ more)
  ends-with last = elim h.ends [
    | inl feeds ↦ inl (ap (λ xs. xs ++ more) feeds)
    | inr other ↦ elim other [
      | inl returns ↦ inr (inl (ap (λ xs. xs ++ more) returns))
      | inr stops ↦ subst (λ xs. EndsLine (xs ++ more) (drop next line ++ more)) (sym stops.0) (last stops.0 stops.1)
    ]
  ]

-- a line in a buffer, with another byte behind it there
pub near-row : (version : Version) (edges : ℕ) (old mid new : Option (List ℕ)) (limit : Option ℕ) (near : List ℕ) (row : Row) (next : ℕ) → IfSome old (λ xs. StartsWith xs near) → Keeps old mid
    → IfSome old (λ _. IfSome limit (λ n. length near ≤ n)) → DropsConsumable mid new limit next → (h : IsRowAt version edges near 0 row next) → next < length near → (n : ℕ) → limit ≡ Some n
    → Gives (lines_ahead old) (h.field ∷ h.others) (lines_ahead new)
near-row version edges None mid new limit near row next starts keeps few drops h within n is = tt
near-row version edges (Some xs) None new limit near row next starts keeps few drops h within n is = absurd keeps
near-row version edges (Some xs) (Some ys) new None near row next starts keeps few drops h within n is = cc
near-row version edges (Some xs) (Some ys) new (Some m) near row next starts keeps few drops h within n is =
    let more = drop (length near) xs in
    let whole : xs ≡ near ++ more = sym (take-append-drop (length near) xs) ∙ ap (λ r. r ++ more) starts in
    let rest : drop next xs ≡ drop next near ++ more = ap (λ r. drop next r) whole ∙ drop-append-le next near more (omega arith) in
    let left : new ≡ Some (drop next xs) = drops (omega (arith, few)) ∙ ap (λ r. Some (drop next r)) keeps in
    let some : drop next near ≢ [] = λ none. let short = ap (λ (r : List ℕ). length r) none in omega (arith, short, length-drop next near) in
    let one = records-line version edges near row next h more (ends-with version edges near row next h more (λ _ none. absurd (some none))) in
    rw left (ap records whole ∙ one ∙ ap (λ r. (h.field ∷ h.others) ∷ records r) (sym rest))

-- a line that ends nowhere leaves nothing
last-line : (xs : List ℕ) → All (λ b. b ≢ 10) (take_through 10 xs) → drop_through 10 xs ≡ []
last-line [] h = refl
last-line (x ∷ xs) h = by (x == 10) refl (last-line xs)
  where
    by : (d : Bool) → (x == 10) ≡ d → (All (λ b. b ≢ 10) (take_through 10 xs) → drop_through 10 xs ≡ []) → drop_through 10 (x ∷ xs) ≡ []
    by true is more =
        let line : take_through 10 (x ∷ xs) ≡ x ∷ [] = rw is refl in
        let other = All-head (λ b. b ≢ 10) x [] (subst (All (λ b. b ≢ 10)) line h) in
        absurd (other (grind (arith, common_steps)))
    by false is more =
        let line : take_through 10 (x ∷ xs) ≡ x ∷ take_through 10 xs = rw is refl in
        let rest : drop_through 10 (x ∷ xs) ≡ drop_through 10 xs = rw is refl in
        rest ∙ more (All-tail (λ b. b ≢ 10) x (take_through 10 xs) (subst (All (λ b. b ≢ 10)) line h))

through-parts : (xs : List ℕ) → xs ≡ take_through 10 xs ++ drop_through 10 xs
through-parts [] = refl
through-parts (x ∷ xs) = by (x == 10) refl (through-parts xs)
  where
    by : (d : Bool) → (x == 10) ≡ d → xs ≡ take_through 10 xs ++ drop_through 10 xs → x ∷ xs ≡ take_through 10 (x ∷ xs) ++ drop_through 10 (x ∷ xs)
    by true is more = rw is refl
    by false is more = rw is (ap (λ (r : List ℕ). x ∷ r) more)

-- no byte of fields with commas between them is a line feed
no-feed : (f : List ℕ) → IsOrdinaryField f → All (λ b. b ≢ 10) f
no-feed f h = All-weaker IsOrdinary (λ b. b ≢ 10) (λ b is. is.feed) f h.all

commas-no-feed : (fs : List (List ℕ)) → All IsOrdinaryField fs → All (λ b. b ≢ 10) (commas fs [])
commas-no-feed [] h = All-nil (λ b. b ≢ 10)
commas-no-feed (f ∷ fs) h =
    All-cons (λ b. b ≢ 10) 44 (f ++ commas fs []) (λ is. cc)
    (All-append (λ b. b ≢ 10) f (commas fs []) (no-feed f (All-head IsOrdinaryField f fs h)) (commas-no-feed fs (All-tail IsOrdinaryField f fs h)))

-- a line that was read whole
pub read-row : (version : Version) (edges : ℕ) (old mid new : Option (List ℕ)) (line : List ℕ) (row : Row) (next : ℕ) → Keeps old mid → HasReadLine mid line new → (h : IsRowAt version edges line 0 row next) → next ≡ length line
    → Gives (lines_ahead old) (h.field ∷ h.others) (lines_ahead new)
read-row version edges None mid new line row next keeps read h whole = tt
read-row version edges (Some ys) None new line row next keeps read h whole = absurd keeps
read-row version edges (Some ys) (Some xs) new line row next keeps read h whole =
    let more = drop_through 10 xs in
    let parts : xs ≡ line ++ more = through-parts xs ∙ ap (λ l. l ++ more) (sym read.0) in
    let left : drop next line ++ more ≡ more = ap (λ r. r ++ more) (drop_all next line (omega (arith, whole))) in
    let ends : (h.tail ≡ []) → (drop next line ≡ []) → EndsLine more (drop next line ++ more) =
    λ none _.
    let fields : line ≡ h.field ++ commas h.others [] = h.parts ∙ ap (λ t. h.field ++ commas h.others t) none in
    let plain = All-append (λ b. b ≢ 10) h.field (commas h.others []) (no-feed h.field h.plain) (commas-no-feed h.others h.plains) in
    let gone : more ≡ [] = last-line xs (subst (All (λ b. b ≢ 10)) (sym fields ∙ read.0) plain) in
    inr (inr (gone, left ∙ gone)) in
    let one = records-line version edges line row next h more (ends-with version edges line row next h more ends) in
    rw read.1 (ap records (sym keeps ∙ parts) ∙ one ∙ ap (λ r. (h.field ∷ h.others) ∷ records r) left)

-- a line feed in front of a text changes none of its records
pub after-feed : (rest : List ℕ) → records (10 ∷ rest) ≡ records rest
unfolding next_record
after-feed rest = by (next_record default_config st.StartRecord [] [] rest) refl
  where
    by : (o : Option Read) → next_record default_config st.StartRecord [] [] rest ≡ o → records (10 ∷ rest) ≡ records rest
    by None is = left-none default_config st.StartRecord (10 ∷ rest) is ∙ sym (left-none default_config st.StartRecord rest is)
    by (Some p) is = left-more default_config st.StartRecord (10 ∷ rest) p is ∙ sym (left-more default_config st.StartRecord rest p is)

-- a text that is handed over behind a line feed
pub handed-over : (known : Option (List ℕ)) (line : List ℕ) → option_map records_of (prepend_known (10 ∷ line) known) ≡ lines_ahead (prepend_known line known)
unfolding strip_bom
handed-over None line = refl
handed-over (Some xs) line = ap (λ rs. Some rs) (ap records (unmarked (10 ∷ (line ++ xs)) (λ is. cc)) ∙ after-feed (line ++ xs))

-- no record is left at the end
no-records : records [] ≡ []
unfolding next_record
no-records = left-none default_config st.StartRecord [] refl

-- an empty line is read at the end alone
none-through : (xs : List ℕ) → take_through 10 xs ≡ [] → xs ≡ []
none-through [] none = refl
none-through (x ∷ xs) none = by (x == 10) refl
  where
    by : (d : Bool) → (x == 10) ≡ d → x ∷ xs ≡ []
    by true is = let no : x ∷ [] ≡ [] = rw is at none in cc
    by false is = let no : x ∷ take_through 10 xs ≡ [] = rw is at none in cc

pub nothing-left : (old new : Option (List ℕ)) (line : List ℕ) → HasReadLine old line new → line ≡ [] → GivesNone (lines_ahead old)
nothing-left None new line read empty = tt
nothing-left (Some xs) new line read empty = ap records (none-through xs (sym read.0 ∙ empty)) ∙ no-records

-- a line that was handed over is read again
pub read-again : (old mid : Option (List ℕ)) (line : List ℕ) (ahead : Option (List (List (List ℕ)))) → HasReadLine old line mid → ahead ≡ lines_ahead (prepend_known line mid) → (f : List (List ℕ)) (after : Option (List (List (List ℕ))))
    → Gives ahead f after → Gives (lines_ahead old) f after
read-again None mid line ahead read is f after gives = tt
read-again (Some xs) mid line ahead read is f after gives =
    let whole : lines_ahead (prepend_known line mid) ≡ lines_ahead (Some xs) = ap (λ m. lines_ahead (prepend_known line m)) read.1 ∙ ap (λ l. lines_ahead (Some (l ++ drop_through 10 xs))) read.0 ∙ ap (λ all. lines_ahead (Some all)) (sym (through-parts xs)) in
    subst (λ a. Gives a f after) (is ∙ whole) gives

pub none-again : (old mid : Option (List ℕ)) (line : List ℕ) (ahead : Option (List (List (List ℕ)))) → HasReadLine old line mid → ahead ≡ lines_ahead (prepend_known line mid) → GivesNone ahead → GivesNone (lines_ahead old)
none-again None mid line ahead read is none = tt
none-again (Some xs) mid line ahead read is none =
    let whole : lines_ahead (prepend_known line mid) ≡ lines_ahead (Some xs) = ap (λ m. lines_ahead (prepend_known line m)) read.1 ∙ ap (λ l. lines_ahead (Some (l ++ drop_through 10 xs))) read.0 ∙ ap (λ all. lines_ahead (Some all)) (sym (through-parts xs)) in
    subst GivesNone (is ∙ whole) none

-- a record that is read of what was handed over, or none
module _ {R : Type 0} (rem : R → Option (List ℕ)) (last : Source R) (f : List (List ℕ)) where
  pub found-behind : (r mid : BufReader R Global) (line : List ℕ) (after : Source R) (found : Bool) → HasReadLine (reader_remaining rem r) line (reader_remaining rem mid) → IsHandedOver rem (source.Lines mid) line after
      → MatchBool found (Gives (still_ahead rem after) f (still_ahead rem last)) (HasNoRecord rem after)
      → MatchBool found (Gives (still_ahead rem (source.Lines r)) f (still_ahead rem last)) (GivesNone (still_ahead rem (source.Lines r)))
  found-behind r mid line (source.Lines a) found read handed gives = absurd handed
  found-behind r mid line (source.Records a) true read handed gives = read-again (reader_remaining rem r) (reader_remaining rem mid) line (still_ahead rem (source.Records a)) read handed f (still_ahead rem last) gives
  found-behind r mid line (source.Records a) false read handed gives = none-again (reader_remaining rem r) (reader_remaining rem mid) line (still_ahead rem (source.Records a)) read handed gives
  found-behind r mid line source.Nothing found read handed gives = absurd handed

  pub none-there : (s : Source R) → ((r : BufReader R Global) → s ≢ source.Lines r) → HasNoRecord rem s → GivesNone (still_ahead rem s)
  none-there (source.Lines r) other none = absurd (other r refl)
  none-there (source.Records r) other none = none
  none-there source.Nothing other none = tt

-- a reader that has read nothing
pub fresh-reader : {R : Type 0} (rem : R → Option (List ℕ)) (r : BufReader R Global) (bytes : R) → reader_inner r ≡ bytes → reader_buffer r ≡ [] → reader_capacity r ≡ 65536 → reader_remaining rem r ≡ rem bytes
fresh-reader rem r bytes inner empty room = rw (room, empty, inner) (same (rem bytes))
  where
    same : (known : Option (List ℕ)) → prepend_known [] known ≡ known
    same None = refl
    same (Some xs) = refl

-- the first line that was read, and the rest behind it
pub header-opened : (known new : Option (List ℕ)) (line : List ℕ) (version : Version) (next : ℕ) → HasReadLine known line new → ((more : List ℕ) → IsHeaderAt (line ++ more) version next) → next ≡ length line
    → IsOpened known version (lines_ahead new)
header-opened None new line version next read header whole = tt
header-opened (Some xs) new line version next read header whole =
    let more = drop_through 10 xs in
    let h = header more in
    let parts : xs ≡ line ++ more = through-parts xs ∙ ap (λ l. l ++ more) (sym read.0) in
    let rest : drop next (line ++ more) ≡ more = ap (λ n. drop n (line ++ more)) whole ∙ drop-append_seam line more in
    (h.head, rw read.1 (ap records_of parts ∙ h.parts ∙ ap (λ r. h.head ∷ records r) rest), h.is_header)

-- what was read of the first line and the rest is read of the whole
known-again : (xs : List ℕ) (mid : Option (List ℕ)) (line : List ℕ) → HasReadLine (Some xs) line mid → prepend_known line mid ≡ Some xs
known-again xs mid line read = ap (prepend_known line) read.1 ∙ ap (λ l. Some (l ++ drop_through 10 xs)) read.0 ∙ ap (λ all. Some all) (sym (through-parts xs))

pub opened-again : (known mid : Option (List ℕ)) (line : List ℕ) → HasReadLine known line mid → (version : Version) (after : Option (List (List (List ℕ)))) → IsOpened (prepend_known line mid) version after → IsOpened known version after
opened-again None mid line read version after h = tt
opened-again (Some xs) mid line read version after h = subst (λ k. IsOpened k version after) (known-again xs mid line read) h

pub unopened-again : (known mid : Option (List ℕ)) (line : List ℕ) → HasReadLine known line mid → (e : RowsFault) → IsUnopened (prepend_known line mid) e → IsUnopened known e
unopened-again (Some xs) mid line read e h = subst (λ k. IsUnopened k e) (known-again xs mid line read) h
unopened-again None mid line read refused.Read h = tt
unopened-again None mid line read (refused.Trace fault.Header) h = tt
unopened-again None mid line read (refused.Trace fault.Memory) h = tt
unopened-again None mid line read (refused.Trace fault.TooManyRows) h = h
unopened-again None mid line read (refused.Trace (fault.RowLength n)) h = h
unopened-again None mid line read (refused.Trace (fault.Number n c)) h = h
unopened-again None mid line read (refused.Trace (fault.TimeRange n)) h = h
unopened-again None mid line read (refused.Trace (fault.EdgeRange n)) h = h
unopened-again None mid line read (refused.Trace (fault.SizeRange n)) h = h
unopened-again None mid line read (refused.Trace (fault.Kind n)) h = h
unopened-again None mid line read (refused.Trace (fault.Order n)) h = h

-- What is found of rows in order

module _ (version : Version) (edges : ℕ) (before : Option (List (List (List ℕ)))) (fields : List (List ℕ)) (after : Option (List (List (List ℕ)))) where
  -- something comes first
  pub some-found : (o : Found) → IsFound version edges before o fields after → o ≢ found.End → (f : List (List ℕ)) × Gives before f after
  some-found (found.Row r) h other = (h.0, h.1)
  some-found found.Record h other = (fields, h)
  some-found found.End h other = absurd (other refl)

  -- and it writes the row that was found
  pub row-found : (o : Found) → IsFound version edges before o fields after → o ≢ found.End → (row : Row) → IsRowFound version edges o fields row → (f : List (List ℕ)) × Gives before f after × WritesRow version edges f row
  row-found (found.Row r) h other row is = (h.0, h.1, subst (λ w. WritesRow version edges h.0 w) (sym is) h.2)
  row-found found.Record h other row is = (fields, h, is)
  row-found found.End h other row is = absurd (other refl)

  -- or it is wrong
  pub fault-found : (n : ℕ) (o : Found) → IsFound version edges before o fields after → o ≢ found.End → (e : RowsFault) → IsFaultFound version edges n o fields e
      → (f : List (List ℕ)) × ((t : TraceFault) × (e ≡ refused.Trace t) × Gives before f after × IsWrong version edges n f t)
  fault-found n (found.Row r) h other e is = absurd is
  fault-found n found.Record h other (refused.Trace t) is = (fields, (t, refl, h, is))
  fault-found n found.Record h other refused.Read is = absurd is
  fault-found n found.End h other e is = absurd (other refl)

lacking : (edges most : ℕ) (recs : List (List (List ℕ))) → LacksHeader recs → ordered_trace_of edges most recs ≡ Err fault.Header
unfolding ordered_trace_of
lacking edges most [] h = refl
lacking edges most (r ∷ rs) h = rw h refl

-- a reader that was not opened
pub unopened-refusal : (edges most : ℕ) (known : Option (List ℕ)) (e : RowsFault) → IsUnopened known e → IsRefusal (option_map (λ xs. ordered_trace_of edges most (records_of xs)) known) e
unopened-refusal edges most None refused.Read h = tt
unopened-refusal edges most (Some xs) refused.Read h = tt
unopened-refusal edges most None (refused.Trace f) h = tt
unopened-refusal edges most (Some xs) (refused.Trace fault.Header) h = λ _. lacking edges most (records_of xs) h
unopened-refusal edges most (Some xs) (refused.Trace fault.Memory) h = λ other. absurd (other refl)
unopened-refusal edges most (Some xs) (refused.Trace fault.TooManyRows) h = absurd h
unopened-refusal edges most (Some xs) (refused.Trace (fault.RowLength n)) h = absurd h
unopened-refusal edges most (Some xs) (refused.Trace (fault.Number n c)) h = absurd h
unopened-refusal edges most (Some xs) (refused.Trace (fault.TimeRange n)) h = absurd h
unopened-refusal edges most (Some xs) (refused.Trace (fault.EdgeRange n)) h = absurd h
unopened-refusal edges most (Some xs) (refused.Trace (fault.SizeRange n)) h = absurd h
unopened-refusal edges most (Some xs) (refused.Trace (fault.Kind n)) h = absurd h
unopened-refusal edges most (Some xs) (refused.Trace (fault.Order n)) h = absurd h

pub opened-ahead : (edges most : ℕ) (known : Option (List ℕ)) (version : Version) (after : Option (List (List (List ℕ)))) → IsOpened known version after
    → IfSome known (λ xs. option_map (ordered_rows_of version edges most 0 0) after ≡ Some (ordered_trace_of edges most (records_of xs)))
opened-ahead edges most None version after h = tt
opened-ahead edges most (Some xs) version after h = headed_ahead edges most xs h.0 after version h.1 h.2
