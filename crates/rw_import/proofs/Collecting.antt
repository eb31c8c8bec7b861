-- How what has been collected of a log of fields grows by a record.
use Rattle.std.proofs.Common.{◌≡◌, ◌≢◌, ◌≤◌, ◌<◌, ◌+◌, ◌^◌, ◌∙◌, ℕ, suc, List, [], ◌∷◌, ◌++◌, All, Bool, true, false, Option, Some, None, Result, Ok, Err, inl, inr, length, map, refl, sym, ap, subst, arith}
use Rattle.std.specs.Prelude.{IfOk, if◌then◌else◌, nat_le}
use Rattle.std.specs.List.{position_or_len}
use Rattle.std.specs.Result.{result_ok}
use Rattle.std.proofs.lemmas.List.{append-nil, append_assoc, length_push, map-append}
use Rattle.std.proofs.lemmas.List.Elements.{filter_map-append}
use Rattle.std.proofs.lemmas.Simd.{map-map}
use Rattle.rw_trace.specs.Limits.{latest_time, most_rows}
use Rattle.rw_trace.specs.Trace.{trace_of}
use Rattle.rw_trace.specs.Unread.{records_of}
use Rattle.rw_trace.specs.Words.{Fields, Text}
use Rattle.rw_trace.specs.declared.Row.{Row}
use Rattle.rw_import.specs.Csv.{IsCsvFault, IsTableFault, beside, columns_found, csv_rows, csv_said, csv_told, different, edges_named, edges_of, entry_of, field_in, has_header, is_same_text, log_records, number_among, objects_in, places_in, places_under, record_said, record_told, rows_under, said_at, time_column, with_text}
use Rattle.rw_import.specs.CsvStream.{IsColumnsFault}
use Rattle.rw_import.specs.Log.{IsErrorOfLosses, IsRowsFault, row_counts, Said, Saying, first_time, in_time, room_for, kept_in, rows_for, ticks_from, told_apart}
use Rattle.rw_import.specs.Sheet.{AddsRow, AreCountsOf, IsKeepable, IsSheetOf, IsTextSheet, IsTimely, RefusesRow, entry_in_time, no_counts_yet, with_kept, numbered_by}
use Rattle.rw_import.specs.Spread.{spread_if}
use Rattle.rw_import.specs.Written.{WritesTrace}
use Rattle.rw_import.proofs.Whole.{room-told, spread-count, spread-ranges}
use Rattle.rw_import.specs.declared.entry.Entry.{Entry}
use Rattle.rw_import.specs.declared.entry.LeftOut.{LeftOut}
use Rattle.rw_import.specs.declared.fault.Flaw.{Flaw}
use Rattle.rw_import.specs.declared.fault.ImportFault.{ImportFault}
use Rattle.rw_import.specs.declared.fault.ImportFault.TheVariants as fault
use Rattle.rw_import.specs.declared.layout.Column.{Column}
use Rattle.rw_import.specs.declared.layout.Layout.{Layout}
use Rattle.rw_import.specs.declared.layout.Places.{Places}
use Rattle.rw_import.specs.declared.options.Options.{Options}
use Rattle.rw_import.specs.declared.sheet.Sheet.{Sheet}
use Rattle.rw_import.proofs.Columns.{edge-found}
use Rattle.rw_import.proofs.Sheets.{row-refused, rows-lost, sheet-more, sheet-none}
use Rattle.rw_import.proofs.Texts.{different-push, number-new, numbers-stay}

-- what is counted of nothing
pub counts-none : (l : LeftOut) → l ≡ no_counts_yet → AreCountsOf 0 l
counts-none l e = rw e (record { length = omega arith; time = omega arith; edge = omega arith; object = omega arith; size = omega arith; kind = omega arith })

pub clamped-none : (n : ℕ) → n ≡ 0 → n ≤ 0
clamped-none n e = rw e (omega arith)

-- a row that can be kept with any number can be kept with its own
pub keepable-beside : (edges : ℕ) (o : Options) (least n : ℕ) (judged : Result Entry Flaw) (said : Saying ℕ) → said ≡ beside n judged → IfOk said (λ s. s.1 < 2 ^ 64)
    → ((m : ℕ) → m < 2 ^ 64 → IsKeepable edges o least (beside m judged)) → IsKeepable edges o least said
keepable-beside edges o least n (Ok entry) said e small fine =
    let its : IfOk (beside n (Ok entry)) (λ s. s.1 < 2 ^ 64) = subst (λ (x : Saying ℕ). IfOk x (λ s. s.1 < 2 ^ 64)) e small in
    rw e (fine n its)
keepable-beside edges o least n (Err f) said e small fine = rw e tt

-- and its time is within those of a trace
pub timely-kept : (edges : ℕ) (o : Options) (least : ℕ) (said : Saying ℕ) → IsKeepable edges o least said → IsTimely o least said
timely-kept edges o least (Ok s) h = (h.4, h.5)
timely-kept edges o least (Err f) h = tt

-- a time that is within those of a trace beside any number is so beside its own
pub timely-beside : (o : Options) (least n : ℕ) (judged : Result Entry Flaw) (said : Saying ℕ) → said ≡ beside n judged → IfOk said (λ s. s.1 < 2 ^ 64)
    → ((m : ℕ) → m < 2 ^ 64 → IsTimely o least (beside m judged)) → IsTimely o least said
timely-beside o least n (Ok entry) said e small fine = rw e (fine n (subst (λ (x : Saying ℕ). IfOk x (λ s. s.1 < 2 ^ 64)) e small))
timely-beside o least n (Err f) said e small fine = rw e tt

-- an object beside an entry is no part of what its time says
pub in-time-beside : {O : Type 0} (o : Options) (least column : ℕ) (object : O) (r : Result Entry Flaw) → in_time o least column (beside object r) ≡ beside object (entry_in_time o least column r)
in-time-beside o least column object (Err f) = refl
in-time-beside o least column object (Ok e) = by (nat_le (ticks_from o.ticks least e.time + room_for o) latest_time) refl
  where
    by : (b : Bool) → nat_le (ticks_from o.ticks least e.time + room_for o) latest_time ≡ b
        → in_time o least column (beside object (Ok e)) ≡ beside object (entry_in_time o least column (Ok e))
    by true k = rw k refl
    by false k = rw k refl

-- what becomes of a record is its entry's, beside its object
pub told-beside : (p : Places) (edges : ℕ) (o : Options) (least : ℕ) (fields : Fields) (judged : Result Entry Flaw) → judged ≡ entry_in_time o least p.time (entry_of p edges fields)
    → record_told p edges o least fields ≡ beside (field_in fields p.object) judged
told-beside p edges o least fields judged e =
    in-time-beside o least p.time (field_in fields p.object) (entry_of p edges fields) ∙ ap (λ (r : Result Entry Flaw). beside (field_in fields p.object) r) (sym e)

-- other numbers of the same objects make the same rows where they agree
pub rows-renumber : {O : Type 0} (o : Options) (least : ℕ) (f g : O → ℕ) (place : ℕ) (ss : List (Said O)) → All (λ x. f x ≡ g x) (map (λ s. s.1) ss) → rows_for o least f place ss ≡ rows_for o least g place ss
unfolding rows_for
rows-renumber o least f g place [] h = refl
rows-renumber o least f g place (s ∷ ss) h =
    let first : f s.1 ≡ g s.1 = h 0 s.1 (omega arith) in
    let rest = rows-renumber o least f g (place + 1) ss (λ k d less. h (suc k) d (omega arith)) in
    rw (first, rest) refl

sheet-renumber : {O : Type 0} (f g : O → ℕ) (edges : ℕ) (o : Options) (least : ℕ) (done : List (Saying O)) (sheet : Sheet) → All (λ x. f x ≡ g x) (objects_in done) → IsSheetOf f edges o least done sheet
    → IsSheetOf g edges o least done sheet
sheet-renumber f g edges o least done sheet h k = record {
  rows = k.rows ∙ rows-renumber o least f g 0 (kept_in done) h;
  count = k.count;
  left_out = k.left_out;
  clamped = k.clamped;
  few = k.few;
  strict = k.strict;
  ranges = k.ranges;
}

-- of the records before, those that are not ahead are done: the texts seen and the sheet found are theirs
pub record IsSoFar (p : Places) (edges : ℕ) (o : Options) (least : ℕ) (before ahead : List Fields) (row : ℕ) (seen : List Text) (found : Sheet) : Type 0 where
  pub done : List (Saying Text)
  pub parts : map (record_told p edges o least) before ≡ done ++ map (record_told p edges o least) ahead
  pub count : length done ≡ row
  pub texts : seen ≡ different (objects_in done)
  pub sheet : IsSheetOf (number_among (objects_in done)) edges o least done found

-- nothing is done yet
pub so-far-none : (p : Places) (edges : ℕ) (o : Options) (least : ℕ) (before : List Fields) (texts : List Text) (sheet : Sheet) → texts ≡ [] → sheet.rows.items ≡ [] → sheet.left_out ≡ no_counts_yet → sheet.clamped ≡ 0
    → IsSoFar p edges o least before before 0 texts sheet
so-far-none p edges o least before texts sheet none rows counts clamped = record {
  done = [];
  parts = refl;
  count = refl;
  texts = none;
  sheet = sheet-none (number_among []) edges o least sheet rows counts clamped;
}

-- the objects with one more row that is kept, or left out
pub objects-kept : (done : List (Saying Text)) (e : Entry) (t : Text) → objects_in (done ++ Ok (e, t) ∷ []) ≡ objects_in done ++ t ∷ []
objects-kept done e t =
    ap (λ (ss : List (Said Text)). map (λ s. s.1) ss) (filter_map-append result_ok done (Ok (e, t) ∷ [])) ∙ map-append (λ (s : Said Text). s.1) (kept_in done) ((e, t) ∷ [])

pub objects-left : (done : List (Saying Text)) (f : Flaw) → objects_in (done ++ Err f ∷ []) ≡ objects_in done
objects-left done f =
    ap (λ (ss : List (Said Text)). map (λ s. s.1) ss) (filter_map-append result_ok done (Err f ∷ []) ∙ append-nil (kept_in done))

-- one more row: of its entry and its text the sheet has what it is to have
sheet-grows : (edges : ℕ) (o : Options) (least : ℕ) (done : List (Saying Text)) (texts : List Text) (old new : Sheet) (t : Text) (judged : Result Entry Flaw) → texts ≡ different (objects_in done)
    → IsSheetOf (number_among (objects_in done)) edges o least done old → IsKeepable edges o least (beside (position_or_len (is_same_text t) texts) judged)
    → AddsRow o least old new (beside (position_or_len (is_same_text t) texts) judged)
    → (with_kept texts t judged ≡ different (objects_in (done ++ beside t judged ∷ []))) × IsSheetOf (number_among (objects_in (done ++ beside t judged ∷ []))) edges o least (done ++ beside t judged ∷ []) new
sheet-grows edges o least done texts old new t (Ok e) is k fine h =
    let objects = objects-kept done e t in
    let number = number_among (objects_in done ++ t ∷ []) in
    let its : position_or_len (is_same_text t) texts ≡ number t = ap (λ (ts : List Text). position_or_len (is_same_text t) ts) is ∙ sym (number-new (objects_in done) t) in
    let renumbered = sheet-renumber (number_among (objects_in done)) number edges o least done old (numbers-stay (objects_in done) (t ∷ [])) k in
    let keepable : IsKeepable edges o least (Ok (e, number t)) = subst (λ (n : ℕ). IsKeepable edges o least (Ok (e, n))) its fine in
    let adds : AddsRow o least old new (Ok (e, number t)) = subst (λ (n : ℕ). AddsRow o least old new (Ok (e, n))) its h in
    let more = sheet-more number edges o least done old new (Ok (e, t)) renumbered keepable adds in (
      ap (λ (ts : List Text). with_text ts t) is ∙ sym (different-push (objects_in done) t) ∙ ap different (sym objects),
      subst (λ (ts : List Text). IsSheetOf (number_among ts) edges o least (done ++ Ok (e, t) ∷ []) new) (sym objects) more,
    )
sheet-grows edges o least done texts old new t (Err f) is k fine h =
    let objects = objects-left done f in
    let more = sheet-more (number_among (objects_in done)) edges o least done old new (Err f) k fine h in (
      is ∙ ap different (sym objects),
      subst (λ (ts : List Text). IsSheetOf (number_among ts) edges o least (done ++ Err f ∷ []) new) (sym objects) more,
    )

-- one more record
pub so-far-more : (p : Places) (edges : ℕ) (o : Options) (least : ℕ) (before ahead : List Fields) (fields : Fields) (row : ℕ) (texts : List Text) (old new : Sheet) (judged : Result Entry Flaw)
    → IsSoFar p edges o least before (fields ∷ ahead) row texts old → judged ≡ entry_in_time o least p.time (entry_of p edges fields)
    → IsKeepable edges o least (beside (position_or_len (is_same_text (field_in fields p.object)) texts) judged)
    → AddsRow o least old new (beside (position_or_len (is_same_text (field_in fields p.object)) texts) judged)
    → IsSoFar p edges o least before ahead (row + 1) (with_kept texts (field_in fields p.object) judged) new
so-far-more p edges o least before ahead fields row texts old new judged k is fine adds =
    let told = told-beside p edges o least fields judged is in
    let t = field_in fields p.object in
    let (others, sheet) = sheet-grows edges o least k.done texts old new t judged k.texts k.sheet fine adds in
    record {
      done = k.done ++ beside t judged ∷ [];
      parts = k.parts
          ∙ ap (λ (x : Saying Text). k.done ++ x ∷ map (record_told p edges o least) ahead) told
          ∙ sym (append_assoc k.done (beside t judged ∷ []) (map (record_told p edges o least) ahead));
      count = rw (length_push) (ap (λ (n : ℕ). n + 1) k.count);
      texts = others;
      sheet = sheet;
    }

-- nothing is ahead: all is done
pub so-far-all : (p : Places) (edges : ℕ) (o : Options) (least : ℕ) (before ahead : List Fields) (row : ℕ) (texts : List Text) (sheet : Sheet) → IsSoFar p edges o least before ahead row texts sheet → ahead ≡ []
    → IsSheetOf (number_among (objects_in (map (record_told p edges o least) before))) edges o least (map (record_told p edges o least) before) sheet
so-far-all p edges o least before ahead row texts sheet k none =
    let whole : k.done ≡ map (record_told p edges o least) before =
    sym (k.parts ∙ ap (λ (xs : List Fields). k.done ++ map (record_told p edges o least) xs) none ∙ append-nil k.done) in
    subst (λ (l : List (Saying Text)). IsSheetOf (number_among (objects_in l)) edges o least l sheet) whole k.sheet

-- the number of an object is no part of why a row is refused
refused-beside : (o : Options) (row n : ℕ) (number : Text → ℕ) (t : Text) (judged : Result Entry Flaw) (old : Sheet) (e : ImportFault) → RefusesRow o row old (beside n judged) e
    → RefusesRow o row old (numbered_by number (beside t judged)) e
refused-beside o row n number t (Ok entry) old e h = h
refused-beside o row n number t (Err f) old e h = h

-- one more record, which is refused
pub so-far-refused : (p : Places) (edges : ℕ) (o : Options) (least : ℕ) (before ahead : List Fields) (fields : Fields) (row n : ℕ) (texts : List Text) (old : Sheet) (judged : Result Entry Flaw) (e : ImportFault)
    → IsSoFar p edges o least before (fields ∷ ahead) row texts old → judged ≡ entry_in_time o least p.time (entry_of p edges fields) → RefusesRow o row old (beside n judged) e
    → IsRowsFault o (map (record_told p edges o least) before) e
so-far-refused p edges o least before ahead fields row n texts old judged e k is refused =
    let t = field_in fields p.object in
    let told = told-beside p edges o least fields judged is in
    let after = map (record_told p edges o least) ahead in
    let number = number_among (objects_in k.done) in
    let whole : k.done ++ beside t judged ∷ after ≡ map (record_told p edges o least) before = sym (k.parts ∙ ap (λ (x : Saying Text). k.done ++ x ∷ after) told) in
    subst (λ (l : List (Saying Text)). IsRowsFault o l e) whole
    (row-refused number edges o least row k.done after old (beside t judged) e k.sheet k.count (refused-beside o row n number t judged old e refused))

-- one more record, as the calls for it tell
pub so-far-next : (p : Places) (edges : ℕ) (o : Options) (least : ℕ) (before now ahead : List Fields) (fields : Fields) (row : ℕ) (texts others : List Text) (old new : Sheet) (t : Text) (judged : Result Entry Flaw)
    (said : Saying ℕ) → IsSoFar p edges o least before now row texts old → now ≡ fields ∷ ahead → judged ≡ entry_in_time o least p.time (entry_of p edges fields) → t ≡ field_in fields p.object
    → said ≡ beside (position_or_len (is_same_text t) texts) judged → IsKeepable edges o least said → AddsRow o least old new said → others ≡ with_kept texts t judged
    → IsSoFar p edges o least before ahead (row + 1) others new
so-far-next p edges o least before now ahead fields row texts others old new t judged said k gives is text told fine adds with =
    let all : IsSoFar p edges o least before (fields ∷ ahead) row texts old = subst (λ (xs : List Fields). IsSoFar p edges o least before xs row texts old) gives k in
    let itself : said ≡ beside (position_or_len (is_same_text (field_in fields p.object)) texts) judged = told ∙ ap (λ (u : Text). beside (position_or_len (is_same_text u) texts) judged) text in
    subst (λ (us : List Text). IsSoFar p edges o least before ahead (row + 1) us new) (sym (with ∙ ap (λ (u : Text). with_kept texts u judged) text))
    (so-far-more p edges o least before ahead fields row texts old new judged all is (subst (IsKeepable edges o least) itself fine) (subst (AddsRow o least old new) itself adds))

pub so-far-stops : (p : Places) (edges : ℕ) (o : Options) (least : ℕ) (before now ahead : List Fields) (fields : Fields) (row n : ℕ) (texts : List Text) (old : Sheet) (judged : Result Entry Flaw) (said : Saying ℕ)
    (e : ImportFault) → IsSoFar p edges o least before now row texts old → now ≡ fields ∷ ahead → judged ≡ entry_in_time o least p.time (entry_of p edges fields) → said ≡ beside n judged
    → (e ≢ fault.Memory → RefusesRow o row old said e) → e ≢ fault.Memory → IsRowsFault o (map (record_told p edges o least) before) e
so-far-stops p edges o least before now ahead fields row n texts old judged said e k gives is told refuses other =
    let all : IsSoFar p edges o least before (fields ∷ ahead) row texts old = subst (λ (xs : List Fields). IsSoFar p edges o least before xs row texts old) gives k in
    so-far-refused p edges o least before ahead fields row n texts old judged e all is (subst (λ (x : Saying ℕ). RefusesRow o row old x e) told (refuses other))

-- ---- a log
-- with the log's columns, what its rows say is what its records say
pub said-whole : (l : Layout) (o : Options) (bytes : Text) (p : Places) (ahead : List Fields) (edges : ℕ) → columns_found l (log_records l bytes) ≡ Ok p → rows_under l (log_records l bytes) ≡ ahead → edges ≡ edges_of l o
    → map (record_said p edges) ahead ≡ csv_said l o bytes
said-whole l o bytes p ahead edges is rows all =
    ap (λ (n : ℕ). map (record_said p n) ahead) all
    ∙ ap (λ (xs : List Fields). map (record_said p (edges_of l o)) xs) (sym rows)
    ∙ ap (λ (r : Result Places ImportFault). said_at l o bytes r) (sym is)

-- with the log's columns and least time, what becomes of its rows is what becomes of its records
told-of : (l : Layout) (o : Options) (bytes : Text) (p : Places) (ahead : List Fields) (edges least : ℕ) (r : Result Places ImportFault) → r ≡ Ok p → rows_under l (log_records l bytes) ≡ ahead → edges ≡ edges_of l o
    → least ≡ first_time (said_at l o bytes r) → map (record_told p edges o least) ahead ≡ told_apart o (time_column r) (said_at l o bytes r)
told-of l o bytes p ahead edges least (Err e) is rows all time = absurd (cc)
told-of l o bytes p ahead edges least (Ok q) is rows all time =
    let same : q ≡ p = cc in
    let said : map (record_said q (edges_of l o)) (rows_under l (log_records l bytes)) ≡ map (record_said p edges) ahead =
    ap (λ (r : Places). map (record_said r (edges_of l o)) (rows_under l (log_records l bytes))) same
    ∙ ap (λ (n : ℕ). map (record_said p n) (rows_under l (log_records l bytes))) (sym all)
    ∙ ap (λ (xs : List Fields). map (record_said p edges) xs) rows in
    sym (
    ap (λ (xs : List (Saying Text)). map (in_time o (first_time (said_at l o bytes (Ok q))) q.time) xs) said
    ∙ ap (λ (r : Places). map (in_time o (first_time (said_at l o bytes (Ok q))) r.time) (map (record_said p edges) ahead)) same
    ∙ ap (λ (n : ℕ). map (in_time o n p.time) (map (record_said p edges) ahead)) (sym time)
    ∙ map-map (in_time o least p.time) (record_said p edges) ahead
    )

pub told-whole : (l : Layout) (o : Options) (bytes : Text) (p : Places) (ahead : List Fields) (edges least : ℕ) → columns_found l (log_records l bytes) ≡ Ok p → rows_under l (log_records l bytes) ≡ ahead → edges ≡ edges_of l o
    → least ≡ first_time (csv_said l o bytes) → map (record_told p edges o least) ahead ≡ csv_told l o bytes
told-whole l o bytes p ahead edges least is rows all time = told-of l o bytes p ahead edges least (columns_found l (log_records l bytes)) is rows all time

pub edges-asked : (l : Layout) (o : Options) (records : List Fields) (p : Places) (edges : ℕ) → columns_found l records ≡ Ok p → edges ≡ edges_of l o → p.edge ≡ None → o.edges ≡ edges
unfolding columns_found
edges-asked l o records p edges is all none = by (has_header l) refl records is
  where
    plain : l.edge ≡ None → o.edges ≡ edges
    plain e = sym (all ∙ ap (λ (c : Option Column). edges_named c o.edges) e)

    by : (b : Bool) → has_header l ≡ b → (rs : List Fields) → (if has_header l then places_under l rs else places_in [] l) ≡ Ok p → o.edges ≡ edges
    by true k [] e = let no = rw k at e in absurd (cc)
    by true k (h ∷ rs) e = plain (edge-found h l p (rw k at e) none)
    by false k rs e = plain (edge-found [] l p (rw k at e) none)

-- the objects of rows are the numbers of what is kept
pub rows-numbers : {O : Type 0} (o : Options) (least : ℕ) (number : O → ℕ) (place : ℕ) (ss : List (Said O)) → map (λ r. r.object) (rows_for o least number place ss) ≡ map number (map (λ s. s.1) ss)
unfolding rows_for
rows-numbers o least number place [] = refl
rows-numbers o least number place (s ∷ ss) = ap (λ (t : List ℕ). number s.1 ∷ t) (rows-numbers o least number (place + 1) ss)

-- a log has no more edges than there may be
pub edges-few : (column : Option Column) (edges : ℕ) → edges ≤ 256 → edges_named column edges ≤ 256
edges-few None edges few = few
edges-few (Some column) edges few = omega arith

-- the text of what is collected is a trace of the log's rows
pub csv-trace : (l : Layout) (o : Options) (bytes text : Text) (sheet : Sheet) (edges : ℕ) → edges ≡ edges_of l o → 1 ≤ o.edges → o.edges ≤ 256
    → IsTextSheet edges o (first_time (csv_said l o bytes)) (csv_told l o bytes) sheet → WritesTrace most_rows text (spread_if o sheet.rows.items) → trace_of (edges_of l o) most_rows (records_of text) ≡ Ok (csv_rows l o bytes)
csv-trace l o bytes text sheet edges all some few k w =
    let small : edges ≤ 256 = subst (λ (n : ℕ). n ≤ 256) (sym all) (edges-few l.edge o.edges few) in
    let room : All (λ (r : Row). r.time + room_for o ≤ latest_time) sheet.rows.items =
    subst (λ (rs : List Row). All (λ (r : Row). r.time + room_for o ≤ latest_time) rs) (sym k.rows)
    (room-told o (first_time (csv_said l o bytes)) (time_column (columns_found l (log_records l bytes))) (number_among (objects_in (csv_told l o bytes))) 0 (csv_said l o bytes)) in
    subst (λ (n : ℕ). trace_of n most_rows (records_of text) ≡ Ok (csv_rows l o bytes)) all
    (w edges (omega (arith, small)) (spread-ranges o edges sheet.rows.items o.some_ticks (k.ranges some) room) (omega (arith, spread-count o sheet.rows.items, k.count, k.few)) ∙ ap (λ (rs : List Row). Ok (spread_if o rs)) k.rows)

-- where the columns are not found, or a field has a line end inside it, this is why the log is refused
pub columns-missing : (l : Layout) (o : Options) (bytes : Text) (e : ImportFault) → IsColumnsFault l (log_records l bytes) e → IsCsvFault l o bytes e
columns-missing l o bytes e (inl unclosed) = inl unclosed
columns-missing l o bytes e (inr missing) = inr (subst (λ (r : Result Places ImportFault). IsTableFault o (csv_told l o bytes) r e) (sym missing) refl)

-- too few rows are kept
pub csv-lost : (l : Layout) (o : Options) (bytes : Text) (e : ImportFault) → (p : Places) × (columns_found l (log_records l bytes) ≡ Ok p) → IsErrorOfLosses o (row_counts (csv_told l o bytes)) e → IsCsvFault l o bytes e
csv-lost l o bytes e (p, found) lost = inr (subst (λ (r : Result Places ImportFault). IsTableFault o (csv_told l o bytes) r e) (sym found) (rows-lost o (csv_told l o bytes) e lost))
