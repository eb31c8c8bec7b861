-- How what has been collected of a log grows by a row.
use Rattle.std.proofs.Common.{◌≡◌, ◌≤◌, ◌<◌, ◌+◌, ◌-◌, ◌*◌, ◌%◌, ℕ, zero, suc, List, [], ◌∷◌, ◌++◌, All, length, map, Bool, true, false, Option, Some, None, Ok, Err, cond, zero-add, refl, arith, ◌∙◌, sym, ap, subst}
use Rattle.std.specs.Prelude.{◌≢◌, count_by, drop, nat_eq, nat_lt}
use Rattle.byteorder.specs.Endian.{little_number}
use Rattle.rw_trace.specs.declared.Kind.TheVariants.{Get}
use Rattle.std.specs.List.{range_with_len}
use Rattle.std.specs.Result.{is_ok, result_ok}
use Rattle.std.proofs.lemmas.List.{length_push, map-append}
use Rattle.std.proofs.lemmas.Simd.{map-map}
use Rattle.std.proofs.lemmas.List.Elements.{All-push, All-nil, All-weaker, filter_map-append}
use Rattle.std.proofs.lemmas.List.Sums.{fold_push}
use Rattle.std.proofs.lemmas.Grind.{common_steps}
use Rattle.rw_trace.specs.Laws.{IsRow}
use Rattle.rw_trace.specs.Limits.{latest_time, most_rows}
use Rattle.rw_import.specs.Spread.{spread_if}
use Rattle.rw_import.proofs.Whole.{room-told, spread-count, spread-ranges}
use Rattle.rw_trace.specs.declared.Row.{Row}
use Rattle.rw_import.specs.declared.entry.LeftOut.{LeftOut}
use Rattle.rw_import.specs.declared.fault.Flaw.{Flaw}
use Rattle.rw_import.specs.declared.fault.Flaw.TheVariants.{Column, Length}
use Rattle.rw_import.specs.declared.fault.Part.TheVariants as part
use Rattle.rw_import.specs.declared.fault.ImportFault.{ImportFault}
use Rattle.rw_import.specs.declared.fault.ImportFault.TheVariants as fault
use Rattle.rw_import.specs.Written.{WritesTrace}
use Rattle.rw_trace.specs.Trace.{trace_of}
use Rattle.rw_trace.specs.Unread.{records_of}
use Rattle.rw_import.specs.declared.options.Dealing.{Dealing}
use Rattle.rw_import.specs.declared.options.Dealing.TheVariants.{ByObject, ByRow}
use Rattle.rw_import.specs.declared.options.Options.{Options}
use Rattle.rw_import.specs.declared.sheet.Sheet.{Sheet}
use Rattle.rw_import.specs.Log.{IsErrorOfLosses, IsRowsFault, row_counts, clamped_in, Said, Saying, billion, dealt_edge, edge_for, first_time, in_time, is_cut_off, is_flawed_in, kept_in, left_out_of, mixed, room_for, row_for, rows_for}
use Rattle.rw_import.specs.Oracle.{judged_all, oracle_rows, oracle_said, oracle_told, piece_at, piece_said}
use Rattle.rw_import.specs.Sheet.{AddsRow, IsEdgeIn, IsKeepable, IsSheetOf, RefusesRow, clamped_with, counts_in, counts_with, no_counts_yet, numbered_by}

-- one more kept row has its row behind the others
pub rows-push : {O : Type 0} (o : Options) (least : ℕ) (number : O → ℕ) (place : ℕ) (ss : List (Said O)) (s : Said O) (m : ℕ) → place + length ss ≡ m
    → rows_for o least number place (ss ++ s ∷ []) ≡ rows_for o least number place ss ++ row_for o least m (number s.1) s.0 ∷ []
unfolding rows_for
rows-push o least number place [] s m e = let same : place ≡ m = omega arith in rw same refl
rows-push o least number place (x ∷ ss) s m e = ap (λ (t : List Row). row_for o least place (number x.1) x.0 ∷ t) (rows-push o least number (place + 1) ss s m (omega arith))

-- one more, counted or not
count-yes : {X : Type 0} (p : X → Bool) (xs : List X) (x : X) → p x ≡ true → count_by p (xs ++ x ∷ []) ≡ count_by p xs + 1
count-yes p xs x e = rw (fold_push (λ (a : ℕ) y. a + cond (p y) 1 0) 0 xs x, e) refl

count-no : {X : Type 0} (p : X → Bool) (xs : List X) (x : X) → p x ≡ false → count_by p (xs ++ x ∷ []) ≡ count_by p xs
count-no p xs x e = rw (fold_push (λ (a : ℕ) y. a + cond (p y) 1 0) 0 xs x, e) (omega arith)

-- the counts with one more row left out
pub left-push : {O : Type 0} (xs : List (Saying O)) (f : Flaw) → left_out_of (xs ++ Err f ∷ []) ≡ counts_with (left_out_of xs) f
left-push xs Length = rw (count-yes is_cut_off xs (Err Length) refl, count-no (is_flawed_in part.Time) xs (Err Length) refl, count-no (is_flawed_in part.Edge) xs (Err Length) refl, count-no (is_flawed_in part.Object) xs (Err Length) refl, count-no (is_flawed_in part.Size) xs (Err Length) refl, count-no (is_flawed_in part.Kind) xs (Err Length) refl) refl
left-push xs (Column c part.Time) = let x = Err (Column c part.Time) in rw (count-no is_cut_off xs x refl, count-yes (is_flawed_in part.Time) xs x refl, count-no (is_flawed_in part.Edge) xs x refl, count-no (is_flawed_in part.Object) xs x refl, count-no (is_flawed_in part.Size) xs x refl, count-no (is_flawed_in part.Kind) xs x refl) refl
left-push xs (Column c part.Edge) = let x = Err (Column c part.Edge) in rw (count-no is_cut_off xs x refl, count-no (is_flawed_in part.Time) xs x refl, count-yes (is_flawed_in part.Edge) xs x refl, count-no (is_flawed_in part.Object) xs x refl, count-no (is_flawed_in part.Size) xs x refl, count-no (is_flawed_in part.Kind) xs x refl) refl
left-push xs (Column c part.Object) = let x = Err (Column c part.Object) in rw (count-no is_cut_off xs x refl, count-no (is_flawed_in part.Time) xs x refl, count-no (is_flawed_in part.Edge) xs x refl, count-yes (is_flawed_in part.Object) xs x refl, count-no (is_flawed_in part.Size) xs x refl, count-no (is_flawed_in part.Kind) xs x refl) refl
left-push xs (Column c part.Size) = let x = Err (Column c part.Size) in rw (count-no is_cut_off xs x refl, count-no (is_flawed_in part.Time) xs x refl, count-no (is_flawed_in part.Edge) xs x refl, count-no (is_flawed_in part.Object) xs x refl, count-yes (is_flawed_in part.Size) xs x refl, count-no (is_flawed_in part.Kind) xs x refl) refl
left-push xs (Column c part.Kind) = let x = Err (Column c part.Kind) in rw (count-no is_cut_off xs x refl, count-no (is_flawed_in part.Time) xs x refl, count-no (is_flawed_in part.Edge) xs x refl, count-no (is_flawed_in part.Object) xs x refl, count-no (is_flawed_in part.Size) xs x refl, count-yes (is_flawed_in part.Kind) xs x refl) refl

-- the counts with one more row kept
pub left-kept : {O : Type 0} (xs : List (Saying O)) (s : Said O) → left_out_of (xs ++ Ok s ∷ []) ≡ left_out_of xs
left-kept xs s = rw (count-no is_cut_off xs (Ok s) refl, count-no (is_flawed_in part.Time) xs (Ok s) refl, count-no (is_flawed_in part.Edge) xs (Ok s) refl, count-no (is_flawed_in part.Object) xs (Ok s) refl, count-no (is_flawed_in part.Size) xs (Ok s) refl, count-no (is_flawed_in part.Kind) xs (Ok s) refl) refl

-- one more kept row, clamped or not
pub clamped-push : {O : Type 0} (kept : List (Said O)) (s : Said O) → clamped_in (kept ++ s ∷ []) ≡ clamped_with (clamped_in kept) s.0.clamped
clamped-push {O} kept s = by s.0.clamped refl
  where
    by : (b : Bool) → s.0.clamped ≡ b → clamped_in (kept ++ s ∷ []) ≡ clamped_with (clamped_in kept) s.0.clamped
    by true e = count-yes (λ (x : Said O). x.0.clamped) kept s e ∙ ap (λ (b : Bool). clamped_with (clamped_in kept) b) (sym e)
    by false e = count-no (λ (x : Said O). x.0.clamped) kept s e ∙ ap (λ (b : Bool). clamped_with (clamped_in kept) b) (sym e)

-- an edge that is dealt is one of those there are
dealt-below : (d : Dealing) (edges place object : ℕ) → 1 ≤ edges → dealt_edge d edges place object < edges
unfolding dealt_edge
dealt-below ByRow edges place object h = omega arith
dealt-below ByObject edges place object h = below (mixed object)
  where
    below : (m : ℕ) → m % edges < edges
    below m = omega arith

edge-below : (edges : ℕ) (o : Options) (place object : ℕ) (e : Option ℕ) → 1 ≤ o.edges → IsEdgeIn edges o e → edge_for o place object e < edges
edge-below edges o place object (Some e) some h = h
edge-below edges o place object None some h = let below = dealt-below o.dealing o.edges place object some in omega arith

-- a row that can be kept is in the ranges of a trace
pub row-fine : (edges : ℕ) (o : Options) (least place : ℕ) (s : Said ℕ) → 1 ≤ o.edges → IsKeepable edges o least (Ok s) → IsRow edges (row_for o least place s.1 s.0)
row-fine edges o least place s some h = record {
  time = h.5;
  edge = edge-below edges o place s.1 s.0.edge some h.0;
  object = h.3;
  some = h.1;
  few = h.2;
}

-- one more row
pub sheet-more : {O : Type 0} (number : O → ℕ) (edges : ℕ) (o : Options) (least : ℕ) (done : List (Saying O)) (old new : Sheet) (s : Saying O) → IsSheetOf number edges o least done old
    → IsKeepable edges o least (numbered_by number s) → AddsRow o least old new (numbered_by number s) → IsSheetOf number edges o least (done ++ s ∷ []) new
sheet-more number edges o least done old new (Ok s) k fine h =
    let kept : kept_in (done ++ Ok s ∷ []) ≡ kept_in done ++ s ∷ [] = filter_map-append result_ok done (Ok s ∷ []) in
    let count : length old.rows.items ≡ length (kept_in done) = k.count in
    let pushed = rows-push o least number 0 (kept_in done) s (length old.rows.items) (omega arith) in
    let rows : old.rows.items ≡ rows_for o least number 0 (kept_in done) = k.rows in
    let row = row_for o least (length old.rows.items) (number s.1) s.0 in
    record {
      rows = rw kept (h.0 ∙ ap (λ (t : List Row). t ++ row ∷ []) rows ∙ sym pushed);
      count = rw (kept, h.0, length_push, length_push) (ap (λ (n : ℕ). n + 1) count);
      left_out = h.1 ∙ k.left_out ∙ sym (left-kept done s);
      clamped = rw kept (h.3 ∙ ap (λ (n : ℕ). clamped_with n s.0.clamped) k.clamped ∙ sym (clamped-push (kept_in done) s));
      few = rw (kept, length_push) (omega (arith, h.2));
      strict = λ e. All-push (λ x. is_ok x ≡ true) done (Ok s) (k.strict e) refl;
      ranges = λ some. rw h.0 (All-push (IsRow edges) old.rows.items row (k.ranges some) (row-fine edges o least (length old.rows.items) (s.0, number s.1) some fine));
    }
sheet-more number edges o least done old new (Err f) k fine h =
    let kept : kept_in (done ++ Err f ∷ []) ≡ kept_in done ++ [] = filter_map-append result_ok done (Err f ∷ []) in
    let plain : kept_in done ++ [] ≡ kept_in done = grind (arith, common_steps) in
    record {
      rows = rw (kept, plain) (h.0 ∙ k.rows);
      count = rw (kept, plain, h.0) k.count;
      left_out = h.1 ∙ ap (λ (l : LeftOut). counts_with l f) k.left_out ∙ sym (left-push done f);
      clamped = rw (kept, plain) (h.3 ∙ k.clamped);
      few = rw (kept, plain) k.few;
      strict = λ e. let both : true ≡ false = sym e ∙ h.2 in cc;
      ranges = λ some. rw h.0 (k.ranges some);
    }

-- nothing yet
pub sheet-none : {O : Type 0} (number : O → ℕ) (edges : ℕ) (o : Options) (least : ℕ) (sheet : Sheet) → sheet.rows.items ≡ [] → sheet.left_out ≡ no_counts_yet → sheet.clamped ≡ 0
    → IsSheetOf number edges o least [] sheet
unfolding rows_for
sheet-none number edges o least sheet rows counts clamped = record {
  rows = rows;
  count = rw rows refl;
  left_out = counts;
  clamped = clamped;
  few = omega arith;
  strict = λ e. All-nil (λ x. is_ok x ≡ true);
  ranges = λ some. rw rows (All-nil (IsRow edges));
}

-- one more row that is refused
pub row-refused : {O : Type 0} (number : O → ℕ) (edges : ℕ) (o : Options) (least row : ℕ) (done after : List (Saying O)) (old : Sheet) (s : Saying O) (e : ImportFault)
    → IsSheetOf number edges o least done old → length done ≡ row → RefusesRow o row old (numbered_by number s) e → IsRowsFault o (done ++ s ∷ after) e
row-refused number edges o least row done after old (Ok s) e k at h =
    rw h.0 (record { before = done; row = s; after = after; parts = refl; full = omega (arith, k.count, k.few, h.1); kept = k.strict })
row-refused number edges o least row done after old (Err Length) e k at h =
    rw h.0 (record { strict = h.1; before = done; flaw = Length; after = after; parts = refl; kept = k.strict h.1; told = rw at refl })
row-refused number edges o least row done after old (Err (Column c p)) e k at h =
    rw h.0 (record { strict = h.1; before = done; flaw = Column c p; after = after; parts = refl; kept = k.strict h.1; told = rw at refl })

-- an object that is its number
abbrev pub itself : ℕ → ℕ
itself n = n

pub same-number : (s : Saying ℕ) → numbered_by itself s ≡ s
same-number (Ok s) = refl
same-number (Err f) = refl

-- one more row whose object is its number
pub sheet-next : (edges : ℕ) (o : Options) (least : ℕ) (done : List (Saying ℕ)) (old new : Sheet) (s : Saying ℕ) → IsSheetOf itself edges o least done old → IsKeepable edges o least s
    → AddsRow o least old new s → IsSheetOf itself edges o least (done ++ s ∷ []) new
sheet-next edges o least done old new s k fine h =
    sheet-more itself edges o least done old new s k (subst (IsKeepable edges o least) (sym (same-number s)) fine) (subst (AddsRow o least old new) (sym (same-number s)) h)

-- numbers from a place on fall into those below another and the rest
pub range-split : (a n m : ℕ) → range_with_len a (n + m) ≡ range_with_len a n ++ range_with_len (a + n) m
range-split a zero m = let e : 0 + m ≡ m = omega arith in let f : a + 0 ≡ a = omega arith in rw (e, f) refl
range-split a (suc n) m =
    let e : suc n + m ≡ suc (n + m) = omega arith in
    let f : a + suc n ≡ a + 1 + n = omega arith in
    rw (e, f) (ap (λ (t : List ℕ). a ∷ t) (range-split (a + 1) n m))

place-split : {X : Type 0} (f : ℕ → X) (at m : ℕ) → map f (range_with_len 0 (at + suc m)) ≡ map f (range_with_len 0 at) ++ f at ∷ map f (range_with_len (at + 1) m)
place-split f at m = rw (range-split 0 at (suc m), zero-add at, map-append) refl

-- what stands at each place, parted at one of them
pub parted-at : {X : Type 0} (f : ℕ → X) (n at : ℕ) → at < n
    → (after : List X) × (map f (range_with_len 0 n) ≡ map f (range_with_len 0 at) ++ f at ∷ after)
parted-at f n at h =
    let e : n ≡ at + suc (n - suc at) = omega arith in
    (map f (range_with_len (at + 1) (n - suc at)), ap (λ (k : ℕ). map f (range_with_len 0 k)) e ∙ place-split f at (n - suc at))

-- as many stand there as there are places
pub length-places : {X : Type 0} (f : ℕ → X) (a n : ℕ) → length (map f (range_with_len a n)) ≡ n
length-places f a zero = refl
length-places f a (suc n) = ap (λ (k : ℕ). suc k) (length-places f (a + 1) n)

-- with the least time what becomes of each record is what becomes of the log's
pub told-all : (o : Options) (bytes : List ℕ) → judged_all o (first_time (oracle_said bytes)) bytes ≡ oracle_told o bytes
told-all o bytes = sym (map-map (in_time o (first_time (oracle_said bytes)) 0) (λ n. piece_said (piece_at bytes n)) (range_with_len 0 _))

-- the same, as a call tells it
pub row-told : (edges : ℕ) (o : Options) (least row : ℕ) (done after all : List (Saying ℕ)) (old : Sheet) (s : Saying ℕ) (e : ImportFault) → IsSheetOf itself edges o least done old → length done ≡ row
    → done ++ s ∷ after ≡ all → (e ≢ fault.Memory → RefusesRow o row old s e) → e ≢ fault.Memory → IsRowsFault o all e
row-told edges o least row done after all old s e k at whole told other =
    let refuses : RefusesRow o row old (numbered_by itself s) e = subst (λ (x : Saying ℕ). RefusesRow o row old x e) (sym (same-number s)) (told other) in
    subst (λ (l : List (Saying ℕ)). IsRowsFault o l e) whole (row-refused itself edges o least row done after old s e k at refuses)

-- a fault among the judged records is one of the log
pub fault-whole : (o : Options) (bytes : List ℕ) (least : ℕ) → least ≡ first_time (oracle_said bytes) → (e : ImportFault)
    → (e ≢ fault.Memory → IsRowsFault o (judged_all o least bytes) e) → e ≢ fault.Memory → IsRowsFault o (oracle_told o bytes) e
fault-whole o bytes least h e told other =
    subst (λ (l : List (Saying ℕ)). IsRowsFault o l e) (ap (λ (t : ℕ). judged_all o t bytes) h ∙ told-all o bytes) (told other)

-- what was collected of the judged records is what is to be collected of the log
pub sheet-whole : (edges : ℕ) (o : Options) (bytes : List ℕ) (least : ℕ) (sheet : Sheet) → least ≡ first_time (oracle_said bytes) → IsSheetOf itself edges o least (judged_all o least bytes) sheet
    → IsSheetOf itself edges o (first_time (oracle_said bytes)) (oracle_told o bytes) sheet
sheet-whole edges o bytes least sheet h k =
    subst (λ (l : List (Saying ℕ)). IsSheetOf itself edges o (first_time (oracle_said bytes)) l sheet) (told-all o bytes)
    (subst (λ (t : ℕ). IsSheetOf itself edges o t (judged_all o t bytes) sheet) h k)

-- its text is a trace of the log's rows
pub sheet-trace : (o : Options) (bytes text : List ℕ) (sheet : Sheet) → 1 ≤ o.edges → o.edges ≤ 256 → IsSheetOf itself o.edges o (first_time (oracle_said bytes)) (oracle_told o bytes) sheet
    → WritesTrace most_rows text (spread_if o sheet.rows.items) → trace_of o.edges most_rows (records_of text) ≡ Ok (oracle_rows o bytes)
sheet-trace o bytes text sheet some few k w =
    let room : All (λ (r : Row). r.time + room_for o ≤ latest_time) sheet.rows.items =
    subst (λ (rs : List Row). All (λ (r : Row). r.time + room_for o ≤ latest_time) rs) (sym k.rows) (room-told o (first_time (oracle_said bytes)) 0 (λ n. n) 0 (oracle_said bytes)) in
    w o.edges (omega arith) (spread-ranges o o.edges sheet.rows.items o.some_ticks (k.ranges some) room) (omega (arith, spread-count o sheet.rows.items, k.count, k.few)) ∙ ap (λ (rs : List Row). Ok (spread_if o rs)) k.rows

-- each row stands at a time of a trace
pub sheet-times : {O : Type 0} {number : O → ℕ} {edges : ℕ} {o : Options} {least : ℕ} {done : List (Saying O)} {sheet : Sheet} → IsSheetOf number edges o least done sheet → All (λ (r : Row). r.time ≤ latest_time) sheet.rows.items
sheet-times {edges = edges} {o = o} {sheet = sheet} k = All-weaker (IsRow edges) (λ (r : Row). r.time ≤ latest_time) (λ r h. h.time) sheet.rows.items (k.ranges o.some_edges)

-- each row has the object of its record
pub rows-objects : (o : Options) (least place : ℕ) (ss : List (Said ℕ)) → map (λ r. r.object) (rows_for o least (λ n. n) place ss) ≡ map (λ s. s.1) ss
unfolding rows_for
rows-objects o least place [] = refl
rows-objects o least place (s ∷ ss) = ap (λ (t : List ℕ). s.1 ∷ t) (rows-objects o least (place + 1) ss)

-- what a record says of which each number is read
pub piece-told : (piece : List ℕ) (time size object : ℕ) → 24 ≤ length piece → 1 ≤ size → time ≡ little_number 4 piece → size ≡ little_number 4 (drop 12 piece) → object ≡ little_number 8 (drop 4 piece)
    → Ok (record { time = time * billion; edge = None; size = size; clamped = false; kind = Get }, object) ≡ piece_said piece
unfolding piece_said
piece-told piece time size object long some is_time is_size is_object =
    let enough : nat_lt (length piece) 24 ≡ false = grind (arith, common_steps) in
    let not_none : nat_eq size 0 ≡ false = grind (arith, common_steps) in
    rw (enough, ap (λ (n : ℕ). nat_eq n 0) (sym is_size) ∙ not_none, is_time, is_size, is_object) refl

-- what has come of the rows of a sheet
pub sheet-counts : {O : Type 0} {number : O → ℕ} {edges : ℕ} {o : Options} {least : ℕ} {done : List (Saying O)} {sheet : Sheet} → IsSheetOf number edges o least done sheet → counts_in sheet ≡ row_counts done
sheet-counts k i = record { kept = k.count i; clamped = k.clamped i; left_out = k.left_out i }

-- too few rows are kept
pub rows-lost : {O : Type 0} (o : Options) (said : List (Saying O)) (e : ImportFault) → IsErrorOfLosses o (row_counts said) e → IsRowsFault o said e
rows-lost o said e (t, is, few) = rw is few
