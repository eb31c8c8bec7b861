-- Times that are whole numbers of units, the ticks that they become, and the room behind them.
use Rattle.std.proofs.Common.{◌≡◌, ◌≤◌, ◌+◌, ◌-◌, ◌*◌, ◌/◌, ◌%◌, ◌∙◌, ℕ, List, [], ◌∷◌, All, Bool, true, false, Option, Some, None, Result, Ok, Err, fold, length, map, refl, sym, ap, subst, arith}
use Rattle.byteorder.specs.Endian.{little_number}
use Rattle.rw_trace.specs.declared.Kind.TheVariants.{Get}
use Rattle.std.specs.List.{range_with_len}
use Rattle.std.specs.Prelude.{drop, nat_lt, ◌==◌, ◌&&◌, IfOk, IfSome, if◌then◌else◌, min, nat_eq, nat_le, not, unwrap_or, ⊤}
use Rattle.std.specs.Option.{ok_or}
use Rattle.std.proofs.Math.Nat.{mul_right_comm}
use Rattle.std.proofs.lemmas.Grind.{common_steps}
use Rattle.std.proofs.lemmas.List.Elements.{All-cons, All-nil, All-weaker}
use Rattle.rw_trace.specs.Laws.{IsRow}
use Rattle.rw_trace.specs.Limits.{latest_time}
use Rattle.rw_trace.specs.Words.{Fields, Text}
use Rattle.rw_trace.specs.declared.Row.{Row}
use Rattle.rw_import.specs.Csv.{◌>>=◌, beside, csv_rows_unspread, csv_said, csv_told, columns_found, edge_in, edges_of, entry_of, field_in, has_header, has_places, is_whole, kind_in, log_records, number_among, objects_in, place_if, place_in, places_in, places_under, record_said, rows_under, said_at, size_in, some_text, time_column, time_of, whole_time}
use Rattle.rw_import.specs.Log.{Said, Saying, billion, earlier, first_time, in_time, kept_in, room_for, row_for, rows_for, ticks_from, told_apart}
use Rattle.rw_import.specs.Oracle.{oracle_rows_unspread, oracle_said, oracle_told, piece_at, piece_count, piece_length, piece_said}
use Rattle.rw_import.specs.Spread.{AreWhole, SpreadsRows, spread, spread_if}
use Rattle.rw_import.specs.declared.entry.Entry.{Entry}
use Rattle.rw_import.specs.declared.fault.Flaw.{Flaw}
use Rattle.rw_import.specs.declared.fault.Flaw.TheVariants.{Column, Length}
use Rattle.rw_import.specs.declared.fault.ImportFault.{ImportFault}
use Rattle.rw_import.specs.declared.fault.Part.TheVariants as part
use Rattle.rw_import.specs.declared.layout.Layout.{Layout}
use Rattle.rw_import.specs.declared.layout.Places.{Places}
use Rattle.rw_import.specs.declared.options.Options.{Options}
use Rattle.rw_import.proofs.Columns.{whole-found}
use Rattle.rw_import.proofs.SpreadLaws.{spread-law}
use Rattle.rw_import.proofs.Spreads.{length-spread}

-- ---- times that are whole
pub IsWholeTime : ℕ → Type 0
IsWholeTime t = (u : ℕ) × (t ≡ u * billion)

-- each row that says a time says a whole one
abbrev pub AreSaidWhole : {O : Type 0} → List (Saying O) → Type 0
AreSaidWhole [] = ⊤
AreSaidWhole (s ∷ said) = IfOk s (λ x. IsWholeTime x.0.time) × AreSaidWhole said

abbrev pub AreKeptWhole : {O : Type 0} → List (Said O) → Type 0
AreKeptWhole [] = ⊤
AreKeptWhole (s ∷ ss) = IsWholeTime s.0.time × AreKeptWhole ss

whole-min : (a b : ℕ) → IsWholeTime a → IsWholeTime b → IsWholeTime (min a b)
unfolding IsWholeTime
whole-min a b (u, ha) (v, hb) = (min u v, rw (ha, hb) (omega arith))

whole-earlier : {O : Type 0} (m : Option ℕ) (s : Saying O) → IfSome m IsWholeTime → IfOk s (λ x. IsWholeTime x.0.time) → IfSome (earlier m s) IsWholeTime
whole-earlier m (Err f) hm hs = hm
whole-earlier None (Ok s) hm hs = hs
whole-earlier (Some t) (Ok s) hm hs = whole-min t s.0.time hm hs

whole-fold : {O : Type 0} (m : Option ℕ) (said : List (Saying O)) → IfSome m IsWholeTime → AreSaidWhole said → IfSome (fold earlier m said) IsWholeTime
whole-fold m [] hm h = hm
whole-fold m (s ∷ said) hm h = whole-fold (earlier m s) said (whole-earlier m s hm h.0) h.1

whole-or-none : (m : Option ℕ) → IfSome m IsWholeTime → IsWholeTime (unwrap_or m 0)
unfolding IsWholeTime
whole-or-none None h = (0, refl)
whole-or-none (Some t) h = h

whole-first : {O : Type 0} (said : List (Saying O)) → AreSaidWhole said → IsWholeTime (first_time said)
whole-first said h = whole-or-none (fold earlier None said) (whole-fold None said tt h)

-- those that are kept say them too
whole-in-time : {O : Type 0} (o : Options) (least column : ℕ) (s : Saying O) → IfOk s (λ x. IsWholeTime x.0.time) → IfOk (in_time o least column s) (λ x. IsWholeTime x.0.time)
whole-in-time o least column (Err f) h = tt
whole-in-time o least column (Ok s) h = by (nat_le (ticks_from o.ticks least s.0.time + room_for o) latest_time)
  where
    by : (b : Bool) → IfOk (if b then Ok s else Err (Column column part.Time)) (λ x. IsWholeTime x.0.time)
    by true = h
    by false = tt

whole-told : {O : Type 0} (o : Options) (least column : ℕ) (said : List (Saying O)) → AreSaidWhole said → AreSaidWhole (map (in_time o least column) said)
whole-told o least column [] h = tt
whole-told o least column (s ∷ said) h = (whole-in-time o least column s h.0, whole-told o least column said h.1)

whole-kept : {O : Type 0} (said : List (Saying O)) → AreSaidWhole said → AreKeptWhole (kept_in said)
whole-kept [] h = tt
whole-kept (Ok s ∷ said) h = (h.0, whole-kept said h.1)
whole-kept (Err f ∷ said) h = whole-kept said h.1

-- and become ticks of whole units
cancel : (m : ℕ) → (m * billion) / billion ≡ m
cancel m = omega arith

regroup : (k ticks : ℕ) → (k * billion) * ticks ≡ (k * ticks) * billion
regroup k ticks = mul_right_comm k billion ticks

whole-ticks : (ticks least time : ℕ) → IsWholeTime least → IsWholeTime time → (u : ℕ) × (ticks_from ticks least time ≡ u * ticks)
unfolding IsWholeTime
whole-ticks ticks least time (v, hl) (u, ht) =
    let apart : time - least ≡ (u - v) * billion = rw (ht, hl) (omega arith) in
    (u - v, ap (λ (d : ℕ). (d * ticks) / billion) apart ∙ ap (λ (n : ℕ). n / billion) (regroup (u - v) ticks) ∙ cancel ((u - v) * ticks))

whole-rows : {O : Type 0} (o : Options) (least : ℕ) (number : O → ℕ) (place : ℕ) (ss : List (Said O)) → IsWholeTime least → AreKeptWhole ss → AreWhole o.ticks (rows_for o least number place ss)
unfolding rows_for
whole-rows o least number place [] hl h = All-nil (λ (r : Row). (units : ℕ) × (r.time ≡ units * o.ticks))
whole-rows o least number place (s ∷ ss) hl h =
    All-cons (λ (r : Row). (units : ℕ) × (r.time ≡ units * o.ticks)) (row_for o least place (number s.1) s.0) (rows_for o least number (place + 1) ss) (whole-ticks o.ticks least s.0.time hl h.0) (whole-rows o least number (place + 1) ss hl h.1)

told-rows-whole : {O : Type 0} (o : Options) (column : ℕ) (number : O → ℕ) (said : List (Saying O)) → AreSaidWhole said → AreWhole o.ticks (rows_for o (first_time said) number 0 (kept_in (told_apart o column said)))
told-rows-whole o column number said h =
    whole-rows o (first_time said) number 0 (kept_in (told_apart o column said)) (whole-first said h) (whole-kept (told_apart o column said) (whole-told o (first_time said) column said h))

-- ---- a binary log says whole times alone
piece-whole : (piece : Text) → IfOk (piece_said piece) (λ x. IsWholeTime x.0.time)
unfolding piece_said IsWholeTime
piece-whole piece = by (nat_lt (length piece) piece_length) (nat_eq (little_number 4 (drop 12 piece)) 0)
  where
    said : Bool → Bool → Saying ℕ
    said a b =
        if a then Err Length
        else if b then Err (Column 2 part.Size)
        else Ok (
          record {
            time = little_number 4 piece * billion;
            edge = None;
            size = little_number 4 (drop 12 piece);
            clamped = false;
            kind = Get;
          },
          little_number 8 (drop 4 piece),
        )

    by : (a b : Bool) → IfOk (said a b) (λ x. (u : ℕ) × (x.0.time ≡ u * billion))
    by true b = tt
    by false true = tt
    by false false = (little_number 4 piece, refl)

pieces-whole : (bytes : Text) (places : List ℕ) → AreSaidWhole (map (λ n. piece_said (piece_at bytes n)) places)
pieces-whole bytes [] = tt
pieces-whole bytes (n ∷ places) = (piece-whole (piece_at bytes n), pieces-whole bytes places)

pub oracle-whole : (o : Options) (bytes : Text) → AreWhole o.ticks (oracle_rows_unspread o bytes)
oracle-whole o bytes = told-rows-whole o 0 (λ n. n) (oracle_said bytes) (pieces-whole bytes (range_with_len 0 (piece_count bytes)))

-- ---- where rows are spread, there is room
nat_le-true : {m n : ℕ} → nat_le m n ≡ true → m ≤ n
nat_le-true e = grind (arith, common_steps, e)

pub room-told : {O : Type 0} (o : Options) (least column : ℕ) (number : O → ℕ) (place : ℕ) (said : List (Saying O)) → All (λ (r : Row). r.time + room_for o ≤ latest_time) (rows_for o least number place (kept_in (map (in_time o least column) said)))
unfolding rows_for
room-told o least column number place [] = All-nil (λ (r : Row). r.time + room_for o ≤ latest_time)
room-told o least column number place (Err f ∷ said) = room-told o least column number place said
room-told o least column number place (Ok s ∷ said) = by (nat_le (ticks_from o.ticks least s.0.time + room_for o) latest_time) refl (room-told o least column number (place + 1) said) (room-told o least column number place said)
  where
    by : (b : Bool) → nat_le (ticks_from o.ticks least s.0.time + room_for o) latest_time ≡ b
        → All (λ (r : Row). r.time + room_for o ≤ latest_time) (rows_for o least number (place + 1) (kept_in (map (in_time o least column) said)))
        → All (λ (r : Row). r.time + room_for o ≤ latest_time) (rows_for o least number place (kept_in (map (in_time o least column) said)))
        → All (λ (r : Row). r.time + room_for o ≤ latest_time) (rows_for o least number place (kept_in (map (in_time o least column) (Ok s ∷ said))))
    by true e more same = rw e (All-cons (λ (r : Row). r.time + room_for o ≤ latest_time) (row_for o least place (number s.1) s.0) (rows_for o least number (place + 1) (kept_in (map (in_time o least column) said))) (nat_le-true e) more)
    by false e more same = rw e same

-- rows that are spread stay in the ranges of a trace
pub spread-ranges : (o : Options) (edges : ℕ) (rows : List Row) → 1 ≤ o.ticks → All (IsRow edges) rows → All (λ (r : Row). r.time + room_for o ≤ latest_time) rows → All (IsRow edges) (spread_if o rows)
spread-ranges o edges rows some all room = by o.spread refl
  where
    wide : (r : Row) → o.spread ≡ true → r.time + room_for o ≤ latest_time → r.time + o.ticks ≤ latest_time + 1
    wide r e h = let k : r.time + (o.ticks - 1) ≤ latest_time = rw e at h in omega (arith, k, some)

    by : (b : Bool) → o.spread ≡ b → All (IsRow edges) (spread_if o rows)
    by true e = rw e ((spread-law o.ticks rows some).ranges edges all (All-weaker (λ (r : Row). r.time + room_for o ≤ latest_time) (λ (r : Row). r.time + o.ticks ≤ latest_time + 1) (λ r h. wide r e h) rows room))
    by false e = rw e all

pub spread-count : (o : Options) (rows : List Row) → length (spread_if o rows) ≡ length rows
spread-count o rows = by o.spread
  where
    by : (b : Bool) → length (if b then spread o.ticks rows else rows) ≡ length rows
    by true = length-spread o.ticks rows
    by false = refl

-- ---- a log of fields says whole times alone, where it is asked to
whole-number : (t : ℕ) → is_whole t ≡ true → IsWholeTime t
unfolding IsWholeTime
whole-number t e =
    let none : t % billion ≡ 0 = grind (arith, common_steps, e) in
    (t / billion, omega (arith, none))

whole-ok : (m : Option ℕ) (f : Flaw) (t : ℕ) → ok_or (whole_time true m) f ≡ Ok t → IsWholeTime t
whole-ok None f t e = absurd (cc e)
whole-ok (Some u) f t e = by (is_whole u) refl
  where
    by : (b : Bool) → is_whole u ≡ b → IsWholeTime t
    by true k = let same : Ok u ≡ Ok t = rw k at e in let is : u ≡ t = cc same in subst IsWholeTime is (whole-number u k)
    by false k = let none : Err f ≡ Ok t = rw k at e in absurd (cc none)

bind-if : {A B E : Type 0} (P : B → Type 0) (r : Result A E) (f : A → Result B E) → ((x : A) → r ≡ Ok x → IfOk (f x) P) → IfOk (r >>= f) P
bind-if P (Ok x) f h = h x refl
bind-if P (Err e) f h = tt

entry-whole : (p : Places) (edges : ℕ) (fields : Fields) → p.whole_times ≡ true → IfOk (entry_of p edges fields) (λ e. IsWholeTime e.time)
unfolding entry_of
entry-whole p edges fields wanted = by (has_places fields p) refl
  where
    P : Entry → Type 0
    P e = IsWholeTime e.time

    by : (b : Bool) → has_places fields p ≡ b → IfOk (entry_of p edges fields) (λ e. IsWholeTime e.time)
    by true k =
        rw k (bind-if P (ok_or (whole_time p.whole_times (time_of (field_in fields p.time))) (Column p.time part.Time)) _ (λ time is.
        let whole : IsWholeTime time = whole-ok (time_of (field_in fields p.time)) (Column p.time part.Time) time (ap (λ (w : Bool). ok_or (whole_time w (time_of (field_in fields p.time))) (Column p.time part.Time)) (sym wanted) ∙ is) in
        bind-if P (edge_in edges fields p.edge) _ (λ edge _.
        bind-if P (ok_or (some_text (field_in fields p.object)) (Column p.object part.Object)) _ (λ text _.
        bind-if P (ok_or (size_in p.missing_size (field_in fields p.size)) (Column p.size part.Size)) _ (λ size _.
        bind-if P (kind_in fields p.kind) _ (λ kind _. whole))))))
    by false k = rw k tt

beside-whole : {O : Type 0} (object : O) (r : Result Entry Flaw) → IfOk r (λ e. IsWholeTime e.time) → IfOk (beside object r) (λ x. IsWholeTime x.0.time)
beside-whole object (Ok e) h = h
beside-whole object (Err f) h = tt

records-whole : (p : Places) (edges : ℕ) (records : List Fields) → p.whole_times ≡ true → AreSaidWhole (map (record_said p edges) records)
records-whole p edges [] wanted = tt
records-whole p edges (r ∷ records) wanted = (beside-whole (field_in r p.object) (entry_of p edges r) (entry-whole p edges r wanted), records-whole p edges records wanted)

columns-whole : (l : Layout) (records : List Fields) (p : Places) → columns_found l records ≡ Ok p → p.whole_times ≡ l.whole_times
unfolding columns_found
columns-whole l records p is = by (has_header l) refl records is
  where
    by : (b : Bool) → has_header l ≡ b → (rs : List Fields) → (if has_header l then places_under l rs else places_in [] l) ≡ Ok p → p.whole_times ≡ l.whole_times
    by true k [] e = let no = rw k at e in absurd (cc)
    by true k (h ∷ rs) e = whole-found h l p (rw k at e)
    by false k rs e = whole-found [] l p (rw k at e)

said-whole-at : (l : Layout) (o : Options) (bytes : Text) (r : Result Places ImportFault) → columns_found l (log_records l bytes) ≡ r → l.whole_times ≡ true → AreSaidWhole (said_at l o bytes r)
said-whole-at l o bytes (Err e) is wanted = tt
said-whole-at l o bytes (Ok p) is wanted = records-whole p (edges_of l o) (rows_under l (log_records l bytes)) (columns-whole l (log_records l bytes) p is ∙ wanted)

pub csv-whole : (l : Layout) (o : Options) (bytes : Text) → l.whole_times ≡ true → AreWhole o.ticks (csv_rows_unspread l o bytes)
csv-whole l o bytes wanted =
    told-rows-whole o (time_column (columns_found l (log_records l bytes))) (number_among (objects_in (csv_told l o bytes))) (csv_said l o bytes) (said-whole-at l o bytes (columns_found l (log_records l bytes)) refl wanted)

-- what is spread, where the options ask for that
pub spread-asked : (o : Options) (rows : List Row) → 1 ≤ o.ticks → o.spread ≡ true → SpreadsRows o.ticks rows (spread_if o rows)
spread-asked o rows some asked = rw asked (spread-law o.ticks rows some)
