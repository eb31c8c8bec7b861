-- What the lines of a trace are read as.
use Rattle.std.proofs.Common.{◌≡◌, ◌≤◌, ◌<◌, ◌+◌, ◌^◌, ℕ, List, [], ◌∷◌, ◌++◌, length, map, Bool, true, false, Some, Ok, refl, arith, ◌∙◌, ap, append_assoc, nat_lt, nat_le, subst, sym, take}
use Rattle.std.specs.Prelude.{◌==◌, All, Err, None, Option, codes, if◌then◌else◌, slice_index_or}
use Rattle.std.specs.Fmt.{decimal}
use Rattle.std.specs.List.{flat_map, list_any}
use Rattle.std.proofs.lemmas.List.{flat_map_more, take_more}
use Rattle.std.proofs.lemmas.List.Elements.{All-head, All-tail, All-weaker}
use Rattle.std.proofs.lemmas.List.Folds.{list_any_at}
use Rattle.std.proofs.lemmas.Grind.{common_steps}
use Rattle.csv.specs.Machine.{next_record}
use Rattle.csv.specs.Quoting.{needs_byte}
use Rattle.csv.specs.Reading.{default_config, strip_bom}
use Rattle.csv.specs.Records.{field_at}
use Rattle.csv.specs.Writing.{default_writer, escaped, fields_text, is_blank, row_text}
use Rattle.csv.specs.declared.parser.State.TheVariants as st
use Rattle.csv.proofs.RoundTrip.{read-write-many, read-write-one}
use Rattle.rw_trace.specs.Laws.{IsRow}
use Rattle.rw_trace.specs.Limits.{greatest_size, latest_time}
use Rattle.rw_trace.specs.Trace.{◌>>=◌, column_of, is_header, is_text_at, kind_at, number_of, or_fault, row_before, row_of, rows_of, trace_of, version_of, word_of}
use Rattle.rw_trace.specs.Unread.{records_of}
use Rattle.rw_trace.specs.Words.{Fields, OrFault, Text}
use Rattle.rw_trace.specs.declared.Kind.{Kind}
use Rattle.rw_trace.specs.declared.Kind.TheVariants.{Get, Purge}
use Rattle.rw_trace.specs.declared.Row.{Row}
use Rattle.rw_trace.specs.declared.TraceFault.TheVariants as fault
use Rattle.rw_trace.specs.Unread.{records_left}
use Rattle.rw_trace.specs.declared.Version.{Version}
use Rattle.rw_trace.specs.declared.Version.TheVariants.{First, Second}
use Rattle.rw_import.specs.Lines.{trace_header, row_line, trace_lines}
use Rattle.rw_import.specs.Written.{WritesTrace, BeginsWithHeader, NamesPurges, has_purge, header_fields, is_purging}
use Rattle.rw_import.proofs.Digits.{decimal-digits, number-decimal}
use Rattle.rw_trace.proofs.Records.{left-more, left-none}

-- the fields of a row's line
abbrev row_fields : Bool → Row → Fields
row_fields false r = decimal r.time ∷ decimal r.edge ∷ decimal r.object ∷ decimal r.size ∷ []
row_fields true r = decimal r.time ∷ decimal r.edge ∷ decimal r.object ∷ decimal r.size ∷ word_of r.kind ∷ []

-- each number of a row fits 64 bits
record Fits64 (r : Row) : Type 0 where
  time : r.time < 2 ^ 64
  edge : r.edge < 2 ^ 64
  object : r.object < 2 ^ 64
  size : r.size < 2 ^ 64

-- a kind's word calls for no quotes
word-plain : (k : Kind) → list_any (needs_byte default_writer) (word_of k) ≡ false
word-plain Get = refl
word-plain Purge = refl

-- a row's line is the text of its fields
line-text : (kinds : Bool) (r : Row) → Fits64 r → row_line kinds r ≡ row_text default_writer (row_fields kinds r)
unfolding row_line fields_text is_blank
line-text false r h =
    let t = (decimal-digits r.time h.time).plain in
    let e = (decimal-digits r.edge h.edge).plain in
    let o = (decimal-digits r.object h.object).plain in
    let s = (decimal-digits r.size h.size).plain in
    rw (t, e, o, s) (simp append_assoc)
line-text true r h =
    let t = (decimal-digits r.time h.time).plain in
    let e = (decimal-digits r.edge h.edge).plain in
    let o = (decimal-digits r.object h.object).plain in
    let s = (decimal-digits r.size h.size).plain in
    let k = word-plain r.kind in
    rw (t, e, o, s, k) (simp append_assoc)

-- the header's line is the text of its names
header-text : (kinds : Bool) → trace_header kinds ≡ row_text default_writer (header_fields kinds)
unfolding trace_header fields_text is_blank escaped
header-text false = refl
header-text true = refl

-- a row's line reads as its fields
line-read : (kinds : Bool) (r : Row) (tail : List ℕ) → Fits64 r
    → next_record default_config st.StartRecord [] [] (row_line kinds r ++ tail) ≡ Some (row_fields kinds r, st.StartRecord, tail)
line-read false r tail h = rw (line-text false r h) (read-write-many _ _ _ tail)
line-read true r tail h = rw (line-text true r h) (read-write-many _ _ _ tail)

header-read : (kinds : Bool) (tail : List ℕ)
    → next_record default_config st.StartRecord [] [] (trace_header kinds ++ tail) ≡ Some (header_fields kinds, st.StartRecord, tail)
header-read false tail = rw (header-text false) (read-write-many _ _ _ tail)
header-read true tail = rw (header-text true) (read-write-many _ _ _ tail)

-- the rows' lines read as their fields
none-left : records_left default_config st.StartRecord (Some []) ≡ []
unfolding next_record
none-left = left-none default_config st.StartRecord [] refl

-- a row in the ranges of a trace fits
fits-row : (edges : ℕ) (r : Row) → edges < 2 ^ 32 → IsRow edges r → Fits64 r
fits-row edges r small h = record {
  time = omega (arith, h.time);
  edge = omega (arith, h.edge);
  object = h.object;
  size = omega (arith, h.few);
}

lines-read : (kinds : Bool) (rows : List Row) → All Fits64 rows
    → records_left default_config st.StartRecord (Some (flat_map (row_line kinds) rows)) ≡ map (row_fields kinds) rows
lines-read kinds [] h = none-left
lines-read kinds (r ∷ rs) h =
    left-more default_config st.StartRecord _ _ (line-read kinds r (flat_map (row_line kinds) rs) (All-head Fits64 r rs h))
    ∙ ap (λ (t : List Fields). row_fields kinds r ∷ t) (lines-read kinds rs (All-tail Fits64 r rs h))

-- a trace's text has no byte order mark
no-mark : (kinds : Bool) (tail : List ℕ) → strip_bom (trace_header kinds ++ tail) ≡ trace_header kinds ++ tail
unfolding strip_bom trace_header
no-mark false tail = refl
no-mark true tail = refl

-- the records of a trace's text
records-first : (kinds : Bool) (rows : List Row)
    → records_of (trace_lines kinds rows) ≡ header_fields kinds ∷ records_left default_config st.StartRecord (Some (flat_map (row_line kinds) rows))
records-first kinds rows = rw (no-mark kinds (flat_map (row_line kinds) rows)) (left-more default_config st.StartRecord _ _ (header-read kinds (flat_map (row_line kinds) rows)))

-- the header is that of a version, and each row is read back under it
row-back : (edges n t e o s : ℕ) (k : Kind) (kinds : Bool) → edges < 2 ^ 32 → IsRow edges (record { time = t; edge = e; object = o; size = s; kind = k })
    → (is_purging k ≡ true → kinds ≡ true)
    → (or_fault fault.Header (version_of (header_fields kinds)) >>= (λ version. row_of version edges n (row_fields kinds (record { time = t; edge = e; object = o; size = s; kind = k }))))
    ≡ Ok (record { time = t; edge = e; object = o; size = s; kind = k })
unfolding version_of is_header is_text_at row_of column_of kind_at field_at
row-back edges n t e o s k kinds small h get = by k kinds get
  where
    fits : Fits64 (record { time = t; edge = e; object = o; size = s; kind = k })
    fits = fits-row edges _ small h

    rt : number_of (decimal t) ≡ Some t
    rt = number-decimal t fits.time

    re : number_of (decimal e) ≡ Some e
    re = number-decimal e fits.edge

    ro : number_of (decimal o) ≡ Some o
    ro = number-decimal o fits.object

    rs : number_of (decimal s) ≡ Some s
    rs = number-decimal s fits.size

    early : nat_le t latest_time ≡ true
    early = grind (arith, common_steps, h.time)

    known : nat_lt e edges ≡ true
    known = grind (arith, common_steps, h.edge)

    some : nat_le 1 s ≡ true
    some = grind (arith, common_steps, h.some)

    few : nat_le s greatest_size ≡ true
    few = grind (arith, common_steps, h.few)

    by : (d : Kind) (b : Bool) → (is_purging d ≡ true → b ≡ true)
        → (or_fault fault.Header (version_of (header_fields b)) >>= (λ version. row_of version edges n (row_fields b (record { time = t; edge = e; object = o; size = s; kind = d }))))
        ≡ Ok (record { time = t; edge = e; object = o; size = s; kind = d })
    by Get false need = rw (rt, early, re, known, ro, rs, some, few) refl
    by Purge false need = let bad : false ≡ true = need refl in cc
    by Get true need = rw (rt, early, re, known, ro, rs, some, few) refl
    by Purge true need = rw (rt, early, re, known, ro, rs, some, few) refl

-- the rows are read back under the header
rows-back : (edges most n : ℕ) (kinds : Bool) (rows : List Row) → edges < 2 ^ 32 → All (IsRow edges) rows → NamesPurges kinds rows → n + length rows ≤ most
    → (or_fault fault.Header (version_of (header_fields kinds)) >>= (λ version. rows_of version edges most n (map (row_fields kinds) rows))) ≡ Ok rows
unfolding version_of is_header is_text_at rows_of field_at
rows-back edges most n false [] small h names few = refl
rows-back edges most n true [] small h names few = refl
rows-back edges most n false (r ∷ rs) small h names few =
    let other : (n == most) ≡ false = grind (arith, common_steps) in
    let first = row-back edges n r.time r.edge r.object r.size r.kind false small (All-head (IsRow edges) r rs h) (All-head (λ x. is_purging x.kind ≡ true → false ≡ true) r rs names) in
    let more = rows-back edges most (n + 1) false rs small (All-tail (IsRow edges) r rs h) (All-tail (λ x. is_purging x.kind ≡ true → false ≡ true) r rs names) (omega arith) in
    rw (other, first, more) refl
rows-back edges most n true (r ∷ rs) small h names few =
    let other : (n == most) ≡ false = grind (arith, common_steps) in
    let first = row-back edges n r.time r.edge r.object r.size r.kind true small (All-head (IsRow edges) r rs h) (All-head (λ x. is_purging x.kind ≡ true → true ≡ true) r rs names) in
    let more = rows-back edges most (n + 1) true rs small (All-tail (IsRow edges) r rs h) (All-tail (λ x. is_purging x.kind ≡ true → true ≡ true) r rs names) (omega arith) in
    rw (other, first, more) refl

-- where no row is a purge, none needs its kind named
pub purges-named : (rows : List Row) → NamesPurges (has_purge rows) rows
purges-named rows k d below purge = list_any_at (λ r. is_purging r.kind) rows k d below purge

-- the lines of some rows are a trace of them
pub lines-trace : (most : ℕ) (kinds : Bool) (rows : List Row) (text : List ℕ) → text ≡ trace_lines kinds rows → NamesPurges kinds rows → WritesTrace most text rows
unfolding trace_of
lines-trace most kinds rows text same names edges small h few =
    let recs : records_of text ≡ header_fields kinds ∷ map (row_fields kinds) rows =
    rw (same, records-first kinds rows) (ap (λ (t : List Fields). header_fields kinds ∷ t) (lines-read kinds rows (All-weaker (IsRow edges) Fits64 (λ r i. fits-row edges r small i) rows h))) in
    rw recs (rows-back edges most 0 kinds rows small h names (omega arith))

-- and begin with the header
pub lines-header : (kinds : Bool) (rows : List Row) (text : List ℕ) → text ≡ trace_lines kinds rows → BeginsWithHeader kinds text
lines-header kinds rows text same = (records_left default_config st.StartRecord (Some (flat_map (row_line kinds) rows)), rw same (records-first kinds rows))

-- ---- a text that is cut off
-- the line of a fault is a record of one field
fault-text : codes "fault\n" ≡ row_text default_writer (codes "fault" ∷ [])
unfolding fields_text is_blank escaped
fault-text = refl

fault-line : (tail : List ℕ) → next_record default_config st.StartRecord [] [] (codes "fault\n" ++ tail) ≡ Some (codes "fault" ∷ [], st.StartRecord, tail)
fault-line tail =
    let written : next_record default_config st.StartRecord [] [] (row_text default_writer (codes "fault" ∷ []) ++ tail) ≡ Some (codes "fault" ∷ [], st.StartRecord, tail) = read-write-one (codes "fault") tail in
    subst (λ (t : List ℕ). next_record default_config st.StartRecord [] [] (t ++ tail) ≡ Some (codes "fault" ∷ [], st.StartRecord, tail)) (sym fault-text) written

fault-read : records_left default_config st.StartRecord (Some (codes "fault\n")) ≡ (codes "fault" ∷ []) ∷ []
fault-read =
    left-more default_config st.StartRecord (codes "fault\n") _ (fault-line [])
    ∙ ap (λ (t : List Fields). (codes "fault" ∷ []) ∷ t) none-left

lines-before : (kinds : Bool) (rows : List Row) (tail : List ℕ) → All Fits64 rows
    → records_left default_config st.StartRecord (Some (flat_map (row_line kinds) rows ++ tail)) ≡ map (row_fields kinds) rows ++ records_left default_config st.StartRecord (Some tail)
lines-before kinds [] tail h = refl
lines-before kinds (r ∷ rs) tail h =
    ap (λ (t : List ℕ). records_left default_config st.StartRecord (Some t)) (append_assoc (row_line kinds r) (flat_map (row_line kinds) rs) tail)
    ∙ left-more default_config st.StartRecord _ _ (line-read kinds r (flat_map (row_line kinds) rs ++ tail) (All-head Fits64 r rs h))
    ∙ ap (λ (t : List Fields). row_fields kinds r ∷ t) (lines-before kinds rs tail (All-tail Fits64 r rs h))

-- records of which the last is that of a fault are none of rows
never : (version : Version) (edges most n : ℕ) (fs : List Fields) (rows : List Row) → rows_of version edges most n (fs ++ (codes "fault" ∷ []) ∷ []) ≡ Ok rows → ⊥
unfolding rows_of row_of
never version edges most n [] rows e = by (n == most) version refl e
  where
    by : (full : Bool) (v : Version) → (n == most) ≡ full
        → (if n == most then Err fault.TooManyRows else (row_of v edges n (codes "fault" ∷ []) >>= (λ row. row_before row (rows_of v edges most (n + 1) [])))) ≡ Ok rows → ⊥
    by true v is k = let no = rw is at k in cc no
    by false First is k = let no = rw is at k in cc no
    by false Second is k = let no = rw is at k in cc no
never version edges most n (f ∷ fs) rows e = by (n == most) (row_of version edges n f) refl refl e (λ rs k. never version edges most (n + 1) fs rs k)
  where
    behind : (row : Row) (o : OrFault (List Row)) → row_before row o ≡ Ok rows → (rs : List Row) × (o ≡ Ok rs)
    behind row (Ok rs) k = (rs, refl)
    behind row (Err x) k = absurd (cc)

    by : (full : Bool) (one : OrFault Row) → (n == most) ≡ full → row_of version edges n f ≡ one
        → (if n == most then Err fault.TooManyRows else (row_of version edges n f >>= (λ row. row_before row (rows_of version edges most (n + 1) (fs ++ (codes "fault" ∷ []) ∷ []))))) ≡ Ok rows
        → ((rs : List Row) → rows_of version edges most (n + 1) (fs ++ (codes "fault" ∷ []) ∷ []) ≡ Ok rs → ⊥) → ⊥
    by true one is row k more = let no = rw is at k in cc no
    by false (Err x) is row k more = let no = rw (is, row) at k in cc no
    by false (Ok r) is row k more = let rest = behind r (rows_of version edges most (n + 1) (fs ++ (codes "fault" ∷ []) ∷ [])) (rw (is, row) at k) in more rest.0 rest.1

-- lines of rows and that of a fault are no trace
pub cut-no-trace : (kinds : Bool) (sent : List Row) (edges : ℕ) → edges < 2 ^ 32 → All (IsRow edges) sent
    → (others most : ℕ) (rows : List Row) → trace_of others most (records_of (trace_lines kinds sent ++ codes "fault\n")) ≡ Ok rows → ⊥
unfolding trace_of
cut-no-trace kinds sent edges small fine others most rows e =
    let flat = flat_map (row_line kinds) sent in
    let fits = All-weaker (IsRow edges) Fits64 (λ r i. fits-row edges r small i) sent fine in
    let text : trace_lines kinds sent ++ codes "fault\n" ≡ trace_header kinds ++ (flat ++ codes "fault\n") = append_assoc (trace_header kinds) flat (codes "fault\n") in
    let first : records_of (trace_header kinds ++ (flat ++ codes "fault\n")) ≡ header_fields kinds ∷ records_left default_config st.StartRecord (Some (flat ++ codes "fault\n")) =
    rw (no-mark kinds (flat ++ codes "fault\n")) (left-more default_config st.StartRecord _ _ (header-read kinds (flat ++ codes "fault\n"))) in
    let body : records_left default_config st.StartRecord (Some (flat ++ codes "fault\n")) ≡ map (row_fields kinds) sent ++ (codes "fault" ∷ []) ∷ [] =
    lines-before kinds sent (codes "fault\n") fits ∙ ap (λ (t : List Fields). map (row_fields kinds) sent ++ t) fault-read in
    let all : records_of (trace_lines kinds sent ++ codes "fault\n") ≡ header_fields kinds ∷ (map (row_fields kinds) sent ++ (codes "fault" ∷ []) ∷ []) =
    ap records_of text ∙ first ∙ ap (λ (t : List Fields). header_fields kinds ∷ t) body in
    headed (version_of (header_fields kinds)) (rw all at e)
  where
    headed : (o : Option Version) → (or_fault fault.Header o >>= (λ version. rows_of version others most 0 (map (row_fields kinds) sent ++ (codes "fault" ∷ []) ∷ []))) ≡ Ok rows → ⊥
    headed None k = cc k
    headed (Some version) k = never version others most 0 (map (row_fields kinds) sent) rows k

-- nor is a text of no bytes
pub nothing-no-trace : (others most : ℕ) (rows : List Row) → trace_of others most (records_of []) ≡ Ok rows → ⊥
unfolding trace_of strip_bom
nothing-no-trace others most rows e = let no = rw none-left at e in cc no

-- the lines with that of one more row
pub lines-more : (kinds : Bool) (rows : List Row) (i : ℕ) (d : Row) (old new : Text) → i < length rows → old ≡ trace_lines kinds (take i rows) → new ≡ old ++ row_line kinds (slice_index_or rows i d)
    → new ≡ trace_lines kinds (take (i + 1) rows)
lines-more kinds rows i d old new less before pushed =
    let row = slice_index_or rows i d in
    pushed
    ∙ ap (λ (t : Text). t ++ row_line kinds row) before
    ∙ flat_map_more (row_line kinds) (trace_header kinds) (take i rows) row
    ∙ ap (trace_lines kinds) (sym (take_more rows i d less))
