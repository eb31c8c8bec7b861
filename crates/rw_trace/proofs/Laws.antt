-- What is read is what the format says.
use Rattle.std.proofs.Common.{◌≡◌, ◌≤◌, ◌+◌, ◌⊎◌, inl, inr, ◌-◌, ◌*◌, ◌^◌, ℕ, zero, suc, List, [], ◌∷◌, ◌++◌, length, Bool, true, false, Option, Some, None, nat_lt, nat_le, Ok, Err, Result, Decides, refl, arith, sym, ◌∙◌, ap, subst}
use Rattle.std.specs.Prelude.{◌==◌, ◌||◌, ◌&&◌, ◌<◌, All, IsSomeAnd, IfErr, MatchOption}
use Rattle.std.proofs.lemmas.List.Elements.{All-cons, All-nil}
use Rattle.std.specs.Char.{is_ascii_digit}
use Rattle.std.specs.List.{list_all}
use Rattle.std.proofs.lemmas.List.Sums.{AllPass-from_list_all, list_all-from_AllPass}
use Rattle.std.proofs.lemmas.Bool.{eq-eqb}
use Rattle.std.proofs.lemmas.Bool.Decides.{Decides-eqb}
use Rattle.std.proofs.lemmas.Slice.Eq.{slice_eq-Decides}
use Rattle.std.proofs.lemmas.Grind.{common_steps}
use Rattle.std.proofs.Math.Nat.{pow-succ'}
use Rattle.csv.specs.Records.{field_at}
use Rattle.rw_trace.proofs.Numbers.{is-number}
use Rattle.rw_trace.specs.Limits.{greatest_size, latest_time}
use Rattle.rw_trace.specs.Laws.{IsFaultOf, IsFirstFault, IsNumber, IsRow, IsTrace, IsWrong, Lacks, LacksKind, WriteRows, Writes, WritesKind, WritesRow, decimal}
use Rattle.rw_trace.specs.Trace.{column_of, is_text, is_text_at, kind_at, word_of, number_in, number_of, row_of, rows_of, trace_of, value_after, version_of, width_of}
use Rattle.rw_trace.specs.Unread.{LacksHeader}
use Rattle.rw_trace.specs.declared.Kind.{Kind}
use Rattle.rw_trace.specs.declared.Kind.TheVariants.{Get, Purge}
use Rattle.rw_trace.specs.declared.Row.{Row}
use Rattle.rw_trace.specs.declared.TraceFault.{TraceFault}
use Rattle.rw_trace.specs.declared.TraceFault.TheVariants as fault
use Rattle.rw_trace.specs.declared.Version.{Version}
use Rattle.rw_trace.specs.declared.Version.TheVariants.{First, Second}

-- digits after a value shift it
pub shifted : (n v : ℕ) (f : List ℕ) → value_after n f ≡ Some v → (v ≡ n * 10 ^ length f + decimal f) × (list_all is_ascii_digit f ≡ true)
unfolding value_after decimal
shifted n v [] h = (grind (arith, common_steps), refl)
shifted n v (b ∷ bs) h = by (is_ascii_digit b) refl (shifted (n * 10 + (b - 48)) v bs)
  where
    by : (d : Bool) → is_ascii_digit b ≡ d
        → (value_after (n * 10 + (b - 48)) bs ≡ Some v → (v ≡ (n * 10 + (b - 48)) * 10 ^ length bs + decimal bs) × (list_all is_ascii_digit bs ≡ true))
        → (v ≡ n * 10 ^ length (b ∷ bs) + decimal (b ∷ bs)) × (list_all is_ascii_digit (b ∷ bs) ≡ true)
    by true e more =
        let (value, digits) = more (rw e at h) in
        (rw (value, pow-succ' 10 (length bs)) (omega arith), rw e digits)
    by false e more = let no = rw e at h in cc

-- what a field writes
pub number-law : (f : List ℕ) (n : ℕ) → number_of f ≡ Some n → IsNumber f n
unfolding number_of
number-law f n h = by ((length f == 0) || nat_lt 20 (length f)) (value_after 0 f) refl refl
  where
    by : (b : Bool) (o : Option ℕ) → ((length f == 0) || nat_lt 20 (length f)) ≡ b → value_after 0 f ≡ o → IsNumber f n
    by true o e g = let no = rw e at h in cc
    by false None e g = let no = rw (e, g) at h in cc
    by false (Some v) e g = fit (nat_lt v (2 ^ 64)) refl
      where
        fit : (c : Bool) → nat_lt v (2 ^ 64) ≡ c → IsNumber f n
        fit true i =
            let k : Some v ≡ Some n = rw (e, g, i) at h in
            let same : v ≡ n = cc in
            let (value, digits) = shifted 0 v f g in
            record { some = grind (arith, common_steps); few = grind (arith, common_steps); digits = AllPass-from_list_all is_ascii_digit f digits; value = sym same ∙ value ∙ grind (arith, common_steps); fits = grind (arith, common_steps) }
        fit false i = let no = rw (e, g, i) at h in cc

-- no record, and no row
pub none-written : (version : Version) (edges : ℕ) → WriteRows version edges [] []
unfolding WriteRows
none-written version edges = tt

-- one more record, and its row
pub write-more : (version : Version) (edges : ℕ) (rs : List (List (List ℕ))) (ws : List Row) (r : List (List ℕ)) (w : Row) → WriteRows version edges rs ws → WritesRow version edges r w
    → WriteRows version edges (rs ++ r ∷ []) (ws ++ w ∷ [])
unfolding WriteRows
write-more version edges [] [] r w h k = (k, tt)
write-more version edges [] (x ∷ ws) r w h k = absurd h
write-more version edges (q ∷ rs) [] r w h k = absurd h
write-more version edges (q ∷ rs) (x ∷ ws) r w h k = (h.0, write-more version edges rs ws r w h.1 k)

-- digits that all are digits have a value
pub valued : (n : ℕ) (f : List ℕ) → list_all is_ascii_digit f ≡ true → value_after n f ≡ Some (n * 10 ^ length f + decimal f)
unfolding value_after decimal
valued n [] h = grind (arith, common_steps)
valued n (b ∷ bs) h = by (is_ascii_digit b) refl (valued (n * 10 + (b - 48)) bs)
  where
    by : (d : Bool) → is_ascii_digit b ≡ d
        → (list_all is_ascii_digit bs ≡ true → value_after (n * 10 + (b - 48)) bs ≡ Some ((n * 10 + (b - 48)) * 10 ^ length bs + decimal bs))
        → value_after n (b ∷ bs) ≡ Some (n * 10 ^ length (b ∷ bs) + decimal (b ∷ bs))
    by true e more =
        let same : (n * 10 + (b - 48)) * 10 ^ length bs + decimal bs ≡ n * 10 ^ length (b ∷ bs) + decimal (b ∷ bs) = rw (pow-succ' 10 (length bs)) (omega arith) in
        rw e (more (rw e at h) ∙ ap (λ (m : ℕ). Some m) same)
    by false e more = let no = rw e at h in cc

-- a field that writes a number is read as it
pub number-complete : (f : List ℕ) (n : ℕ) → IsNumber f n → number_of f ≡ Some n
number-complete f n h =
    let value : value_after 0 f ≡ Some n = valued 0 f (list_all-from_AllPass is_ascii_digit f h.digits) ∙ ap (λ (m : ℕ). Some m) (grind (arith, common_steps, h.value)) in
    is-number f n (grind (arith, common_steps, h.some)) h.few h.fits value

-- a column that writes a number is read as it
pub column-complete : (row column n : ℕ) (fields : List (List ℕ)) → Writes fields column n → column_of row column fields ≡ Ok n
unfolding column_of
column-complete row column n fields h = by (field_at fields column) refl h
  where
    by : (o : Option (List ℕ)) → field_at fields column ≡ o → IsSomeAnd o (λ f. IsNumber f n) → column_of row column fields ≡ Ok n
    by None e k = absurd k
    by (Some f) e k = rw (e, number-complete f n k) refl

-- whether the field at a column is this text
text-told : (fields : List (List ℕ)) (column : ℕ) (text : List ℕ) → Decides (is_text_at column text fields) (field_at fields column ≡ Some text)
unfolding is_text_at
text-told fields column text = by (field_at fields column) refl
  where
    by : (o : Option (List ℕ)) → field_at fields column ≡ o → Decides (is_text text o) (o ≡ Some text)
    by None e = (λ h. cc, λ h. cc)
    by (Some f) e =
        let told = slice_eq-Decides Decides-eqb f text (is_text text (Some f)) refl in
        (λ h. ap (λ (x : List ℕ). Some x) (told.0 h), λ h. told.1 (cc))

-- a record that writes a kind has it
pub kind-complete : (version : Version) (fields : List (List ℕ)) (k : Kind) → WritesKind version fields k → kind_at version fields ≡ Some k
unfolding kind_at
kind-complete First fields k h = rw h refl
kind-complete Second fields Get h = rw ((text-told fields 4 (word_of Get)).1 h) refl
kind-complete Second fields Purge h = by (is_text_at 4 (word_of Get) fields) refl
  where
    by : (b : Bool) → is_text_at 4 (word_of Get) fields ≡ b → kind_at Second fields ≡ Some Purge
    by true e = let no : Some (word_of Purge) ≡ Some (word_of Get) = sym h ∙ (text-told fields 4 (word_of Get)).0 e in cc
    by false e = rw (e, (text-told fields 4 (word_of Purge)).1 h) refl

-- the kind that a record has is the one that it writes
pub kind-law : (version : Version) (fields : List (List ℕ)) (k : Kind) → kind_at version fields ≡ Some k → WritesKind version fields k
unfolding kind_at
kind-law First fields k h = cc
kind-law Second fields k h = by (is_text_at 4 (word_of Get) fields) (is_text_at 4 (word_of Purge) fields) refl refl
  where
    by : (a b : Bool) → is_text_at 4 (word_of Get) fields ≡ a → is_text_at 4 (word_of Purge) fields ≡ b → WritesKind Second fields k
    by true b e f = let same : Get ≡ k = (let g = rw e at h in cc) in subst (λ x. field_at fields 4 ≡ Some (word_of x)) same ((text-told fields 4 (word_of Get)).0 e)
    by false true e f = let same : Purge ≡ k = (let g = rw (e, f) at h in cc) in subst (λ x. field_at fields 4 ≡ Some (word_of x)) same ((text-told fields 4 (word_of Purge)).0 f)
    by false false e f = let no = rw (e, f) at h in cc

-- a record that has no kind writes none
pub kind-lacks : (version : Version) (fields : List (List ℕ)) → kind_at version fields ≡ None → LacksKind version fields
kind-lacks version fields h k w = let both = sym (kind-complete version fields k w) ∙ h in cc

-- a record that writes a row is read as it
pub row-complete : (version : Version) (edges n : ℕ) (fields : List (List ℕ)) (row : Row) → WritesRow version edges fields row → row_of version edges n fields ≡ Ok row
unfolding row_of
row-complete version edges n fields row h =
    let width : (length fields == width_of version) ≡ true = eq-eqb (length fields) (width_of version) h.width in
    let t = column-complete n 0 row.time fields h.time in
    let e = column-complete n 1 row.edge fields h.edge in
    let o = column-complete n 2 row.object fields h.object in
    let s = column-complete n 3 row.size fields h.size in
    let early : nat_le row.time latest_time ≡ true = grind (arith, common_steps, h.time_within) in
    let known : nat_lt row.edge edges ≡ true = grind (arith, common_steps, h.edge_within) in
    let some : nat_le 1 row.size ≡ true = grind (arith, common_steps, h.size_above) in
    let small : nat_le row.size greatest_size ≡ true = grind (arith, common_steps, h.size_within) in
    let k = kind-complete version fields row.kind h.kind in
    rw (width, t, early, e, known, o, s, some, small, k) refl

-- records that write rows are read as them
pub rows-complete : (version : Version) (edges most n : ℕ) (rs : List (List (List ℕ))) (ws : List Row) → WriteRows version edges rs ws → n + length ws ≤ most → rows_of version edges most n rs ≡ Ok ws
unfolding WriteRows rows_of
rows-complete version edges most n [] [] h k = refl
rows-complete version edges most n [] (w ∷ ws) h k = absurd h
rows-complete version edges most n (r ∷ rs) [] h k = absurd h
rows-complete version edges most n (r ∷ rs) (w ∷ ws) h k =
    let other : (n == most) ≡ false = grind (arith, common_steps) in
    rw (other, row-complete version edges n r w h.0, rows-complete version edges most (n + 1) rs ws h.1 (omega arith)) refl

-- a trace is read as its rows
pub trace-complete : (edges most : ℕ) (recs : List (List (List ℕ))) (rows : List Row) → IsTrace edges most recs rows → trace_of edges most recs ≡ Ok rows
unfolding trace_of
trace-complete edges most recs rows h = rw (h.parts, h.headed) (rows-complete h.version edges most 0 h.body rows h.written (omega (arith, h.few)))

-- what is refused is no trace
pub no_trace : (edges most : ℕ) (recs : List (List (List ℕ))) (e : TraceFault) → trace_of edges most recs ≡ Err e → (rows : List Row) → ¬ (IsTrace edges most recs rows)
no_trace edges most recs e h rows t = let both = sym (trace-complete edges most recs rows t) ∙ h in cc

-- the fault of a column that is refused
named : (row column : ℕ) (fields : List (List ℕ)) (e : TraceFault) → column_of row column fields ≡ Err e → e ≡ fault.Number row column
unfolding column_of
named row column fields e h = by (number_in (field_at fields column)) refl
  where
    by : (o : Option ℕ) → number_in (field_at fields column) ≡ o → e ≡ fault.Number row column
    by None k = let same = rw k at h in cc
    by (Some n) k = let same = rw k at h in cc

-- what a column that is refused tells
pub column-told : (row column : ℕ) (fields : List (List ℕ)) (r : Result ℕ TraceFault) → r ≡ column_of row column fields
    → IfErr r (λ e. (e ≡ fault.Number row column) × Lacks fields column)
column-told row column fields (Ok n) h = tt
column-told row column fields (Err e) h =
    (named row column fields e (sym h), λ n w. let both = sym (column-complete row column n fields w) ∙ sym h in cc)

-- a number that a column writes fits 64 bits
fits-written : (o : Option (List ℕ)) (n : ℕ) → IsSomeAnd o (λ f. IsNumber f n) → n < 2 ^ 64
fits-written None n h = absurd h
fits-written (Some f) n h = h.fits

-- rows that are written are in their ranges
pub row-in_range : (version : Version) (edges : ℕ) (fields : List (List ℕ)) (row : Row) → WritesRow version edges fields row → IsRow edges row
row-in_range version edges fields row h =
    record { time = h.time_within; edge = h.edge_within; object = fits-written (field_at fields 2) row.object h.object; some = h.size_above; few = h.size_within }

pub rows-in_range : (version : Version) (edges : ℕ) (recs : List (List (List ℕ))) (rows : List Row) → WriteRows version edges recs rows → All (IsRow edges) rows
unfolding WriteRows
rows-in_range version edges [] [] h = All-nil (IsRow edges)
rows-in_range version edges [] (w ∷ ws) h = absurd h
rows-in_range version edges (r ∷ rs) [] h = absurd h
rows-in_range version edges (r ∷ rs) (w ∷ ws) h =
    All-cons (IsRow edges) w ws (row-in_range version edges r w h.0) (rows-in_range version edges rs ws h.1)

-- a column that writes no number is refused
column-lacks : (row column : ℕ) (fields : List (List ℕ)) → Lacks fields column → column_of row column fields ≡ Err (fault.Number row column)
unfolding column_of
column-lacks row column fields h = by (field_at fields column) refl h
  where
    by : (o : Option (List ℕ)) → field_at fields column ≡ o → ((n : ℕ) → ¬ (IsSomeAnd o (λ f. IsNumber f n))) → column_of row column fields ≡ Err (fault.Number row column)
    by None e k = rw e refl
    by (Some f) e k = read (number_of f) refl
      where
        read : (m : Option ℕ) → number_of f ≡ m → column_of row column fields ≡ Err (fault.Number row column)
        read None g = rw (e, g) refl
        read (Some n) g = absurd (k n (number-law f n g))

-- a record that writes no kind has none
kind-none : (version : Version) (fields : List (List ℕ)) → LacksKind version fields → kind_at version fields ≡ None
kind-none version fields h = by (kind_at version fields) refl
  where
    by : (o : Option Kind) → kind_at version fields ≡ o → kind_at version fields ≡ None
    by None e = e
    by (Some k) e = absurd (h k (kind-law version fields k e))

le-yes : (a b : ℕ) → a ≤ b → nat_le a b ≡ true
le-yes a b h = grind (arith, common_steps)

le-no : (a b : ℕ) → b < a → nat_le a b ≡ false
le-no a b h = grind (arith, common_steps)

lt-yes : (a b : ℕ) → a < b → nat_lt a b ≡ true
lt-yes a b h = grind (arith, common_steps)

lt-no : (a b : ℕ) → b ≤ a → nat_lt a b ≡ false
lt-no a b h = grind (arith, common_steps)

-- a size in its range, and one that is not
size-yes : (n : ℕ) → 1 ≤ n → n ≤ greatest_size → (nat_le 1 n && nat_le n greatest_size) ≡ true
size-yes n some few = rw (le-yes 1 n some, le-yes n greatest_size few) refl

size-no : (n : ℕ) → (n ≡ 0) ⊎ (greatest_size < n) → (nat_le 1 n && nat_le n greatest_size) ≡ false
size-no n h = elim h [
  | inl none ↦ rw (le-no 1 n (omega arith)) refl
  | inr more ↦ by (nat_le 1 n) (le-no n greatest_size more)
]
  where
    by : (b : Bool) → nat_le n greatest_size ≡ false → (b && nat_le n greatest_size) ≡ false
    by true e = e
    by false e = refl

-- what is wrong in a record is what it is refused for
pub wrong-complete : (version : Version) (edges n : ℕ) (fields : List (List ℕ)) (e : TraceFault) → IsWrong version edges n fields e → row_of version edges n fields ≡ Err e
unfolding row_of
wrong-complete version edges n fields (fault.RowLength k) h =
    let other : (length fields == width_of version) ≡ false = grind (arith, common_steps, h.1) in
    rw (other, h.0) refl
wrong-complete version edges n fields (fault.Number k zero) h =
    let (at, wide, below, good, lacks) = h in
    rw (eq-eqb (length fields) (width_of version) wide, column-lacks n 0 fields lacks, at) refl
wrong-complete version edges n fields (fault.Number k (suc zero)) h =
    let (at, wide, below, good, lacks) = h in
    let (t, writes_t, early) = good.1 in
    rw (eq-eqb (length fields) (width_of version) wide, column-complete n 0 t fields writes_t, le-yes t latest_time early, column-lacks n 1 fields lacks, at) refl
wrong-complete version edges n fields (fault.Number k (suc (suc zero))) h =
    let (at, wide, below, good, lacks) = h in
    let (t, writes_t, early) = good.0.1 in
    let (d, writes_d, known) = good.1 in
    rw (eq-eqb (length fields) (width_of version) wide, column-complete n 0 t fields writes_t, le-yes t latest_time early, column-complete n 1 d fields writes_d, lt-yes d edges known, column-lacks n 2 fields lacks, at) refl
wrong-complete version edges n fields (fault.Number k (suc (suc (suc zero)))) h =
    let (at, wide, below, good, lacks) = h in
    let (t, writes_t, early) = good.0.0.1 in
    let (d, writes_d, known) = good.0.1 in
    let (o, writes_o) = good.1 in
    rw (eq-eqb (length fields) (width_of version) wide, column-complete n 0 t fields writes_t, le-yes t latest_time early, column-complete n 1 d fields writes_d, lt-yes d edges known, column-complete n 2 o fields writes_o, column-lacks n 3 fields lacks, at) refl
wrong-complete version edges n fields (fault.Number k (suc (suc (suc (suc c))))) h = absurd (omega (arith, h.2))
wrong-complete version edges n fields (fault.TimeRange k) h =
    let (at, wide, found) = h in
    let (t, writes_t, late) = found in
    rw (eq-eqb (length fields) (width_of version) wide, column-complete n 0 t fields writes_t, le-no t latest_time late, at) refl
wrong-complete version edges n fields (fault.EdgeRange k) h =
    let (at, wide, good, found) = h in
    let (d, writes_d, unknown) = found in
    let (t, writes_t, early) = good.1 in
    rw (eq-eqb (length fields) (width_of version) wide, column-complete n 0 t fields writes_t, le-yes t latest_time early, column-complete n 1 d fields writes_d, lt-no d edges unknown, at) refl
wrong-complete version edges n fields (fault.SizeRange k) h =
    let (at, wide, good, found) = h in
    let (s, writes_s, other) = found in
    let (t, writes_t, early) = good.0.0.1 in
    let (d, writes_d, known) = good.0.1 in
    let (o, writes_o) = good.1 in
    rw (eq-eqb (length fields) (width_of version) wide, column-complete n 0 t fields writes_t, le-yes t latest_time early, column-complete n 1 d fields writes_d, lt-yes d edges known, column-complete n 2 o fields writes_o, column-complete n 3 s fields writes_s, size-no s other, at) refl
wrong-complete version edges n fields (fault.Kind k) h =
    let (at, wide, good, lacks) = h in
    let (t, writes_t, early) = good.0.0.0.1 in
    let (d, writes_d, known) = good.0.0.1 in
    let (o, writes_o) = good.0.1 in
    let (s, writes_s, some, few) = good.1 in
    rw (eq-eqb (length fields) (width_of version) wide, column-complete n 0 t fields writes_t, le-yes t latest_time early, column-complete n 1 d fields writes_d, lt-yes d edges known, column-complete n 2 o fields writes_o, column-complete n 3 s fields writes_s, size-yes s some few, kind-none version fields lacks, at) refl
wrong-complete version edges n fields fault.Header h = absurd h
wrong-complete version edges n fields fault.TooManyRows h = absurd h
wrong-complete version edges n fields fault.Memory h = absurd h
wrong-complete version edges n fields (fault.Order k) h = absurd h

-- good rows, and then one that is wrong or one too many, are refused for it
rows-wrong : (version : Version) (edges most n m : ℕ) (good : List (List (List ℕ))) (ws : List Row) (bad : List (List ℕ)) (rest : List (List (List ℕ))) (e : TraceFault)
    → m ≡ n + length ws → WriteRows version edges good ws → ((m < most) × IsWrong version edges m bad e) ⊎ ((m ≡ most) × (e ≡ fault.TooManyRows))
    → rows_of version edges most n (good ++ bad ∷ rest) ≡ Err e
unfolding WriteRows rows_of
rows-wrong version edges most n m [] [] bad rest e is h told = elim told [
  | inl wrong ↦
      let same : m ≡ n = omega arith in
      let other : (n == most) ≡ false = grind (arith, common_steps, wrong.0) in
      rw (other, wrong-complete version edges n bad e (subst (λ k. IsWrong version edges k bad e) same wrong.1)) refl
  | inr many ↦
      let all : (n == most) ≡ true = eq-eqb n most (omega arith) in
      rw (all, many.1) refl
]
rows-wrong version edges most n m [] (w ∷ ws) bad rest e is h told = absurd h
rows-wrong version edges most n m (r ∷ rs) [] bad rest e is h told = absurd h
rows-wrong version edges most n m (r ∷ rs) (w ∷ ws) bad rest e is h told =
    let few : m ≤ most = elim told [ inl wrong ↦ omega arith | inr many ↦ omega arith ] in
    let other : (n == most) ≡ false = grind (arith, common_steps) in
    rw (other, row-complete version edges n r w h.0, rows-wrong version edges most (n + 1) m rs ws bad rest e (omega arith) h.1 told) refl

-- the first fault behind the header is what the rows are refused for
pub fault-complete : (version : Version) (edges most : ℕ) (recs : List (List (List ℕ))) (e : TraceFault) → IsFirstFault version edges most recs e → rows_of version edges most 0 recs ≡ Err e
fault-complete version edges most recs e h = rw h.parts (rows-wrong version edges most 0 (length h.rows) h.good h.rows h.bad h.rest e (omega arith) h.written h.told)

-- why a trace is refused is its fault
pub trace-fault : (edges most : ℕ) (recs : List (List (List ℕ))) (e : TraceFault) → IsFaultOf edges most recs e → trace_of edges most recs ≡ Err e
unfolding trace_of
trace-fault edges most [] e h = rw h refl
trace-fault edges most (r ∷ body) e h = by (version_of r) refl h
  where
    by : (o : Option Version) → version_of r ≡ o → MatchOption o (e ≡ fault.Header) (λ version. IsFirstFault version edges most body e) → trace_of edges most (r ∷ body) ≡ Err e
    by None is k = rw (is, k) refl
    by (Some version) is k = rw is (fault-complete version edges most body e k)

-- records without a header are refused for that
pub header-fault : (edges most : ℕ) (recs : List (List (List ℕ))) (e : TraceFault) → LacksHeader recs → e ≡ fault.Header → IsFaultOf edges most recs e
header-fault edges most [] e h is = is
header-fault edges most (r ∷ body) e h is = rw h is

-- the rows behind a header are a trace
pub headed-trace : (version : Version) (edges most : ℕ) (recs rs : List (List (List ℕ))) (h : List (List ℕ)) (rows : List Row) → recs ≡ h ∷ rs → version_of h ≡ Some version
    → WriteRows version edges rs rows × (length rows ≤ most) → IsTrace edges most recs rows
headed-trace version edges most recs rs h rows parts headed law = record { head = h; body = rs; parts = parts; version = version; headed = headed; written = law.0; few = law.1 }

-- the first fault behind a header is why the trace is refused
pub headed-fault : (version : Version) (edges most : ℕ) (recs rs : List (List (List ℕ))) (h : List (List ℕ)) (e : TraceFault) → recs ≡ h ∷ rs → version_of h ≡ Some version
    → IsFirstFault version edges most rs e → IsFaultOf edges most recs e
headed-fault version edges most recs rs h e parts headed first = rw (parts, headed) first
