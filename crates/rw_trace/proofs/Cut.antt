-- A text that is cut behind a line is read in two parts.
use Rattle.std.proofs.Common.{Global, Vec, ◌≡◌, ◌≢◌, ◌<◌, ◌≤◌, ◌+◌, ◌⊎◌, inl, inr, ℕ, zero, suc, List, [], ◌∷◌, ◌++◌, length, Bool, true, false, Option, Some, None, refl, sym, ap, ◌∙◌, arith, subst, length-append, All}
use Rattle.std.specs.Prelude.{◌-◌, ◌==◌, ⊤, slice_get, IfSome, IsSomeAnd}
use Rattle.std.proofs.lemmas.Grind.{common_steps}
use Rattle.std.proofs.lemmas.List.Elements.{All-head, All-tail}
use Rattle.csv.specs.Machine.{Read, in_field, next_record, step}
use Rattle.csv.specs.Reading.{default_config, is_bom, strip_bom}
use Rattle.csv.specs.declared.parser.Action.TheVariants as act
use Rattle.csv.specs.declared.parser.State.{State}
use Rattle.csv.specs.declared.parser.State.TheVariants as st
use Rattle.rw_trace.proofs.Records.{left-more, left-none}
use Rattle.rw_trace.proofs.Laws.{rows-in_range}
use Rattle.rw_trace.specs.Laws.{IsRow, IsTrace, WriteRows}
use Rattle.rw_trace.specs.Cut.{AreRowsUnder, IsCut}
use Rattle.rw_trace.specs.Limits.{most_rows}
use Rattle.rw_trace.specs.Trace.{version_of}
use Rattle.rw_trace.specs.Unread.{records_left, records_of}
use Rattle.rw_trace.specs.declared.Row.{Row}
use Rattle.rw_trace.specs.declared.Version.{Version}

-- the last byte is a line feed, where there is one
abbrev closed : List ℕ → Type 0
closed [] = ⊤
closed (c ∷ []) = c ≡ 10
closed (c ∷ d ∷ r) = closed (d ∷ r)

closed-tail : (c : ℕ) (rest : List ℕ) → closed (c ∷ rest) → closed rest
closed-tail c [] h = tt
closed-tail c (d ∷ r) h = h

-- where the first byte is no line feed, there is another one
some-more : (c : ℕ) (rest : List ℕ) → closed (c ∷ rest) → c ≢ 10 → rest ≢ []
some-more c [] h other none = other h
some-more c (d ∷ r) h other none = cc

-- no byte is a quote
abbrev Plain : List ℕ → Type 0
Plain = All (λ c. c ≢ 34)

plain-head : (c : ℕ) (rest : List ℕ) → Plain (c ∷ rest) → c ≢ 34
plain-head c rest h = All-head (λ c. c ≢ 34) c rest h

plain-tail : (c : ℕ) (rest : List ℕ) → Plain (c ∷ rest) → Plain rest
plain-tail c rest h = All-tail (λ c. c ≢ 34) c rest h

-- a record may begin here
record Fine (s : State) (xs : List ℕ) : Type 0 where
  pub start : (s ≡ st.StartRecord) ⊎ ((s ≡ st.AfterCr) × (xs ≢ []))
  pub ends : closed xs
  pub plain : Plain xs

-- a record ends in the first text, and so it does where another one follows
record Ends (s : State) (fields : List (List ℕ)) (field a b : List ℕ) : Type 0 where
  pub p : Read
  pub one : next_record default_config s fields field a ≡ Some p
  pub two : next_record default_config s fields field (a ++ b) ≡ Some (p.0, p.1, p.2 ++ b)
  pub fine : Fine p.1 p.2
  pub less : length p.2 < length a

-- a byte that is no quote is taken as one in a field
abbrev Bare : State → Type 0
Bare s = (c : ℕ) → c ≢ 34 → step default_config s c ≡ in_field default_config c

bare-start : Bare st.StartField
bare-start c other = let no : (c == 34) ≡ false = grind (arith, common_steps) in rw no refl

bare-in : Bare st.InField
bare-in c other = refl

inside : (s : State) → Bare s → (fields : List (List ℕ)) (field a b : List ℕ) → a ≢ [] → closed a → Plain a → Ends s fields field a b
unfolding next_record
inside s bare fields field [] b some ends plain = absurd (some refl)
inside s bare fields field (c ∷ rest) b some ends plain =
    by (c == 44) (c == 13) (c == 10) refl refl refl (λ t there fields field more. inside t there fields field rest b more (closed-tail c rest ends) (plain-tail c rest plain))
  where
    is-in : step default_config s c ≡ in_field default_config c
    is-in = bare c (plain-head c rest plain)

    by : (d r l : Bool) → (c == 44) ≡ d → (c == 13) ≡ r → (c == 10) ≡ l
        → ((t : State) → Bare t → (fields : List (List ℕ)) (field : List ℕ) → rest ≢ [] → Ends t fields field rest b)
        → Ends s fields field (c ∷ rest) b
    by true r l is-d is-r is-l more =
        let is : step default_config s c ≡ (st.StartField, act.EndField) = is-in ∙ rw is-d refl in
        let other : c ≢ 10 = grind (arith, common_steps) in
        let m = more st.StartField bare-start (fields ++ field ∷ []) [] (some-more c rest ends other) in
        record { p = m.p; one = rw is m.one; two = rw is m.two; fine = m.fine; less = let l = m.less in omega (arith, l) }
    by false true l is-d is-r is-l more =
        let is : step default_config s c ≡ (st.AfterCr, act.EndRecord) = is-in ∙ rw (is-d, is-r) refl in
        let other : c ≢ 10 = grind (arith, common_steps) in
        record {
          p = (fields ++ field ∷ [], st.AfterCr, rest);
          one = rw is refl;
          two = rw is refl;
          fine = record { start = inr (refl, some-more c rest ends other); ends = closed-tail c rest ends; plain = plain-tail c rest plain };
          less = omega arith;
        }
    by false false true is-d is-r is-l more =
        let is : step default_config s c ≡ (st.StartRecord, act.EndRecord) = is-in ∙ rw (is-d, is-r, is-l) refl in
        record {
          p = (fields ++ field ∷ [], st.StartRecord, rest);
          one = rw is refl;
          two = rw is refl;
          fine = record { start = inl refl; ends = closed-tail c rest ends; plain = plain-tail c rest plain };
          less = omega arith;
        }
    by false false false is-d is-r is-l more =
        let is : step default_config s c ≡ (st.InField, act.Copy) = is-in ∙ rw (is-d, is-r, is-l) refl in
        let other : c ≢ 10 = grind (arith, common_steps) in
        let m = more st.InField bare-in fields (field ++ c ∷ []) (some-more c rest ends other) in
        record { p = m.p; one = rw is m.one; two = rw is m.two; fine = m.fine; less = let l = m.less in omega (arith, l) }

-- a record ends in the first text, or there is none in it, and the next one is in the other
abbrev Begins : State → List ℕ → List ℕ → Type 0
Begins s a b =
    Ends s [] [] a b
    ⊎ ((next_record default_config s [] [] a ≡ None) × (next_record default_config s [] [] (a ++ b) ≡ next_record default_config st.StartRecord [] [] b))

at-start : (a b : List ℕ) → closed a → Plain a → Begins st.StartRecord a b
unfolding next_record
at-start [] b ends plain = inr (refl, refl)
at-start (c ∷ rest) b ends plain = by (c == 44) (c == 13) (c == 10) refl refl refl (at-start rest b (closed-tail c rest ends) (plain-tail c rest plain))
  where
    bare : (c == 34) ≡ false
    bare = let other = plain-head c rest plain in grind (arith, common_steps)

    skip : step default_config st.StartRecord c ≡ (st.StartRecord, act.Skip) → Begins st.StartRecord rest b → Begins st.StartRecord (c ∷ rest) b
    skip is more = elim more [
      | inl m ↦ inl (record { p = m.p; one = rw is m.one; two = rw is m.two; fine = m.fine; less = let l = m.less in omega (arith, l) })
      | inr m ↦ inr (rw is m.0, rw is m.1)
    ]

    by : (d r l : Bool) → (c == 44) ≡ d → (c == 13) ≡ r → (c == 10) ≡ l → Begins st.StartRecord rest b → Begins st.StartRecord (c ∷ rest) b
    by d true l is-d is-r is-l more = skip (rw is-r refl) more
    by d false true is-d is-r is-l more = skip (rw (is-r, is-l) refl) more
    by true false false is-d is-r is-l more =
        let is : step default_config st.StartRecord c ≡ (st.StartField, act.EndField) = rw (is-r, is-l, bare, is-d) refl in
        let other : c ≢ 10 = grind (arith, common_steps) in
        let m = inside st.StartField bare-start ([] ∷ []) [] rest b (some-more c rest ends other) (closed-tail c rest ends) (plain-tail c rest plain) in
        inl (record { p = m.p; one = rw is m.one; two = rw is m.two; fine = m.fine; less = let l = m.less in omega (arith, l) })
    by false false false is-d is-r is-l more =
        let is : step default_config st.StartRecord c ≡ (st.InField, act.Copy) = rw (is-r, is-l, bare, is-d) refl in
        let other : c ≢ 10 = grind (arith, common_steps) in
        let m = inside st.InField bare-in [] (c ∷ []) rest b (some-more c rest ends other) (closed-tail c rest ends) (plain-tail c rest plain) in
        inl (record { p = m.p; one = rw is m.one; two = rw is m.two; fine = m.fine; less = let l = m.less in omega (arith, l) })

after-cr : (a b : List ℕ) → a ≢ [] → closed a → Plain a → Begins st.AfterCr a b
unfolding next_record
after-cr [] b some ends plain = absurd (some refl)
after-cr (c ∷ rest) b some ends plain = by (c == 10) refl
  where
    by : (l : Bool) → (c == 10) ≡ l → Begins st.AfterCr (c ∷ rest) b
    by true is-l =
        let is : step default_config st.AfterCr c ≡ (st.StartRecord, act.Skip) = rw is-l refl in
        elim (at-start rest b (closed-tail c rest ends) (plain-tail c rest plain)) [
          | inl m ↦ inl (record { p = m.p; one = rw is m.one; two = rw is m.two; fine = m.fine; less = let l = m.less in omega (arith, l) })
          | inr m ↦ inr (rw is m.0, rw is m.1)
        ]
    by false is-l =
        let is : step default_config st.AfterCr c ≡ step default_config st.StartRecord c = rw is-l refl in
        elim (at-start (c ∷ rest) b ends plain) [
          | inl m ↦ inl (record { p = m.p; one = rw is m.one; two = rw is m.two; fine = m.fine; less = m.less })
          | inr m ↦ inr (rw is m.0, rw is m.1)
        ]

begins : (s : State) (a b : List ℕ) → Fine s a → Begins s a b
begins s a b fine = elim fine.start [
  | inl is ↦ subst (λ s. Begins s a b) (sym is) (at-start a b fine.ends fine.plain)
  | inr is ↦ subst (λ s. Begins s a b) (sym is.0) (after-cr a b is.1 fine.ends fine.plain)
]

-- the records of both texts
all : (n : ℕ) (s : State) (a b : List ℕ) → length a < n → Fine s a
    → records_left default_config s (Some (a ++ b)) ≡ records_left default_config s (Some a) ++ records_left default_config st.StartRecord (Some b)
all zero s a b short fine = absurd (omega arith)
all (suc n) s a b short fine = elim (begins s a b fine) [
  | inl m ↦
      let less = m.less in
      left-more default_config s (a ++ b) (m.p.0, m.p.1, m.p.2 ++ b) m.two
      ∙ ap (λ (rs : List (List (List ℕ))). m.p.0 ∷ rs) (all n m.p.1 m.p.2 b (omega (arith, less)) m.fine)
      ∙ ap (λ (rs : List (List (List ℕ))). rs ++ records_left default_config st.StartRecord (Some b)) (sym (left-more default_config s a m.p m.one))
  | inr m ↦ by (next_record default_config st.StartRecord [] [] b) refl m.0 m.1
]
  where
    by : (o : Option Read) → next_record default_config st.StartRecord [] [] b ≡ o → next_record default_config s [] [] a ≡ None
        → next_record default_config s [] [] (a ++ b) ≡ next_record default_config st.StartRecord [] [] b
        → records_left default_config s (Some (a ++ b)) ≡ records_left default_config s (Some a) ++ records_left default_config st.StartRecord (Some b)
    by None is none same =
        left-none default_config s (a ++ b) (same ∙ is)
        ∙ sym (ap (λ (rs : List (List (List ℕ))). rs ++ records_left default_config st.StartRecord (Some b)) (left-none default_config s a none) ∙ left-none default_config st.StartRecord b is)
    by (Some p) is none same =
        left-more default_config s (a ++ b) p (same ∙ is)
        ∙ sym (ap (λ (rs : List (List (List ℕ))). rs ++ records_left default_config st.StartRecord (Some b)) (left-none default_config s a none) ∙ left-more default_config st.StartRecord b p is)

-- a text with a byte order mark in front of its lines, or none
stripped : (a b : List ℕ) → 3 ≤ length a → strip_bom (a ++ b) ≡ strip_bom a ++ b
unfolding strip_bom
stripped [] b long = absurd (omega arith)
stripped (x ∷ []) b long = absurd (omega arith)
stripped (x ∷ y ∷ []) b long = absurd (omega arith)
stripped (x ∷ y ∷ z ∷ r) b long = by (is_bom x y z) refl
  where
    by : (m : Bool) → is_bom x y z ≡ m → strip_bom ((x ∷ y ∷ z ∷ r) ++ b) ≡ strip_bom (x ∷ y ∷ z ∷ r) ++ b
    by true is = rw is refl
    by false is = rw is refl

fine-stripped : (a : List ℕ) → closed a → Plain a → Fine st.StartRecord (strip_bom a)
unfolding strip_bom
fine-stripped [] ends plain = record { start = inl refl; ends = ends; plain = plain }
fine-stripped (x ∷ []) ends plain = record { start = inl refl; ends = ends; plain = plain }
fine-stripped (x ∷ y ∷ []) ends plain = record { start = inl refl; ends = ends; plain = plain }
fine-stripped (x ∷ y ∷ z ∷ r) ends plain = by (is_bom x y z) refl
  where
    by : (m : Bool) → is_bom x y z ≡ m → Fine st.StartRecord (strip_bom (x ∷ y ∷ z ∷ r))
    by true is = rw is (record { start = inl refl; ends = closed-tail z r ends; plain = plain-tail z r (plain-tail y (z ∷ r) (plain-tail x (y ∷ z ∷ r) plain)) })
    by false is = rw is (record { start = inl refl; ends = ends; plain = plain })

pub unmarked : (b : List ℕ) → slice_get b 0 ≢ Some 0xEF → strip_bom b ≡ b
unfolding strip_bom
unmarked [] other = refl
unmarked (x ∷ []) other = refl
unmarked (x ∷ y ∷ []) other = refl
unmarked (x ∷ y ∷ z ∷ r) other = by (is_bom x y z) refl
  where
    by : (m : Bool) → is_bom x y z ≡ m → strip_bom (x ∷ y ∷ z ∷ r) ≡ x ∷ y ∷ z ∷ r
    by true is = let same : x ≡ 0xEF = grind (arith, common_steps) in absurd (other (ap (λ n. Some n) same))
    by false is = rw is refl

-- whose last byte is a line feed is closed
closed-by-last : (a : List ℕ) → slice_get a (length a - 1) ≡ Some 10 → closed a
closed-by-last [] last = tt
closed-by-last (c ∷ []) last = cc
closed-by-last (c ∷ d ∷ r) last =
    let whole : suc (suc (length r)) - 1 ≡ suc (length r) = omega arith in
    let short : suc (length r) - 1 ≡ length r = omega arith in
    closed-by-last (d ∷ r) (rw short (rw whole at last))

-- the records of a text that is cut behind a line
pub records_cut : (a b : List ℕ) → IsCut a b → records_of (a ++ b) ≡ records_of a ++ records_of b
records_cut a b cut =
    let ends = closed-by-last a cut.line in
    let both = all (length (strip_bom a) + 1) st.StartRecord (strip_bom a) b (omega arith) (fine-stripped a ends cut.plain) in
    ap (λ xs. records_left default_config st.StartRecord (Some xs)) (stripped a b cut.long)
    ∙ both
    ∙ ap (λ xs. records_of a ++ records_left default_config st.StartRecord (Some xs)) (sym (unmarked b cut.unmarked))

-- the rows of both parts
written-both : (version : Version) (edges : ℕ) (rs qs : List (List (List ℕ))) (ws vs : List Row) → WriteRows version edges rs ws → WriteRows version edges qs vs → WriteRows version edges (rs ++ qs) (ws ++ vs)
unfolding WriteRows
written-both version edges [] qs [] vs h k = k
written-both version edges [] qs (w ∷ ws) vs h k = absurd h
written-both version edges (r ∷ rs) qs [] vs h k = absurd h
written-both version edges (r ∷ rs) qs (w ∷ ws) vs h k = (h.0, written-both version edges rs qs ws vs h.1 k)

pub trace_cut : (edges most : ℕ) (a b : List ℕ) (first rest : List Row) → IsCut a b → IsTrace edges most (records_of a) first → AreRowsUnder edges (records_of a) (records_of b) rest → length first + length rest ≤ most
    → IsTrace edges most (records_of (a ++ b)) (first ++ rest)
trace_cut edges most a b first rest cut one more few =
    let heads : one.head ∷ one.body ≡ more.head ∷ more.body = sym one.parts ∙ more.parts in
    let head : one.head ≡ more.head = cc in
    let version : Some one.version ≡ Some more.version = sym one.headed ∙ ap version_of head ∙ more.is_header in
    let same : one.version ≡ more.version = cc in
    record {
      head = one.head;
      body = one.body ++ records_of b;
      parts = records_cut a b cut ∙ ap (λ rs. rs ++ records_of b) one.parts;
      version = one.version;
      headed = one.headed;
      written = written-both one.version edges one.body (records_of b) first rest one.written (subst (λ v. WriteRows v edges (records_of b) rest) (sym same) more.written);
      few = omega (arith, few, length-append first rest);
    }

pub under_cut : (edges : ℕ) (headed : List (List (List ℕ))) (a b : List ℕ) (first rest : List Row) → IsCut a b → AreRowsUnder edges headed (records_of a) first → AreRowsUnder edges headed (records_of b) rest
    → AreRowsUnder edges headed (records_of (a ++ b)) (first ++ rest)
under_cut edges headed a b first rest cut one more =
    let heads : one.head ∷ one.body ≡ more.head ∷ more.body = sym one.parts ∙ more.parts in
    let head : one.head ≡ more.head = cc in
    let version : Some one.version ≡ Some more.version = sym one.is_header ∙ ap version_of head ∙ more.is_header in
    let same : one.version ≡ more.version = cc in
    let both = written-both one.version edges (records_of a) (records_of b) first rest one.written (subst (λ v. WriteRows v edges (records_of b) rest) (sym same) more.written) in
    record {
      head = one.head;
      body = one.body;
      parts = one.parts;
      version = one.version;
      is_header = one.is_header;
      written = subst (λ rs. WriteRows one.version edges rs (first ++ rest)) (sym (records_cut a b cut)) both;
    }

pub in_ranges : (edges most : ℕ) (recs : List (List (List ℕ))) (rows : List Row) → IsTrace edges most recs rows → All (IsRow edges) rows
in_ranges edges most recs rows h = rows-in_range h.version edges h.body rows h.written

-- what is read of each part, together
pub trace-both : (edges : ℕ) (a b : List ℕ) (first rest : Option (Vec Row Global)) (both : Option (Vec Row Global × Vec Row Global)) → IsCut a b
    → IfSome first (λ v. IsTrace edges most_rows (records_of a) v.items) → IfSome rest (λ v. AreRowsUnder edges (records_of a) (records_of b) v.items)
    → IfSome both (λ r. first ≡ Some r.0) → IfSome both (λ r. rest ≡ Some r.1) → IfSome both (λ r. length r.0.items + length r.1.items ≤ most_rows)
    → IfSome both (λ r. IsTrace edges most_rows (records_of (a ++ b)) (r.0.items ++ r.1.items))
trace-both edges a b first rest None cut one more is_first is_rest few = tt
trace-both edges a b first rest (Some r) cut one more is_first is_rest few =
    trace_cut edges most_rows a b r.0.items r.1.items cut (rw is_first at one) (rw is_rest at more) few

pub trace-joined : (edges : ℕ) (text a b : List ℕ) (first rest all : Option (Vec Row Global)) → text ≡ a ++ b → IsCut a b
    → IfSome first (λ v. IsTrace edges most_rows (records_of a) v.items) → IfSome rest (λ v. AreRowsUnder edges (records_of a) (records_of b) v.items)
    → IfSome all (λ v. IsSomeAnd first (λ f. IsSomeAnd rest (λ r. (v.items ≡ f.items ++ r.items) × (length f.items + length r.items ≤ most_rows))))
    → IfSome all (λ v. IsTrace edges most_rows (records_of text) v.items)
trace-joined edges text a b first rest None parts cut one more both = tt
trace-joined edges text a b None rest (Some v) parts cut one more both = absurd both
trace-joined edges text a b (Some f) None (Some v) parts cut one more both = absurd both
trace-joined edges text a b (Some f) (Some r) (Some v) parts cut one more both = rw (parts, both.0) (trace_cut edges most_rows a b f.items r.items cut one more both.1)

pub under-joined : (edges : ℕ) (headed : List (List (List ℕ))) (text a b : List ℕ) (first rest all : Option (Vec Row Global)) → text ≡ a ++ b → IsCut a b
    → IfSome first (λ v. AreRowsUnder edges headed (records_of a) v.items) → IfSome rest (λ v. AreRowsUnder edges headed (records_of b) v.items)
    → IfSome all (λ v. IsSomeAnd first (λ f. IsSomeAnd rest (λ r. (v.items ≡ f.items ++ r.items) × (length f.items + length r.items ≤ most_rows))))
    → IfSome all (λ v. AreRowsUnder edges headed (records_of text) v.items)
under-joined edges headed text a b first rest None parts cut one more both = tt
under-joined edges headed text a b None rest (Some v) parts cut one more both = absurd both
under-joined edges headed text a b (Some f) None (Some v) parts cut one more both = absurd both
under-joined edges headed text a b (Some f) (Some r) (Some v) parts cut one more both = rw (parts, both.0) (under_cut edges headed a b f.items r.items cut one more)
