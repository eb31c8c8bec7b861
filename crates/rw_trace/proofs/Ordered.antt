-- A trace whose rows have to stand in order of time: what it is beside the trace that may stand in any order.
use Rattle.std.proofs.Common.{◌≡◌, ℕ, ◌+◌, ◌≤◌, List, [], ◌∷◌, Bool, true, false, Ok, Err, None, Some, Option, refl, sym, ap, subst, ◌∙◌, arith}
use Rattle.std.specs.Prelude.{◌==◌, if◌then◌else◌, nat_lt}
use Rattle.std.proofs.lemmas.Bool.Decides.{nat_tests}
use Rattle.rw_trace.specs.Words.{Fields, OrFault}
use Rattle.rw_trace.specs.Trace.{◌>>=◌, or_fault, row_before, row_of, rows_of, trace_of, version_of}
use Rattle.rw_trace.specs.Pieces.{RiseFrom, ordered_rows_of, ordered_trace_of, row_in_order}
use Rattle.rw_trace.specs.declared.Row.{Row}
use Rattle.rw_trace.specs.declared.TraceFault.TheVariants as fault
use Rattle.rw_trace.specs.declared.Version.{Version}

-- one row, where the rows behind it are as they are to be
step : (full : Bool) (one : OrFault Row) (rest : ℕ → OrFault (List Row)) (plain : OrFault (List Row)) (n t : ℕ) (rows : List Row)
    → ((row : Row) (rs : List Row) → rest row.time ≡ Ok rs → (plain ≡ Ok rs) × RiseFrom row.time rs)
    → (if full then Err fault.TooManyRows else (one >>= (λ row. row_in_order n t row (rest row.time)))) ≡ Ok rows
    → ((if full then Err fault.TooManyRows else (one >>= (λ row. row_before row plain))) ≡ Ok rows) × RiseFrom t rows
step true one rest plain n t rows behind h = absurd (cc)
step false (Err e) rest plain n t rows behind h = absurd (cc)
step false (Ok row) rest plain n t rows behind h = tested (nat_lt row.time t) refl h
  where
    kept : t ≤ row.time → (o : OrFault (List Row)) → rest row.time ≡ o → row_before row o ≡ Ok rows → (row_before row plain ≡ Ok rows) × RiseFrom t rows
    kept l (Err e) is k = absurd (cc)
    kept l (Ok rs) is k =
        let all : rows ≡ row ∷ rs = cc in
        let later = behind row rs is in
        (ap (row_before row) later.0 ∙ k, subst (RiseFrom t) (sym all) (l, later.1))

    tested : (early : Bool) → nat_lt row.time t ≡ early → (if early then Err (fault.Order n) else row_before row (rest row.time)) ≡ Ok rows → (row_before row plain ≡ Ok rows) × RiseFrom t rows
    tested true is k = absurd (cc)
    tested false is k = kept (grind (arith, nat_tests)) (rest row.time) refl k

ordered_rows : (version : Version) (edges most n t : ℕ) (fs : List Fields) (rows : List Row) → ordered_rows_of version edges most n t fs ≡ Ok rows → (rows_of version edges most n fs ≡ Ok rows) × RiseFrom t rows
unfolding ordered_rows_of rows_of
ordered_rows version edges most n t [] rows h = let none : rows ≡ [] = cc in (h, subst (RiseFrom t) (sym none) tt)
ordered_rows version edges most n t (f ∷ fs) rows h =
    step (n == most) (row_of version edges n f) (λ u. ordered_rows_of version edges most (n + 1) u fs) (rows_of version edges most (n + 1) fs) n t rows
    (λ row rs is. ordered_rows version edges most (n + 1) row.time fs rs is) h

-- what is accepted in order is accepted, and its rows rise
pub ordered_accepted : (edges most : ℕ) (recs : List Fields) (rows : List Row) → ordered_trace_of edges most recs ≡ Ok rows → (trace_of edges most recs ≡ Ok rows) × RiseFrom 0 rows
unfolding ordered_trace_of trace_of
ordered_accepted edges most [] rows h = absurd (cc)
ordered_accepted edges most (head ∷ fs) rows h = headed (version_of head) h
  where
    headed : (o : Option Version) → (or_fault fault.Header o >>= (λ version. ordered_rows_of version edges most 0 0 fs)) ≡ Ok rows → ((or_fault fault.Header o >>= (λ version. rows_of version edges most 0 fs)) ≡ Ok rows) × RiseFrom 0 rows
    headed None k = absurd (cc)
    headed (Some version) k = ordered_rows version edges most 0 0 fs rows k

-- ---- and back
step_back : (full : Bool) (one : OrFault Row) (rest : ℕ → OrFault (List Row)) (plain : OrFault (List Row)) (n t : ℕ) (rows : List Row)
    → ((row : Row) (rs : List Row) → plain ≡ Ok rs → RiseFrom row.time rs → rest row.time ≡ Ok rs)
    → (if full then Err fault.TooManyRows else (one >>= (λ row. row_before row plain))) ≡ Ok rows → RiseFrom t rows
    → (if full then Err fault.TooManyRows else (one >>= (λ row. row_in_order n t row (rest row.time)))) ≡ Ok rows
step_back true one rest plain n t rows behind h up = absurd (cc)
step_back false (Err e) rest plain n t rows behind h up = absurd (cc)
step_back false (Ok row) rest plain n t rows behind h up = by plain refl h
  where
    by : (o : OrFault (List Row)) → plain ≡ o → row_before row o ≡ Ok rows → row_in_order n t row (rest row.time) ≡ Ok rows
    by (Err e) is k = absurd (cc)
    by (Ok rs) is k =
        let all : rows ≡ row ∷ rs = cc in
        let rises : RiseFrom t (row ∷ rs) = subst (RiseFrom t) all up in
        let first : t ≤ row.time = rises.0 in
        let late : nat_lt row.time t ≡ false = grind (arith, nat_tests) in
        rw (late, behind row rs is rises.1) k

rising_rows : (version : Version) (edges most n t : ℕ) (fs : List Fields) (rows : List Row) → rows_of version edges most n fs ≡ Ok rows → RiseFrom t rows → ordered_rows_of version edges most n t fs ≡ Ok rows
unfolding ordered_rows_of rows_of
rising_rows version edges most n t [] rows h up = h
rising_rows version edges most n t (f ∷ fs) rows h up =
    step_back (n == most) (row_of version edges n f) (λ u. ordered_rows_of version edges most (n + 1) u fs) (rows_of version edges most (n + 1) fs) n t rows
    (λ row rs is rises. rising_rows version edges most (n + 1) row.time fs rs is rises) h up

-- what is accepted, and whose rows rise, is accepted in order
pub rising_accepted : (edges most : ℕ) (recs : List Fields) (rows : List Row) → trace_of edges most recs ≡ Ok rows → RiseFrom 0 rows → ordered_trace_of edges most recs ≡ Ok rows
unfolding ordered_trace_of trace_of
rising_accepted edges most [] rows h up = absurd (cc)
rising_accepted edges most (head ∷ fs) rows h up = headed (version_of head) h
  where
    headed : (o : Option Version) → (or_fault fault.Header o >>= (λ version. rows_of version edges most 0 fs)) ≡ Ok rows → (or_fault fault.Header o >>= (λ version. ordered_rows_of version edges most 0 0 fs)) ≡ Ok rows
    headed None k = absurd (cc)
    headed (Some version) k = rising_rows version edges most 0 0 fs rows k up
