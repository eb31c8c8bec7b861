-- How often each key has come, one row after the other.
use Rattle.std.proofs.Common.{◌≡◌, ◌<◌, ◌+◌, ◌==◌, ◌&&◌, ℕ, Bool, List, ap, cond, count_by, false, get_or, length, nat_eq, refl, sym, take, true, ◌∙◌}
use Rattle.std.proofs.lemmas.Bool.{eqb-true}
use Rattle.std.proofs.lemmas.List.Sums.{count_by_more_no, count_by_more_yes}
use Rattle.rw_numbers.specs.Words.{Count, Time}
use Rattle.rw_trace.specs.declared.Row.{Row}
use Rattle.rw_import.specs.Spread.{is_same, is_same_request, request_of, rows_at, rows_like}

-- one more row has come, which passes a test where the count of its key is the one that is told
counted : (p : Row → Bool) (rows : List Row) (i : ℕ) (d : Row) (b : Bool) (here was : Count)
    → i < length rows → p (get_or rows i d) ≡ b → (b ≡ true → here ≡ count_by p (take i rows))
    → was ≡ count_by p (take i rows) → cond b (here + 1) was ≡ count_by p (take (i + 1) rows)
counted p rows i d true here was h e same ew =
    ap (λ n. n + 1) (same refl) ∙ sym (count_by_more_yes p rows i d h e)
counted p rows i d false here was h e same ew = ew ∙ sym (count_by_more_no p rows i d h e)

-- the count of each time
pub time-counted : (rows : List Row) (i : ℕ) (d : Row) (t : Time) (here was : Count) → i < length rows
    → here ≡ rows_at (take i rows) (get_or rows i d).time → was ≡ rows_at (take i rows) t
    → cond (nat_eq (get_or rows i d).time t) (here + 1) was ≡ rows_at (take (i + 1) rows) t
time-counted rows i d t here was h eh ew =
    let own = (get_or rows i d).time in
    counted (λ r. r.time == t) rows i d (own == t) here was h refl
    (λ e. eh ∙ ap (rows_at (take i rows)) (eqb-true own t e)) ew

first-true : (a b : Bool) → (a && b) ≡ true → a ≡ true
first-true true b h = refl
first-true false b h = h

second-true : (a b : Bool) → (a && b) ≡ true → b ≡ true
second-true true b h = h
second-true false b h = cc

-- the same rows are like rows of one time and object
like-same : (rows : List Row) (q r : Row) → is_same_request q r ≡ true
    → rows_like rows q ≡ rows_like rows r
like-same rows q r h =
    let time : q.time ≡ r.time = eqb-true q.time r.time (first-true (q.time == r.time) (q.object == r.object) h) in
    let object : q.object ≡ r.object = eqb-true q.object r.object (second-true (q.time == r.time) (q.object == r.object) h) in
    ap (λ (t : ℕ). count_by (λ s. (s.time == t) && (s.object == q.object)) rows) time
    ∙ ap (λ (o : ℕ). count_by (λ s. (s.time == r.time) && (s.object == o)) rows) object

-- the count of each time and object
pub request-counted : (rows : List Row) (i : ℕ) (d r : Row) (here was : Count) → i < length rows
    → here ≡ rows_like (take i rows) (get_or rows i d) → was ≡ rows_like (take i rows) r
    → cond (is_same (request_of (get_or rows i d)) (request_of r)) (here + 1) was
    ≡ rows_like (take (i + 1) rows) r
request-counted rows i d r here was h eh ew =
    let own = get_or rows i d in
    counted (λ s. is_same_request s r) rows i d (is_same_request own r) here was h refl
    (λ e. eh ∙ like-same (take i rows) own r e) ew
