-- What is said of rows, gathered one row after another.
use Rattle.std.proofs.Common.{◌≡◌, ℕ, ◌+◌, ◌-◌, ◌*◌, ◌%◌, ◌<◌, ◌^◌, List, [], ◌∷◌, ◌++◌, length, max, min, sym, ap, subst, ◌∙◌, arith, length-append}
use Rattle.std.specs.List.{fold}
use Rattle.std.proofs.lemmas.List.Sums.{fold-append}
use Rattle.rw_trace.specs.declared.Row.{Row}
use Rattle.rw_sweep.specs.declared.facts.Facts.{Facts}
use Rattle.rw_sweep.specs.Facts.{digest_modulus, digest_of, digest_with, earliest, facts_of, latest, absorbed}

-- one row more
pub one-more : (before : List Row) (row : Row) (f r : Facts) → f ≡ facts_of before → r.rows ≡ f.rows + 1 → r.first ≡ min f.first row.time → r.last ≡ max f.last row.time → r.digest ≡ digest_with f.digest row
    → r ≡ facts_of (before ++ row ∷ [])
one-more before row f r is rows first last digest =
    let many : r.rows ≡ length (before ++ row ∷ []) = rows ∙ (ap (λ g. g.rows + 1) is ∙ (let long = length-append before (row ∷ []) in omega (arith, long))) in
    let soonest : r.first ≡ earliest (before ++ row ∷ []) = first ∙ (ap (λ g. min g.first row.time) is ∙ sym (fold-append (λ time r. min time r.time) (2 ^ 64 - 1) before (row ∷ []))) in
    let newest : r.last ≡ latest (before ++ row ∷ []) = last ∙ (ap (λ g. max g.last row.time) is ∙ sym (fold-append (λ time r. max time r.time) 0 before (row ∷ []))) in
    let hash : r.digest ≡ digest_of (before ++ row ∷ []) = digest ∙ (ap (λ g. digest_with g.digest row) is ∙ sym (fold-append digest_with 0 before (row ∷ []))) in
    λ i. record { rows = many i; first = soonest i; last = newest i; digest = hash i }

absorbed-below : (digest n : ℕ) → absorbed digest n < digest_modulus
absorbed-below digest n = let below : (k : ℕ) → k % 4294967291 < 4294967291 = λ k. omega arith in below (digest * 1000003 + n % digest_modulus)

hash-below : (rows : List Row) (digest : ℕ) → digest < digest_modulus → fold digest_with digest rows < digest_modulus
hash-below [] digest l = l
hash-below (row ∷ rows) digest l = hash-below rows (digest_with digest row) (absorbed-below _ _)

-- a digest is in its range
pub digest-below : (rows : List Row) (f : Facts) → f ≡ facts_of rows → f.digest < digest_modulus
digest-below rows f is =
    let some : 0 < digest_modulus = omega arith in
    subst (λ n. n < digest_modulus) (sym (ap (λ g. g.digest) is)) (hash-below rows 0 some)

-- a piece of a list more
pub facts-so : (rows : List Row) (f r : Facts) → f ≡ facts_of [] → ((before : List Row) → f ≡ facts_of before → r ≡ facts_of (before ++ rows)) → r ≡ facts_of rows
facts-so rows f r none told = told [] none
