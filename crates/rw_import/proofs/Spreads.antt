-- What spreading does to the row at each place.
use Rattle.std.proofs.Common.{◌≡◌, ◌≤◌, ◌<◌, ◌+◌, ◌*◌, ◌/◌, ◌==◌, ◌++◌, ◌∷◌, ℕ, List, ap, arith, cond, drop, get_or, length, refl, set, suc, sym, take, zero-add, ◌∙◌}
use Rattle.std.specs.List.{enumerate_from}
use Rattle.std.proofs.Math.Nat.{div-lt_iff_lt-mul, le-div_iff_mul-le, div-mul-le_self, mul-lt-mul_of_pos_right}
use Rattle.std.proofs.lemmas.Bool.{eq-eqb}
use Rattle.std.proofs.lemmas.List.{append-nil, get_or-map, length-map, take_more, set_at, get_or_at, take_all, drop_all}
use Rattle.std.proofs.lemmas.List.FromFn.{get_or-enumerate_from, length-enumerate_from}
use Rattle.std.proofs.lemmas.List.Sums.{sum_by_more_le}
use Rattle.std.proofs.Math.Seq.{append_snoc, drop-cons, length-take-le}
use Rattle.rw_numbers.specs.Words.{Time}
use Rattle.rw_trace.specs.declared.Kind.TheVariants.{Get}
use Rattle.rw_trace.specs.declared.Row.{Row}
use Rattle.rw_import.specs.Spread.{rows_at, spread, spread_row}

-- a row that stands for one past the end
abbrev pub no_row : Row
no_row = record { time = 0; object = 0; size = 0; edge = 0; kind = Get }

pub length-spread : (ticks : Time) (rows : List Row) → length (spread ticks rows) ≡ length rows
length-spread ticks rows =
    length-map (enumerate_from 0 rows) (λ (p : ℕ × Row). spread_row ticks rows (take p.0 rows) p.1)
    ∙ length-enumerate_from 0 rows

-- the row at a place
pub spread-at : (ticks : Time) (rows : List Row) (i : ℕ) (d : Row) → i < length rows
    → get_or (spread ticks rows) i d ≡ spread_row ticks rows (take i rows) (get_or rows i d)
spread-at ticks rows i d h =
    let f : ℕ × Row → Row = λ p. spread_row ticks rows (take p.0 rows) p.1 in
    let inside : i < length (enumerate_from 0 rows) = rw (length-enumerate_from 0 rows) h in
    let e : ℕ × Row = (0, d) in
    let is : get_or (enumerate_from 0 rows) i e ≡ (i, get_or rows i d) =
    get_or-enumerate_from 0 rows i e h ∙ ap (λ (n : ℕ). let q : ℕ × Row = (n, get_or rows i d) in q) (zero-add i) in
    get_or-map f (enumerate_from 0 rows) i e d inside ∙ ap f is

-- fewer rows of its time stand before a row than there are
pub rows_at-before : (rows : List Row) (i : ℕ) (d : Row) → i < length rows
    → rows_at (take i rows) (get_or rows i d).time < rows_at rows (get_or rows i d).time
rows_at-before rows i d h =
    let t = (get_or rows i d).time in
    let f : Row → ℕ = λ r. cond (r.time == t) 1 0 in
    let one : f (get_or rows i d) ≡ 1 = ap (λ b. cond b 1 0) (eq-eqb t t refl) in
    omega (arith, sum_by_more_le f rows i d h, one)

-- a share of a unit
pub share-within : (k n ticks : ℕ) → k < n → 1 ≤ ticks → (k * ticks) / n < ticks
share-within k n ticks h some = grind (arith, div-lt_iff_lt-mul, mul-lt-mul_of_pos_right)

pub share-grows : (k j n ticks : ℕ) → k ≤ j → 0 < n → (k * ticks) / n ≤ (j * ticks) / n
share-grows k j n ticks h some = grind (arith, le-div_iff_mul-le, div-mul-le_self)

-- the row that a loop comes to, which has written those before it
pub row-to-come : (ticks : Time) (all rows : List Row) (i : ℕ) (d : Row) → i < length all
    → rows ≡ take i (spread ticks all) ++ drop i all → get_or rows i d ≡ get_or all i d
row-to-come ticks all rows i d h e =
    let n : length (take i (spread ticks all)) ≡ i = length-take-le i (spread ticks all) (omega (arith, length-spread ticks all)) in
    ap (λ rs. get_or rs i d) (e ∙ ap (λ rs. take i (spread ticks all) ++ rs) (drop-cons all i d h))
    ∙ get_or_at (take i (spread ticks all)) (get_or all i d) (drop (suc i) all) d i n

-- one row more is written
pub row-written : (ticks : Time) (all rows : List Row) (i : ℕ) (d is : Row) → i < length all
    → rows ≡ take i (spread ticks all) ++ drop i all → is ≡ spread_row ticks all (take i all) (get_or all i d)
    → set rows i is ≡ take (i + 1) (spread ticks all) ++ drop (i + 1) all
row-written ticks all rows i d is h e same =
    let new = spread ticks all in
    let there : i < length new = omega (arith, length-spread ticks all) in
    let n : length (take i new) ≡ i = length-take-le i new (omega arith) in
    let next : suc i ≡ i + 1 = omega arith in
    let written : is ≡ get_or new i d = same ∙ sym (spread-at ticks all i d h) in
    ap (λ rs. set rs i is) (e ∙ ap (λ rs. take i new ++ rs) (drop-cons all i d h))
    ∙ set_at (take i new) (get_or all i d) (drop (suc i) all) is i n
    ∙ ap (λ (r : Row). take i new ++ r ∷ drop (suc i) all) written
    ∙ sym (append_snoc (take i new) (get_or new i d) (drop (suc i) all))
    ∙ ap (λ rs. rs ++ drop (suc i) all) (sym (take_more new i d there))
    ∙ ap (λ j. take (i + 1) new ++ drop j all) next

-- all rows are written
pub rows-written : (ticks : Time) (all rows : List Row) (i : ℕ) → length all ≤ i
    → rows ≡ take i (spread ticks all) ++ drop i all → rows ≡ spread ticks all
rows-written ticks all rows i h e =
    e ∙ ap (λ rs. take i (spread ticks all) ++ rs) (drop_all i all h)
    ∙ append-nil (take i (spread ticks all))
    ∙ take_all i (spread ticks all) (omega (arith, length-spread ticks all))
