-- Spreading keeps each row in its unit, and the order of rows.
use Rattle.std.proofs.Common.{◌≡◌, ◌≤◌, ◌<◌, ◌+◌, ◌*◌, ◌/◌, ◌==◌, ℕ, List, All, ap, arith, cond, get_or, length, subst, sym, take, ◌∙◌}
use Rattle.std.specs.List.{sum_by}
use Rattle.std.proofs.Math.Nat.{lt_of_mul-lt-mul_right, mul-le-mul_right, zero-div}
use Rattle.std.proofs.lemmas.List.{ext_get_or, take-take}
use Rattle.std.proofs.lemmas.List.Elements.{All-from_get_or, All-get_or}
use Rattle.std.proofs.lemmas.List.Sums.{sum_by-take-le}
use Rattle.std.proofs.lemmas.Option.{get_or_from_slice_get, slice_get_within}
use Rattle.rw_numbers.specs.Words.{Count, Time}
use Rattle.rw_trace.specs.Laws.{IsRow}
use Rattle.rw_trace.specs.Limits.{latest_time}
use Rattle.rw_trace.specs.declared.Row.{Row}
use Rattle.rw_import.specs.Spread.{AreSingle, AreWhole, SpreadsRows, StandsAt, rows_at, spread, spread_row}
use Rattle.rw_import.proofs.Spreads.{length-spread, no_row, rows_at-before, share-grows, share-within, spread-at}

-- how much later the row at a place comes
abbrev share_at : Time → List Row → ℕ → Row → ℕ
share_at ticks rows i a = (rows_at (take i rows) a.time * ticks) / rows_at rows a.time

-- a row and what it is spread to
record Moves (ticks : Time) (rows : List Row) (i : ℕ) (a b : Row) : Type 0 where
  within : i < length rows
  here : get_or rows i a ≡ a
  is : b ≡ spread_row ticks rows (take i rows) a
  time : b.time ≡ a.time + share_at ticks rows i a
  among : rows_at (take i rows) a.time < rows_at rows a.time

moves : (ticks : Time) (rows : List Row) (i : ℕ) (a b : Row)
    → StandsAt rows (spread ticks rows) i a b → Moves ticks rows i a b
moves ticks rows i a b stands =
    let h : i < length rows = slice_get_within rows i a stands.before in
    let here : get_or rows i a ≡ a = get_or_from_slice_get rows i a a stands.before in
    let is : b ≡ spread_row ticks rows (take i rows) a =
    sym (get_or_from_slice_get (spread ticks rows) i b a stands.after)
    ∙ spread-at ticks rows i a h ∙ ap (spread_row ticks rows (take i rows)) here in
    let P : Row → Type 0 = λ r. rows_at (take i rows) r.time < rows_at rows r.time in
    record {
      within = h;
      here = here;
      is = is;
      time = ap (λ r. r.time) is;
      among = subst P here (rows_at-before rows i a h);
    }

rest : (ticks : Time) (rows : List Row) (i : ℕ) (a b : Row) → Moves ticks rows i a b
    → b ≡ record a { time = b.time }
rest ticks rows i a b m = m.is ∙ ap (λ (t : ℕ). record a { time = t }) (sym m.time)

within : (ticks : Time) (rows : List Row) (i : ℕ) (a b : Row) → 1 ≤ ticks → Moves ticks rows i a b
    → b.time < a.time + ticks
within ticks rows i a b some m =
    omega (arith, m.time, share-within (rows_at (take i rows) a.time) (rows_at rows a.time) ticks m.among some)

-- rows of different units
units-apart : (u v ticks s t : ℕ) → s ≡ u * ticks → t ≡ v * ticks → s < t → s + ticks ≤ t
units-apart u v ticks s t es et h =
    let less : u * ticks < v * ticks = omega arith in
    let unit : u < v = lt_of_mul-lt-mul_right ticks less in
    let above : u + 1 ≤ v = omega arith in
    let far : (u + 1) * ticks ≤ v * ticks = mul-le-mul_right ticks above in
    omega arith

order : (ticks : Time) (rows : List Row) (i j : ℕ) (a b c d : Row) → 1 ≤ ticks
    → Moves ticks rows i a b → Moves ticks rows j c d → AreWhole ticks rows → a.time < c.time
    → b.time < d.time
order ticks rows i j a b c d some m n whole h =
    let P : Row → Type 0 = λ r. (units : Count) × (r.time ≡ units * ticks) in
    let (u, eu) = subst P m.here (All-get_or P rows i a m.within whole) in
    let (v, ev) = subst P n.here (All-get_or P rows j c n.within whole) in
    let apart : a.time + ticks ≤ c.time = units-apart u v ticks a.time c.time eu ev h in
    let low : b.time < a.time + ticks = within ticks rows i a b some m in
    omega (arith, n.time)

turn : (ticks : Time) (rows : List Row) (i j : ℕ) (a b c d : Row) → Moves ticks rows i a b
    → Moves ticks rows j c d → a.time ≡ c.time → i < j → b.time ≤ d.time
turn ticks rows i j a b c d m n same h =
    let t = a.time in
    let f : Row → ℕ = λ r. cond (r.time == t) 1 0 in
    let fewer : rows_at (take i rows) t ≤ rows_at (take j rows) t =
    subst (λ rs. sum_by f rs ≤ sum_by f (take j rows)) (take-take i j rows (omega arith)) (sum_by-take-le f (take j rows) i) in
    let grows = share-grows (rows_at (take i rows) t) (rows_at (take j rows) t) (rows_at rows t) ticks fewer (omega (arith, m.among)) in
    let later : d.time ≡ t + share_at ticks rows j a =
    n.time ∙ ap (λ s. s + (rows_at (take j rows) s * ticks) / rows_at rows s) (sym same) in
    omega (arith, m.time, later, grows)

zero-times : (n : ℕ) → 0 * n ≡ 0
zero-times n = omega arith

-- the only row of its time
alone : (ticks : Time) (rows : List Row) (i : ℕ) (d : Row) → i < length rows → AreSingle rows
    → get_or (spread ticks rows) i d ≡ get_or rows i d
alone ticks rows i d h apart =
    let r = get_or rows i d in
    let one : rows_at rows r.time ≡ 1 = All-get_or (λ q. rows_at rows q.time ≡ 1) rows i d h apart in
    let none : rows_at (take i rows) r.time ≡ 0 = omega (arith, rows_at-before rows i d h) in
    let share : share_at ticks rows i r ≡ 0 =
    ap (λ k. (k * ticks) / rows_at rows r.time) none
    ∙ ap (λ k. k / rows_at rows r.time) (zero-times ticks)
    ∙ zero-div (rows_at rows r.time) in
    let same : r.time + share_at ticks rows i r ≡ r.time = omega (arith, share) in
    spread-at ticks rows i d h ∙ ap (λ (t : ℕ). record r { time = t }) same

stays : (ticks : Time) (rows : List Row) → AreSingle rows → spread ticks rows ≡ rows
stays ticks rows apart =
    ext_get_or no_row (spread ticks rows) rows (length-spread ticks rows)
    (λ i h. alone ticks rows i no_row (rw (length-spread ticks rows) at h) apart)

ranges : (ticks : Time) (rows : List Row) (edges : Count) → 1 ≤ ticks → All (IsRow edges) rows
    → All (λ r. r.time + ticks ≤ latest_time + 1) rows → All (IsRow edges) (spread ticks rows)
ranges ticks rows edges some good room =
    All-from_get_or (IsRow edges) (spread ticks rows) no_row
    (λ i g. let h : i < length rows = rw (length-spread ticks rows) at g in
    let r = get_or rows i no_row in
    let was : IsRow edges r = All-get_or (IsRow edges) rows i no_row h good in
    let far : r.time + ticks ≤ latest_time + 1 = All-get_or (λ q. q.time + ticks ≤ latest_time + 1) rows i no_row h room in
    let share = share-within (rows_at (take i rows) r.time) (rows_at rows r.time) ticks (rows_at-before rows i no_row h) some in
    subst (IsRow edges) (sym (spread-at ticks rows i no_row h)) (record {
      time = omega (arith, far, share);
      edge = was.edge;
      object = was.object;
      some = was.some;
      few = was.few;
    }))

pub spread-law : (ticks : Time) (rows : List Row) → 1 ≤ ticks
    → SpreadsRows ticks rows (spread ticks rows)
spread-law ticks rows some = record {
  count = length-spread ticks rows;
  rest = λ i a b s. rest ticks rows i a b (moves ticks rows i a b s);
  from = λ i a b s. let m = moves ticks rows i a b s in omega (arith, m.time);
  within = λ i a b s. within ticks rows i a b some (moves ticks rows i a b s);
  order = λ i j a b c d s t. order ticks rows i j a b c d some (moves ticks rows i a b s) (moves ticks rows j c d t);
  turn = λ i j a b c d s t. turn ticks rows i j a b c d (moves ticks rows i a b s) (moves ticks rows j c d t);
  apart = stays ticks rows;
  ranges = λ edges. ranges ticks rows edges some;
}
