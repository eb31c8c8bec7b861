-- How the meaning of a table goes on after the rows read so far.
use Rattle.std.proofs.Common.{◌≡◌, ◌<◌, ◌+◌, ◌==◌, ℕ, List, [], ◌∷◌, ◌++◌, Bool, true, false, Option, Result, Ok, Err, refl, arith, append_assoc, if◌then◌else◌}
use Rattle.std.proofs.lemmas.Grind.{common_steps}
use Rattle.std.proofs.lemmas.List.{append-nil}
use Rattle.rw_plot.specs.Tables.{DrawnRow, drawn_before, drawn_of, drawn_row, is_drawn, policy_of_fields, sample_of}
use Rattle.rw_plot.specs.declared.measure.Caches.{Caches}
use Rattle.rw_plot.specs.declared.places.Places.{Places}
use Rattle.rw_plot.specs.declared.sample.Sample.{Sample}
use Rattle.rw_plot.specs.declared.plot_fault.PlotFault.{PlotFault}
use Rattle.rw_plot.specs.declared.plot_fault.PlotFault.TheVariants as fault

-- rows before those that follow
unfoldable pub rows_before : List DrawnRow → Result (List DrawnRow) PlotFault → Result (List DrawnRow) PlotFault
rows_before xs (Ok ys) = Ok (xs ++ ys)
rows_before xs (Err e) = Err e

-- one row more, before the others
before-rows : (b : Bool) (xs : List DrawnRow) (s : DrawnRow) (r : Result (List DrawnRow) PlotFault)
    → rows_before xs (drawn_before b s r) ≡ rows_before (if b then xs ++ s ∷ [] else xs) r
unfolding rows_before
before-rows true xs s (Ok ys) = rw (append_assoc xs (s ∷ []) ys) refl
before-rows true xs s (Err e) = refl
before-rows false xs s (Ok ys) = refl
before-rows false xs s (Err e) = refl

-- no row before the others
pub rows-none : (r : Result (List DrawnRow) PlotFault) → r ≡ rows_before [] r
unfolding rows_before
rows-none (Ok ys) = refl
rows-none (Err e) = refl

-- a good row
pub rows-more : (places : Places) (drawn : Option Caches) (most n : ℕ) (r : List (List ℕ)) (rs : List (List (List ℕ))) (s : Sample) (xs : List DrawnRow) → n < most → sample_of places n r ≡ Ok s
    → rows_before xs (drawn_of places drawn most n (r ∷ rs)) ≡ rows_before (if is_drawn drawn s.caches then xs ++ drawn_row (policy_of_fields places.configuration r) s ∷ [] else xs) (drawn_of places drawn most (n + 1) rs)
unfolding drawn_of
rows-more places drawn most n r rs s xs h e =
    let other : (n == most) ≡ false = grind (arith, common_steps) in
    rw (other, e) (before-rows (is_drawn drawn s.caches) xs (drawn_row (policy_of_fields places.configuration r) s) (drawn_of places drawn most (n + 1) rs))

-- a row at fault
pub rows-fault : (places : Places) (drawn : Option Caches) (most n : ℕ) (r : List (List ℕ)) (rs : List (List (List ℕ))) (f : PlotFault) (xs : List DrawnRow) → n < most → sample_of places n r ≡ Err f
    → rows_before xs (drawn_of places drawn most n (r ∷ rs)) ≡ Err f
unfolding drawn_of rows_before
rows-fault places drawn most n r rs f xs h e =
    let other : (n == most) ≡ false = grind (arith, common_steps) in
    rw (other, e) refl

-- no row is left
pub rows-end : (places : Places) (drawn : Option Caches) (most n : ℕ) (xs : List DrawnRow) → rows_before xs (drawn_of places drawn most n []) ≡ Ok xs
unfolding drawn_of rows_before
rows-end places drawn most n xs = rw (append-nil xs) refl

-- one row too many
pub rows-many : (places : Places) (drawn : Option Caches) (most n : ℕ) (r : List (List ℕ)) (rs : List (List (List ℕ))) (xs : List DrawnRow) → n ≡ most
    → rows_before xs (drawn_of places drawn most n (r ∷ rs)) ≡ Err fault.TooManyRows
unfolding drawn_of rows_before
rows-many places drawn most n r rs xs h =
    let same : (n == most) ≡ true = grind (arith, common_steps) in
    rw same refl
