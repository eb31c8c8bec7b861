-- Sums over the rows that a test keeps.
use Rattle.std.proofs.Common.{◌≡◌, ℕ, ◌+◌, ◌≤◌, ◌<◌, List, [], ◌∷◌, refl, sym, ap, ◌∙◌, arith, Bool, true, false, cond, nat_eq, ◌*◌, ◌^◌, drop, length, get_or, length-drop}
use Rattle.std.specs.Prelude.{sum_by, filter}
use Rattle.std.specs.Map.{values_of, keys_of}
use Rattle.std.proofs.lemmas.List.Sums.{sum_by-cons, sum_by-le}
use Rattle.rw_blocks.specs.declared.Place.{Place}
use Rattle.rw_blocks.specs.Index.{objects_of}
use Rattle.rw_blocks.specs.declared.Kind.TheVariants.{Device, Virtual}
use Rattle.rw_blocks.specs.Sections.{SectionState, has_block}
use Rattle.rw_blocks.specs.State.{QueueState}
use Rattle.rw_blocks.specs.Loose.{IsLoose}
use Rattle.rw_blocks.specs.Sums.{bytes_below, bytes_held, total, bytes_in}

at_test : {X : Type 0} (b : Bool) (f : X → ℕ) (x : X) (xs : List X) → sum_by f (cond b (x ∷ xs) xs) ≡ cond b (f x) 0 + sum_by f xs
at_test true f x xs = sum_by-cons f x xs
at_test false f x xs = omega arith

pub sum_by-filter : {X : Type 0} (f : X → ℕ) (p : X → Bool) (xs : List X) → sum_by f (filter p xs) ≡ sum_by (λ x. cond (p x) (f x) 0) xs
sum_by-filter f p [] = refl
sum_by-filter f p (x ∷ xs) =
    at_test (p x) f x (filter p xs) ∙ ap (λ n. cond (p x) (f x) 0 + n) (sum_by-filter f p xs) ∙ sym (sum_by-cons (λ y. cond (p y) (f y) 0) x xs)

pub sum_by-filter-le : {X : Type 0} (f : X → ℕ) (p : X → Bool) (xs : List X) → sum_by f (filter p xs) ≤ sum_by f xs
sum_by-filter-le f p [] = omega arith
sum_by-filter-le f p (x ∷ xs) =
    elim (p x) as (λ b. sum_by f (cond b (x ∷ filter p xs) (filter p xs)) ≤ sum_by f (x ∷ xs)) [
      | true ↦ rw (sum_by-cons f x xs, sum_by-cons f x (filter p xs)) (omega (arith, sum_by-filter-le f p xs))
      | false ↦ rw (sum_by-cons f x xs) (omega (arith, sum_by-filter-le f p xs))
    ]

pub rows_homed-le-total : (q : QueueState) (b : ℕ) → bytes_held Device q b ≤ total q
rows_homed-le-total q b = sum_by-filter-le (λ r. r.size) (λ r. nat_eq r.home b) (values_of q.rows)

pub rows_placed-le-total : (q : QueueState) (b : ℕ) → bytes_held Virtual q b ≤ total q
rows_placed-le-total q b = sum_by-filter-le (λ r. r.size) (λ r. nat_eq r.place b) (values_of q.rows)

pub ruleset held_bounds = (rows_homed-le-total, rows_placed-le-total)

pub bytes_in-le-total : (q : QueueState) (s : SectionState) → bytes_in q s ≤ total q
bytes_in-le-total q s = sum_by-filter-le (λ r. r.size) (λ r. has_block r.place s) (values_of q.rows)

pub below-fits : (q : QueueState) (i : ℕ) → IsLoose q → bytes_below q i < 2 ^ 64
below-fits q i loose =
    let each : sum_by (bytes_in q) (drop (i + 1) q.sections) ≤ length (drop (i + 1) q.sections) * (2 ^ 48) =
    sum_by-le (bytes_in q) (2 ^ 48) (drop (i + 1) q.sections) (λ k d lt. omega (arith, bytes_in-le-total q (get_or (drop (i + 1) q.sections) k d), loose.within)) in
    omega (arith, each, length-drop (i + 1) q.sections, loose.few_sections, loose.shaped.1)

pub ruleset bytes_bound = (bytes_in-le-total)

-- ---- a block has as many objects as rows
pub objects-rows : (key : Place → ℕ) (b : ℕ) (rows : List (ℕ × Place)) → length (objects_of key b rows) ≡ length (filter (λ r. nat_eq (key r) b) (values_of rows))
objects-rows key b [] = refl
objects-rows key b (e ∷ es) =
    elim (nat_eq (key e.1) b) as (λ t. length (keys_of (cond t (e ∷ filter (λ x. nat_eq (key x.1) b) es) (filter (λ x. nat_eq (key x.1) b) es))) ≡ length (cond t (e.1 ∷ filter (λ r. nat_eq (key r) b) (values_of es)) (filter (λ r. nat_eq (key r) b) (values_of es)))) [
      | true ↦ omega (arith, objects-rows key b es)
      | false ↦ objects-rows key b es
    ]
