-- The sealed blocks along the queue, and how many of the old ones are gone.
use Rattle.std.proofs.Common.{◌≡◌, ℕ, ◌+◌, ◌≤◌, List, [], ◌∷◌, ◌++◌, refl, sym, ap, ◌∙◌, arith, Bool, true, false, cond, length, nat_eq}
use Rattle.std.specs.Prelude.{sum_by, count_by, not, ◌||◌}
use Rattle.std.specs.List.{list_any}
use Rattle.std.proofs.lemmas.Bool.{eq-eqb, eqb-true}
use Rattle.std.proofs.lemmas.List.{length-append}
use Rattle.std.proofs.lemmas.List.Folds.{list_any-append}
use Rattle.std.proofs.lemmas.List.Sums.{sum_by-cons, sum_by-append}
use Rattle.rw_blocks.specs.Loose.{IsLoose, count_in}
use Rattle.rw_blocks.specs.Sections.{SectionState, has_serial}
use Rattle.rw_blocks.specs.State.{QueueState}
use Rattle.rw_blocks.specs.declared.Kind.{Kind}
use Rattle.rw_blocks.specs.declared.Kind.TheVariants.{Device, Virtual}
use Rattle.rw_ripq.proofs.Basics.{by_bool}
use Rattle.rw_ripq.proofs.Falls.{sum-le}
use Rattle.rw_ripq.proofs.Turns.{counts-all, sum-above}
use Rattle.rw_ripq.specs.Sealed.{has_sealed, is_sealed, sealed_blocks}
use Rattle.rw_ripq.specs.Victim.{in_sealed, sealed_count}
use Rattle.rw_ripq.specs.Weight.{gone_blocks}

abbrev pub line : List SectionState → List (ℕ × Kind)
line [] = []
line (s ∷ ss) = s.sealed ++ line ss

pub length-line : (ss : List SectionState) → length (line ss) ≡ sum_by (λ s. length s.sealed) ss
length-line [] = refl
length-line (s ∷ ss) = omega (arith, length-append s.sealed (line ss), sum_by-cons (λ (s : SectionState). length s.sealed) s ss, length-line ss)

pub sum-line : (f : ℕ × Kind → ℕ) (ss : List SectionState) → sum_by f (line ss) ≡ sum_by (λ s. sum_by f s.sealed) ss
sum-line f [] = refl
sum-line f (s ∷ ss) = omega (arith, sum_by-append f s.sealed (line ss), sum_by-cons (λ (s : SectionState). sum_by f s.sealed) s ss, sum-line f ss)

pub any-line : (b : ℕ) (ss : List SectionState) → list_any (has_sealed b) ss ≡ list_any (has_serial b) (line ss)
any-line b [] = refl
any-line b (s ∷ ss) = ap (λ t. has_sealed b s || t) (any-line b ss) ∙ sym (list_any-append (has_serial b) s.sealed (line ss))

-- ---- of distinct blocks no more are in a list than its length
or-sum : (t u : Bool) → cond (t || u) 1 0 ≤ cond t 1 0 + cond u 1 0
or-sum true u = omega arith
or-sum false u = omega arith

swap : (a b : ℕ) → nat_eq a b ≡ true → nat_eq b a ≡ true
swap a b t = eq-eqb b a (sym (eqb-true a b t))

swapped : (a b : ℕ) → cond (nat_eq a b) 1 0 ≤ cond (nat_eq b a) 1 0
swapped a b =
    by_bool (nat_eq a b)
    (λ t. rw (t, swap a b t) (omega arith))
    (λ f. rw f (omega arith))

none-there : (xs : List (ℕ × Kind)) → count_by (λ e. list_any (has_serial e.0) []) xs ≡ 0
none-there [] = refl
none-there (x ∷ xs) = omega (arith, sum_by-cons (λ (e : ℕ × Kind). cond (list_any (has_serial e.0) []) 1 0) x xs, none-there xs)

pub few-there : (ys xs : List (ℕ × Kind)) → ((b : ℕ) → count_by (has_serial b) xs ≤ 1) → count_by (λ e. list_any (has_serial e.0) ys) xs ≤ length ys
few-there [] xs once = omega (arith, none-there xs)
few-there (y ∷ ys) xs once =
    omega (
      arith,
      few-there ys xs once,
      once y.0,
      sum-le (λ (e : ℕ × Kind). cond (has_serial e.0 y) 1 0) (λ (e : ℕ × Kind). cond (has_serial y.0 e) 1 0) xs (λ e. swapped y.0 e.0),
      sum-above (λ (e : ℕ × Kind). cond (has_serial e.0 y) 1 0) (λ (e : ℕ × Kind). cond (list_any (has_serial e.0) ys) 1 0) (λ (e : ℕ × Kind). cond (list_any (has_serial e.0) (y ∷ ys)) 1 0) xs (λ e. or-sum (has_serial e.0 y) (list_any (has_serial e.0) ys)),
    )

pub sealed-once : (q : QueueState) (b : ℕ) → IsLoose q → sealed_count b q ≤ 1
sealed-once q b loose =
    omega (arith, loose.distinct b, sum-above (count_in Device b) (count_in Virtual b) (in_sealed b) q.sections (λ s. omega (arith, counts-all b s)))

one-way : (t : Bool) → 1 ≤ cond (not t) 1 0 + cond t 1 0
one-way true = omega arith
one-way false = omega arith

ones : (xs : List (ℕ × Kind)) (p : ℕ × Kind → Bool) → length xs ≤ count_by (λ e. not (p e)) xs + count_by p xs
ones [] p = omega arith
ones (x ∷ xs) p = omega (arith, sum_by-cons (λ e. cond (not (p e)) 1 0) x xs, sum_by-cons (λ e. cond (p e) 1 0) x xs, one-way (p x), ones xs p)

abbrev is_gone : QueueState → ℕ × Kind → Bool
is_gone now e = not (is_sealed now e.0)

-- the sealed blocks are at most those that are gone and those of the later state
pub blocks-gone : (old now : QueueState) → IsLoose old → sealed_blocks old ≤ gone_blocks old now + sealed_blocks now
blocks-gone old now loose =
    let there : ℕ × Kind → Bool = λ e. list_any (has_sealed e.0) now.sections in
    let in-line : ℕ × Kind → Bool = λ e. list_any (has_serial e.0) (line now.sections) in
    let a : length (line old.sections) ≤ count_by (is_gone now) (line old.sections) + count_by there (line old.sections) = ones (line old.sections) there in
    let b : count_by there (line old.sections) ≤ count_by in-line (line old.sections) = sum-le (λ e. cond (there e) 1 0) (λ e. cond (in-line e) 1 0) (line old.sections) (λ e. rw (any-line e.0 now.sections) (omega arith)) in
    let c : count_by in-line (line old.sections) ≤ length (line now.sections) = few-there (line now.sections) (line old.sections) (λ b. (let h = sum-line (λ e. cond (has_serial b e) 1 0) old.sections in omega (arith, h, sealed-once old b loose))) in
    let d : count_by (is_gone now) (line old.sections) ≡ gone_blocks old now = sum-line (λ e. cond (is_gone now e) 1 0) old.sections in
    omega (arith, a, b, c, d, length-line old.sections, length-line now.sections)
