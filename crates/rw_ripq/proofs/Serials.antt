-- The displaced rows are few, and a new object finds room in the total.
use Rattle.std.proofs.Common.{◌≡◌, ℕ, ◌+◌, ◌*◌, ◌≤◌, ◌^◌, List, [], ◌∷◌, ◌++◌, refl, sym, ap, ◌∙◌, arith, Bool, true, false, cond, length, nat_eq, get_or, inl, inr}
use Rattle.std.specs.Prelude.{sum_by, count_by, not, ◌&&◌}
use Rattle.std.specs.List.{AllByRecursion, list_any}
use Rattle.std.specs.Map.{values_of}
use Rattle.std.proofs.lemmas.Bool.{eq-eqb, ne_eqb, cases_eq}
use Rattle.std.proofs.lemmas.List.Sums.{sum_by-cons, sum_by-append, sum_by-le}
use Rattle.std.proofs.lemmas.List.Elements.{recursion_from_All}
use Rattle.rw_blocks.proofs.Cited.{bytes_held-is, weight}
use Rattle.rw_blocks.specs.Loose.{IsLoose, count, sealed_devices}
use Rattle.rw_blocks.specs.Sections.{SectionState, blocks_of, is_kind}
use Rattle.rw_blocks.specs.State.{IsShape, QueueState}
use Rattle.rw_blocks.specs.Sums.{total}
use Rattle.rw_blocks.specs.declared.Kind.{Kind}
use Rattle.rw_blocks.specs.declared.Kind.TheVariants.{Device, Virtual}
use Rattle.rw_blocks.specs.declared.Place.{Place}
use Rattle.rw_ripq.proofs.Basics.{by_bool}
use Rattle.rw_ripq.proofs.Falls.{sum-le}
use Rattle.rw_ripq.proofs.Turns.{sum-above}
use Rattle.rw_ripq.specs.Evict.{displaced_rows}

-- ---- the displaced rows are few
at-most-one : (t : Bool) → cond t 1 0 ≤ 1
at-most-one true = omega arith
at-most-one false = omega arith

count-length : {X : Type 0} (p : X → Bool) (xs : List X) → count_by p xs ≤ length xs
count-length p [] = omega arith
count-length p (x ∷ xs) = omega (arith, sum_by-cons (λ x. cond (p x) 1 0) x xs, at-most-one (p x), count-length p xs)

length-le-sizes : (rs : List Place) → AllByRecursion (λ r. 1 ≤ r.size) rs → length rs ≤ sum_by (λ r. r.size) rs
length-le-sizes [] all = omega arith
length-le-sizes (r ∷ rs) all = omega (arith, sum_by-cons (λ (r : Place). r.size) r rs, length-le-sizes rs all.1, all.0)

pub displaced-few : (q : QueueState) → IsLoose q → displaced_rows q ≤ 2 ^ 48
displaced-few q loose =
    omega (arith, count-length (λ (r : Place). not (nat_eq r.place r.home)) (values_of q.rows), length-le-sizes (values_of q.rows) (recursion_from_All (λ r. 1 ≤ r.size) (values_of q.rows) (λ k d lt. (loose.sizes k d lt).0)), loose.within)

-- ---- the total of a well-formed queue
abbrev all_line : List SectionState → List (ℕ × Kind)
all_line [] = []
all_line (s ∷ ss) = blocks_of s ++ all_line ss

sum-all_line : (f : ℕ × Kind → ℕ) (ss : List SectionState) → sum_by f (all_line ss) ≡ sum_by (λ s. sum_by f (blocks_of s)) ss
sum-all_line f [] = refl
sum-all_line f (s ∷ ss) = omega (arith, sum_by-append f (blocks_of s) (all_line ss), sum_by-cons (λ (s : SectionState). sum_by f (blocks_of s)) s ss, sum-all_line f ss)

abbrev is_home : ℕ → ℕ × Kind → Bool
is_home b e = nat_eq e.0 b && is_kind Device e.1

abbrev room : QueueState → ℕ × Kind → ℕ
room q e = cond (is_kind Device e.1) (sum_by (weight Device e.0) (values_of q.rows)) 0

-- the bytes of the rows whose home is none of the blocks
abbrev elsewhere : List (ℕ × Kind) → Place → ℕ
elsewhere xs r = cond (list_any (is_home r.home) xs) 0 r.size

with-device : (b : ℕ) (xs : List (ℕ × Kind)) (r : Place) → elsewhere xs r ≤ weight Device b r + elsewhere ((b, Device) ∷ xs) r
with-device b xs r = elim (cases_eq r.home b) [
  | inl e ↦ (let w : weight Device b r ≡ r.size = rw (eq-eqb r.home b e) refl in omega (arith, w, top (list_any (is_home r.home) xs) r.size))
  | inr ne ↦ rw (ne_eqb b r.home (λ e. ne (sym e))) (omega arith)
]
  where
    top : (t : Bool) (n : ℕ) → cond t 0 n ≤ n
    top true n = omega arith
    top false n = omega arith

and-false : (t : Bool) → (t && false) ≡ false
and-false true = refl
and-false false = refl

with-virtual : (b : ℕ) (xs : List (ℕ × Kind)) (r : Place) → elsewhere xs r ≤ elsewhere ((b, Virtual) ∷ xs) r
with-virtual b xs r = rw (and-false (nat_eq b r.home)) (omega arith)

spread : (q : QueueState) (xs : List (ℕ × Kind)) → total q ≤ sum_by (room q) xs + sum_by (elsewhere xs) (values_of q.rows)
spread q [] = omega arith
spread q ((b, Device) ∷ xs) =
    omega (arith, spread q xs, sum_by-cons (room q) (b, Device) xs, sum-above (weight Device b) (elsewhere ((b, Device) ∷ xs)) (elsewhere xs) (values_of q.rows) (with-device b xs))
spread q ((b, Virtual) ∷ xs) =
    omega (arith, spread q xs, sum_by-cons (room q) (b, Virtual) xs, sum-le (elsewhere xs) (elsewhere ((b, Virtual) ∷ xs)) (values_of q.rows) (with-virtual b xs))

none-sum : {X : Type 0} (p : X → Bool) (xs : List X) → list_any p xs ≡ false → count_by p xs ≡ 0
none-sum p [] h = refl
none-sum p (x ∷ xs) h =
    by_bool (p x)
    (λ t. absurd (clash (rw t at h)))
    (λ g. (let n : ℕ = cond (p x) 1 0 in let z : n ≡ 0 = rw g refl in omega (arith, sum_by-cons (λ x. cond (p x) 1 0) x xs, z, none-sum p xs (rw g at h))))
  where
    clash : true ≡ false → ⊥
    clash e = cc

nothing-elsewhere : (q : QueueState) → IsLoose q → sum_by (elsewhere (all_line q.sections)) (values_of q.rows) ≡ 0
nothing-elsewhere q loose =
    omega (
      arith,
      sum_by-le (elsewhere (all_line q.sections)) 0 (values_of q.rows) (λ k d lt.
          let r : Place = get_or (values_of q.rows) k d in
          let h : count Device q r.home ≡ 1 = loose.homes k d lt in
          let e : count_by (is_home r.home) (all_line q.sections) ≡ count Device q r.home = sum-all_line (λ e. cond (is_home r.home e) 1 0) q.sections in
          by_bool (list_any (is_home r.home) (all_line q.sections))
          (λ t. rw t (omega arith))
          (λ f. absurd (omega (arith, h, e, none-sum (is_home r.home) (all_line q.sections) f)))),
    )

-- no device block holds more than a block's bytes
bytes_held-small : (q : QueueState) (b : ℕ) → IsLoose q → sum_by (weight Device b) (values_of q.rows) ≤ q.shape.block
bytes_held-small q b loose = elim (cases_eq (count Device q b) 1) [
  | inl one ↦ omega (arith, loose.fills Device b one, bytes_held-is Device q b)
  | inr ne ↦ omega (
    arith,
    sum_by-le (weight Device b) 0 (values_of q.rows) (λ k d lt.
        let r : Place = get_or (values_of q.rows) k d in
        let h : count Device q r.home ≡ 1 = loose.homes k d lt in
        rw (ne_eqb r.home b (λ e. ne (sym (ap (count Device q) e) ∙ h))) (omega arith)),
  )
]

room-small : (q : QueueState) (e : ℕ × Kind) → IsLoose q → q.shape.block ≤ 2 ^ 28 → room q e ≤ 2 ^ 28 * cond (is_kind Device e.1) 1 0
room-small q (b, Device) loose small = omega (arith, bytes_held-small q b loose)
room-small q (b, Virtual) loose small = omega arith

sum-times : (f g : ℕ × Kind → ℕ) (xs : List (ℕ × Kind)) → ((e : ℕ × Kind) → f e ≤ 2 ^ 28 * g e) → sum_by f xs ≤ 2 ^ 28 * sum_by g xs
sum-times f g [] le = omega arith
sum-times f g (x ∷ xs) le = omega (arith, sum_by-cons f x xs, sum_by-cons g x xs, le x, sum-times f g xs le)

abbrev is_device : ℕ × Kind → Bool
is_device e = is_kind Device e.1

devices-of : (ss : List SectionState) → count_by is_device (all_line ss) ≡ length ss + sum_by (λ s. count_by is_device s.sealed) ss
devices-of [] = refl
devices-of (s ∷ ss) =
    let f : ℕ × Kind → ℕ = λ e. cond (is_device e) 1 0 in
    omega (arith, devices-of ss, sum_by-append f (blocks_of s) (all_line ss), sum_by-cons f (s.active_device, Device) ((s.active_virtual, Virtual) ∷ s.sealed), sum_by-cons f (s.active_virtual, Virtual) s.sealed, sum_by-cons (λ (s : SectionState). count_by is_device s.sealed) s ss)

pub total-room : (q : QueueState) → IsLoose q → IsShape q.shape.sections q.shape.block q.shape.blocks → sealed_devices q ≤ q.shape.blocks → total q + q.shape.block ≤ 2 ^ 48
total-room q loose shape few =
    omega (
      arith,
      spread q (all_line q.sections),
      nothing-elsewhere q loose,
      sum-times (room q) (λ e. cond (is_device e) 1 0) (all_line q.sections) (λ e. room-small q e loose (omega (arith, shape.3))),
      devices-of q.sections,
      few,
      loose.few_sections,
      shape.1,
      shape.3,
      shape.5,
    )
