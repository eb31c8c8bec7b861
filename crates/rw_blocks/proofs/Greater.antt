-- The fill of a block is the greater of what it holds as a home and as a place.
use Rattle.std.proofs.Common.{◌≡◌, ℕ, ◌≤◌, List, [], ◌∷◌, refl, sym, ap, ◌∙◌, arith, Bool, true, false, cond, nat_eq, ◌⊎◌, inl, inr, get_or, max}
use Rattle.std.specs.Prelude.{sum_by, All}
use Rattle.std.specs.Map.{values_of}
use Rattle.std.proofs.lemmas.Bool.{eqb-true, eq-eqb, cases_lt}
use Rattle.std.proofs.lemmas.List.Sums.{sum_by-cons}
use Rattle.std.proofs.lemmas.List.Elements.{All-tail}
use Rattle.rw_blocks.specs.declared.Kind.TheVariants.{Device, Virtual}
use Rattle.rw_blocks.specs.declared.Place.{Place}
use Rattle.rw_blocks.specs.State.{QueueState}
use Rattle.rw_blocks.specs.Sums.{fill, bytes_held}
use Rattle.rw_blocks.specs.Loose.{IsLoose, count}
use Rattle.rw_blocks.proofs.Kept.{bytes_held-is, weight}
use Rattle.rw_blocks.proofs.Grown.{bytes_held-nowhere}
use Rattle.rw_blocks.proofs.Fills.{has_kind-some, has_kind-none}

sum_le : (f g : Place → ℕ) (rs : List Place) → All (λ r. f r ≤ g r) rs → sum_by f rs ≤ sum_by g rs
sum_le f g [] all = omega arith
sum_le f g (r ∷ rs) all =
    omega (arith, sum_by-cons f r rs, sum_by-cons g r rs, all 0 r (omega arith), sum_le f g rs (All-tail (λ x. f x ≤ g x) r rs all))

cond_le : (c d : Bool) (n : ℕ) → (c ≡ true → d ≡ true) → cond c n 0 ≤ cond d n 0
cond_le true d n h = rw (h refl) (omega arith)
cond_le false d n h = omega arith

-- what is placed on a device block has its home there
placed-le-homed : (q : QueueState) (b : ℕ) → IsLoose q → count Device q b ≡ 1 → bytes_held Virtual q b ≤ bytes_held Device q b
placed-le-homed q b loose once =
    rw (bytes_held-is Virtual q b, bytes_held-is Device q b)
    (sum_le (weight Virtual b) (weight Device b) (values_of q.rows) (λ k d lt.
    let r : Place = get_or (values_of q.rows) k d in
    cond_le (nat_eq r.place b) (nat_eq r.home b) r.size (λ h.
    let e : r.place ≡ b = eqb-true r.place b h in
    let p : (r.place ≡ r.home) ⊎ (count Virtual q r.place ≡ 1) = loose.places k d lt in
    elim p [
      | inl same ↦ eq-eqb r.home b (sym same ∙ e)
      | inr v ↦ (let w : count Virtual q r.place ≡ count Virtual q b = ap (count Virtual q) e in absurd (omega (arith, v, w, once, loose.distinct b)))
    ])))

-- a block that is no device block is no home
homed-none : (q : QueueState) (b : ℕ) → IsLoose q → count Device q b ≡ 0 → bytes_held Device q b ≡ 0
homed-none q b loose none =
    let le : bytes_held Device q b ≤ sum_by (λ (r : Place). cond false r.size 0) (values_of q.rows) =
    rw (bytes_held-is Device q b)
    (sum_le (weight Device b) (λ r. cond false r.size 0) (values_of q.rows) (λ k d lt.
    let r : Place = get_or (values_of q.rows) k d in
    cond_le (nat_eq r.home b) false r.size (λ h.
    let e : count Device q r.home ≡ count Device q b = ap (count Device q) (eqb-true r.home b h) in
    let one : count Device q r.home ≡ 1 = loose.homes k d lt in
    absurd (omega (arith, e, one, none))))) in
    omega (arith, le, nothing (values_of q.rows))
  where
    nothing : (rs : List Place) → sum_by (λ (r : Place). cond false r.size 0) rs ≡ 0
    nothing [] = refl
    nothing (r ∷ rs) = omega (arith, nothing rs, sum_by-cons (λ (x : Place). cond false x.size 0) r rs)

pub fill-greater : (q : QueueState) (b : ℕ) → IsLoose q → max (bytes_held Device q b) (bytes_held Virtual q b) ≡ fill q b
fill-greater q b loose =
    elim (cases_lt 0 (count Device q b)) [
      | inl some ↦
          let once : count Device q b ≡ 1 = omega (arith, loose.distinct b) in
          rw (has_kind-some Device q b (omega arith)) (let le = placed-le-homed q b loose once in omega (arith, le))
      | inr le ↦
          let none : count Device q b ≡ 0 = omega arith in
          let zero : bytes_held Device q b ≡ 0 = homed-none q b loose none in
          rw (has_kind-none Device q b none)
          (elim (cases_lt 0 (count Virtual q b)) [
            | inl some ↦ rw (has_kind-some Virtual q b (omega arith)) (omega (arith, zero))
            | inr le' ↦
                let none' : count Virtual q b ≡ 0 = omega arith in
                let zero' : bytes_held Virtual q b ≡ 0 = bytes_held-nowhere q Virtual b loose (omega arith) in
                rw (has_kind-none Virtual q b none') (omega (arith, zero, zero'))
          ])
    ]
