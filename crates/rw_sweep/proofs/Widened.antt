-- One axis after another makes all combinations.
use Rattle.std.proofs.Common.{◌≡◌, ℕ, zero, suc, mul_assoc, ◌+◌, ◌*◌, ◌<◌, ◌≤◌, List, [], ◌∷◌, ◌++◌, length, map, min, refl, sym, ap, ◌∙◌, arith, inl, inr, length-append}
use Rattle.std.proofs.Common.{rules, Result, Ok, Err, IfOk}
use Rattle.std.specs.Global.{Vec}
use Rattle.std.specs.Prelude.{◌↔◌, IsTrue, nat_lt}
use Rattle.std.proofs.lemmas.Nat.{mul-le}
use Rattle.std.proofs.lemmas.Bool.{cases_lt}
use Rattle.std.proofs.lemmas.List.{length-map}
use Rattle.std.proofs.lemmas.Grind.{flat_map-append}
use Rattle.rw_sweep.specs.declared.choice.Choice.{Choice}
use Rattle.rw_sweep.specs.declared.axes.Axes.{Axes}
use Rattle.rw_sweep.specs.declared.axes.Axis.{Axis}
use Rattle.rw_sweep.specs.declared.axes.Axis.TheVariants.{Sections, Block, EdgeBlocks, OriginBlocks, Edges, Origins, Up, Down, Back}
use Rattle.rw_sweep.specs.Grids.{along, choice_of, combinations}
use Rattle.rw_sweep.specs.Widening.{first_choice, widened, with_number}

-- what is made of what is made of each
along-along : {A B C : Type 0} (xs : List A) (f : A → List B) (g : B → List C) → along (along xs f) g ≡ along xs (λ x. along (f x) g)
along-along [] f g = refl
along-along (x ∷ xs) f g = flat_map-append g (f x) (along xs f) ∙ ap (λ rest. along (f x) g ++ rest) (along-along xs f g)

along-map : {A B C : Type 0} (xs : List A) (h : A → B) (g : B → List C) → along (map h xs) g ≡ along xs (λ x. g (h x))
along-map [] h g = refl
along-map (x ∷ xs) h g = ap (λ rest. g (h x) ++ rest) (along-map xs h g)

-- what is made of each is the same
along-same : {A B : Type 0} (xs : List A) (f g : A → List B) → ((x : A) → f x ≡ g x) → along xs f ≡ along xs g
along-same xs f g same i = along xs (λ x. same x i)

-- what is made of choices with each of some numbers
step : (xs : List Choice) (axis : Axis) (ns : List ℕ) (g : Choice → List Choice) → along (widened axis ns xs) g ≡ along xs (λ x. along ns (λ n. g (with_number axis x n)))
step xs axis ns g =
    along-along xs (λ x. map (with_number axis x) ns) g
    ∙ along-same xs (λ x. along (map (with_number axis x) ns) g) (λ x. along ns (λ n. g (with_number axis x n))) (λ x. along-map ns (with_number axis x) g)

module _ (a : Axes) where
  -- what becomes of a choice by the axes from one of them on
  abbrev by-back : Choice → List Choice
  by-back x = map (with_number Back x) a.back.items

  abbrev by-down : Choice → List Choice
  by-down x = along a.down.items (λ n. by-back (with_number Down x n))

  abbrev by-up : Choice → List Choice
  by-up x = along a.up.items (λ n. by-down (with_number Up x n))

  abbrev by-origins : Choice → List Choice
  by-origins x = along a.origins.items (λ n. by-up (with_number Origins x n))

  abbrev by-edges : Choice → List Choice
  by-edges x = along a.edges.items (λ n. by-origins (with_number Edges x n))

  abbrev by-origin-blocks : Choice → List Choice
  by-origin-blocks x = along a.origin_blocks.items (λ n. by-edges (with_number OriginBlocks x n))

  abbrev by-edge-blocks : Choice → List Choice
  by-edge-blocks x = along a.edge_blocks.items (λ n. by-origin-blocks (with_number EdgeBlocks x n))

  abbrev by-block : Choice → List Choice
  by-block x = along a.blocks.items (λ n. by-edge-blocks (with_number Block x n))

  abbrev by-sections : Choice → List Choice
  by-sections x = along a.sections.items (λ n. by-block (with_number Sections x n))

  -- all combinations, one axis after another
  pub all-widened : (x₁ x₂ x₃ x₄ x₅ x₆ x₇ x₈ x₉ : List Choice) → x₁ ≡ map first_choice a.policies.items → x₂ ≡ widened Sections a.sections.items x₁ → x₃ ≡ widened Block a.blocks.items x₂
      → x₄ ≡ widened EdgeBlocks a.edge_blocks.items x₃ → x₅ ≡ widened OriginBlocks a.origin_blocks.items x₄ → x₆ ≡ widened Edges a.edges.items x₅ → x₇ ≡ widened Origins a.origins.items x₆
      → x₈ ≡ widened Up a.up.items x₇ → x₉ ≡ widened Down a.down.items x₈ → widened Back a.back.items x₉ ≡ combinations a
  all-widened x₁ x₂ x₃ x₄ x₅ x₆ x₇ x₈ x₉ h₁ h₂ h₃ h₄ h₅ h₆ h₇ h₈ h₉ =
      ap (λ xs. along xs by-back) h₉ ∙ (step x₈ Down a.down.items by-back
      ∙ (ap (λ xs. along xs by-down) h₈ ∙ (step x₇ Up a.up.items by-down
      ∙ (ap (λ xs. along xs by-up) h₇ ∙ (step x₆ Origins a.origins.items by-up
      ∙ (ap (λ xs. along xs by-origins) h₆ ∙ (step x₅ Edges a.edges.items by-origins
      ∙ (ap (λ xs. along xs by-edges) h₅ ∙ (step x₄ OriginBlocks a.origin_blocks.items by-edges
      ∙ (ap (λ xs. along xs by-origin-blocks) h₄ ∙ (step x₃ EdgeBlocks a.edge_blocks.items by-origin-blocks
      ∙ (ap (λ xs. along xs by-edge-blocks) h₃ ∙ (step x₂ Block a.blocks.items by-edge-blocks
      ∙ (ap (λ xs. along xs by-block) h₂ ∙ (step x₁ Sections a.sections.items by-block
      ∙ (ap (λ xs. along xs by-sections) h₁ ∙ along-map a.policies.items first_choice by-sections))))))))))))))))

-- as many of each
length-along : {A B : Type 0} (xs : List A) (f : A → List B) (n : ℕ) → ((x : A) → length (f x) ≡ n) → length (along xs f) ≡ length xs * n
length-along [] f n h = omega arith
length-along (x ∷ xs) f n h =
    let rest = length-along xs f n h in
    let next : (k n : ℕ) → n + k * n ≡ (k + 1) * n = λ k n. omega arith in
    let one : (k : ℕ) → k + 1 ≡ suc k = λ k. omega arith in
    length-append (f x) (along xs f) ∙ (ap (λ m. m + length (along xs f)) (h x) ∙ (ap (λ m. n + m) rest ∙ (next (length xs) n ∙ ap (λ k. k * n) (one (length xs)))))

-- how many combinations there are
pub length-combinations : (a : Axes) → length (combinations a) ≡ length a.policies.items * (length a.sections.items * (length a.blocks.items * (length a.edge_blocks.items * (length a.origin_blocks.items
    * (length a.edges.items * (length a.origins.items * (length a.up.items * (length a.down.items * length a.back.items))))))))
length-combinations a =
    let k₉ = length a.down.items * length a.back.items in
    let k₈ = length a.up.items * k₉ in
    let k₇ = length a.origins.items * k₈ in
    let k₆ = length a.edges.items * k₇ in
    let k₅ = length a.origin_blocks.items * k₆ in
    let k₄ = length a.edge_blocks.items * k₅ in
    let k₃ = length a.blocks.items * k₄ in
    let k₂ = length a.sections.items * k₃ in
    length-along a.policies.items _ k₂ (λ p.
    length-along a.sections.items _ k₃ (λ s.
    length-along a.blocks.items _ k₄ (λ b.
    length-along a.edge_blocks.items _ k₅ (λ e.
    length-along a.origin_blocks.items _ k₆ (λ o.
    length-along a.edges.items _ k₇ (λ m.
    length-along a.origins.items _ k₈ (λ n.
    length-along a.up.items _ k₉ (λ u.
    length-along a.down.items _ (length a.back.items) (λ d.
    length-map a.back.items (λ k. choice_of p s b e o m n u d k))))))))))

least-is : (x m : ℕ) → m ≤ x → min x m ≡ m
least-is x m l = omega arith

first-is : (x m : ℕ) → x ≤ m → min x m ≡ x
first-is x m l = omega arith

-- a product that stops at a limit
pub stopped-product : (m t b : ℕ) → min (min t m * b) m ≡ min (t * b) m
stopped-product m t zero = omega arith
stopped-product m t (suc b) =
    elim (cases_lt m t) [
      | inl more ↦
          let one : m * 1 ≤ m * suc b = mul-le m 1 m (suc b) (omega arith) (omega arith) in
          let other : m * 1 ≤ t * suc b = mul-le m 1 t (suc b) (omega arith) (omega arith) in
          ap (λ n. min (n * suc b) m) (least-is t m (omega arith)) ∙ (least-is (m * suc b) m (omega (arith, one)) ∙ sym (least-is (t * suc b) m (omega (arith, other))))
      | inr less ↦ ap (λ n. min (n * suc b) m) (first-is t m less)
    ]

-- one number more
stopped-more : (m t b n k : ℕ) → n ≡ min t m → k ≡ min (n * b) m → k ≡ min (t * b) m
stopped-more m t b n k before here = here ∙ (ap (λ i. min (i * b) m) before ∙ stopped-product m t b)

-- ten numbers multiplied so
pub stopped-products : (m p s b e o f g u d k n₁ n₂ n₃ n₄ n₅ n₆ n₇ n₈ n₉ : ℕ) → n₁ ≡ min (p * s) m → n₂ ≡ min (n₁ * b) m → n₃ ≡ min (n₂ * e) m → n₄ ≡ min (n₃ * o) m → n₅ ≡ min (n₄ * f) m
    → n₆ ≡ min (n₅ * g) m → n₇ ≡ min (n₆ * u) m → n₈ ≡ min (n₇ * d) m → n₉ ≡ min (n₈ * k) m
    → n₉ ≡ min (p * (s * (b * (e * (o * (f * (g * (u * (d * k))))))))) m
stopped-products m p s b e o f g u d k n₁ n₂ n₃ n₄ n₅ n₆ n₇ n₈ n₉ h₁ h₂ h₃ h₄ h₅ h₆ h₇ h₈ h₉ =
    let t₁ = p * s in
    let t₂ = t₁ * b in
    let t₃ = t₂ * e in
    let t₄ = t₃ * o in
    let t₅ = t₄ * f in
    let t₆ = t₅ * g in
    let t₇ = t₆ * u in
    let t₈ = t₇ * d in
    let r₉ = d * k in
    let r₈ = u * r₉ in
    let r₇ = g * r₈ in
    let r₆ = f * r₇ in
    let r₅ = o * r₆ in
    let r₄ = e * r₅ in
    let r₃ = b * r₄ in
    let two = stopped-more m t₁ b n₁ n₂ h₁ h₂ in
    let three = stopped-more m t₂ e n₂ n₃ two h₃ in
    let four = stopped-more m t₃ o n₃ n₄ three h₄ in
    let five = stopped-more m t₄ f n₄ n₅ four h₅ in
    let six = stopped-more m t₅ g n₅ n₆ five h₆ in
    let seven = stopped-more m t₆ u n₆ n₇ six h₇ in
    let eight = stopped-more m t₇ d n₇ n₈ seven h₈ in
    stopped-more m t₈ k n₈ n₉ eight h₉
    ∙ ap (λ n. min n m) (mul_assoc t₇ d k ∙ (mul_assoc t₆ u r₉ ∙ (mul_assoc t₅ g r₈ ∙ (mul_assoc t₄ f r₇ ∙ (mul_assoc t₃ o r₆ ∙ (mul_assoc t₂ e r₅ ∙ (mul_assoc t₁ b r₄ ∙ mul_assoc p s r₃)))))))

-- more than so many, by a product that stopped at a greater limit
pub told-by-stopped : (k n t m : ℕ) → n ≡ min t m → k < m → IsTrue (nat_lt k n) ↔ (k < t)
told-by-stopped k n t m is l = search rules

-- what a call gives is also what that is
pub last-widened : {E : Type 0} (r : Result (Vec Choice) E) (xs ys : List Choice) → IfOk r (λ v. v.items ≡ xs) → xs ≡ ys → IfOk r (λ v. v.items ≡ ys)
last-widened (Ok v) xs ys is same = is ∙ same
last-widened (Err e) xs ys is same = tt
