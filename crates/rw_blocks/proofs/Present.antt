-- Which sections have a block, by the counts of a loose queue.
use Rattle.std.proofs.Common.{◌≡◌, ℕ, ◌+◌, ◌≤◌, ◌<◌, List, [], ◌∷◌, refl, sym, ap, ◌∙◌, arith, Bool, true, false, cond, nat_eq, ◌⊎◌, inl, inr, length, get_or}
use Rattle.std.specs.Prelude.{count_by, not, ◌||◌, ◌&&◌, nat_lt, All, Option, Some, None, IsSome, IsNone}
use Rattle.std.specs.List.{list_any}
use Rattle.std.specs.Map.{values_of}
use Rattle.std.proofs.lemmas.Bool.{lt-ltb, le-ltb, ltb-false}
use Rattle.std.proofs.lemmas.Bool.Decides.{nat_tests}
use Rattle.std.proofs.lemmas.List.Sums.{sum_by-cons, get_or-le-sum_by, sum_by-le}
use Rattle.rw_blocks.specs.declared.Kind.TheVariants.{Device, Virtual}
use Rattle.rw_blocks.specs.declared.Place.{Place}
use Rattle.rw_blocks.specs.declared.Vanished.{Vanished}
use Rattle.rw_blocks.specs.Sections.{SectionState, no_section, blocks_of, section_in, has_block, has_serial}
use Rattle.rw_blocks.specs.State.{QueueState, row_at}
use Rattle.rw_blocks.specs.Loose.{IsLoose, count, count_in}
use Rattle.rw_blocks.specs.Changes.{section_joining}
use Rattle.rw_blocks.specs.Tags.{IsAbsent, Parts, Joins, is_vanishing}
use Rattle.rw_blocks.proofs.Serials.{kinds}
use Rattle.rw_blocks.proofs.Kept.{of_row}
use Rattle.std.proofs.lemmas.List.{get_or_default}
use Rattle.rw_blocks.proofs.Grown.{count_in-cons, one}
use Rattle.rw_blocks.proofs.Moved.{left_out, count_in-section_joining}
use Rattle.rw_blocks.proofs.Entries.{by_test}

pub any-count : {X : Type 0} (p : X → Bool) (xs : List X) → list_any p xs ≡ nat_lt 0 (count_by p xs)
any-count p [] = refl
any-count p (x ∷ xs) =
    let sum = sum_by-cons (λ y. cond {A = ℕ} (p y) 1 0) x xs in
    let rest : list_any p xs ≡ nat_lt 0 (count_by p xs) = any-count p xs in
    by_test (p x)
    (λ h.
    let some : count_by p (x ∷ xs) ≡ 1 + count_by p xs = sum ∙ ap (λ b. cond {A = ℕ} b 1 0 + count_by p xs) h in
    ap (λ b. b || list_any p xs) h ∙ sym (lt-ltb 0 (count_by p (x ∷ xs)) (omega (arith, some))))
    (λ h.
    let same : count_by p (x ∷ xs) ≡ 0 + count_by p xs = sum ∙ ap (λ b. cond {A = ℕ} b 1 0 + count_by p xs) h in
    let e : count_by p (x ∷ xs) ≡ count_by p xs = omega (arith, same) in
    ap (λ b. b || list_any p xs) h ∙ (rest ∙ ap (nat_lt 0) (sym e)))

-- how many blocks of a section have the serial
abbrev pub times : ℕ → SectionState → ℕ
times b s = count_in Device b s + count_in Virtual b s

pub has-times : (b : ℕ) (s : SectionState) → has_block b s ≡ nat_lt 0 (times b s)
has-times b s = any-count (has_serial b) (blocks_of s) ∙ ap (nat_lt 0) (sym (kinds b (blocks_of s)))

pub absent-none : (q : QueueState) (b : ℕ) → count Device q b + count Virtual q b ≡ 0 → IsAbsent b q.sections
absent-none q b none i lt =
    let d = get_or-le-sum_by (count_in Device b) q.sections i no_section lt in
    let v = get_or-le-sum_by (count_in Virtual b) q.sections i no_section lt in
    let zero-times : times b (section_in q.sections i) ≡ 0 = omega (arith, d, v, none) in
    has-times b (section_in q.sections i) ∙ (ap (nat_lt 0) zero-times ∙ le-ltb 0 0 (omega arith))

none-times : (b : ℕ) (s : SectionState) → has_block b s ≡ false → times b s ≡ 0
none-times b s h = omega (arith, ltb-false 0 (times b s) (sym (has-times b s) ∙ h))

pub none-absent : (q : QueueState) (b : ℕ) → IsAbsent b q.sections → count Device q b + count Virtual q b ≡ 0
none-absent q b absent =
    omega (
      arith,
      sum_by-le (count_in Device b) 0 q.sections (λ k d lt. omega (arith, none-times b (get_or q.sections k d) (at k d lt))),
      sum_by-le (count_in Virtual b) 0 q.sections (λ k d lt. omega (arith, none-times b (get_or q.sections k d) (at k d lt))),
    )
  where
    at : (k : ℕ) (d : SectionState) → k < length q.sections → has_block b (get_or q.sections k d) ≡ false
    at k d lt = ap (has_block b) (get_or_default q.sections k d no_section lt) ∙ absent k lt

-- each row's place is a block
pub place-there : (q : QueueState) (r : Place) → (r.place ≡ r.home) ⊎ (count Virtual q r.place ≡ 1) → count Device q r.home ≡ 1 → 1 ≤ count Device q r.place + count Virtual q r.place
place-there q r placed homed =
    elim placed [
      | inl e ↦ (let same : count Device q r.place ≡ count Device q r.home = ap (count Device q) e in omega (arith, same, homed))
      | inr v ↦ omega (arith, v)
    ]

pub all-places : (q : QueueState) → IsLoose q → All (λ r. 1 ≤ count Device q r.place + count Virtual q r.place) (values_of q.rows)
all-places q loose k d lt = place-there q (get_or (values_of q.rows) k d) (loose.places k d lt) (loose.homes k d lt)

-- ---- a section that is joined of two
pub times-joining : (v : Vanished) (u l : SectionState) (b : ℕ) → times b (section_joining v u l) + (left_out v l Device b + left_out v l Virtual b) ≡ times b u + times b l
times-joining v u l b = omega (arith, count_in-section_joining v u l Device b, count_in-section_joining v u l Virtual b)

-- a block counts as one of its kind alone
both_kinds : (m n c d : Bool)
    → ((m && c) || (n && d)) ≡ nat_lt 0 ((cond m (cond {A = ℕ} (c && true) 1 0) 0 + cond n (cond {A = ℕ} (d && false) 1 0) 0) + (cond m (cond {A = ℕ} (c && false) 1 0) 0 + cond n (cond {A = ℕ} (d && true) 1 0) 0))
both_kinds true true true true = refl
both_kinds true true true false = refl
both_kinds true true false true = refl
both_kinds true true false false = refl
both_kinds true false true d = refl
both_kinds true false false d = refl
both_kinds false true c true = refl
both_kinds false true c false = refl
both_kinds false false c d = refl

pub gone-times : (v : Vanished) (l : SectionState) (b : ℕ) → is_vanishing v l b ≡ nat_lt 0 (left_out v l Device b + left_out v l Virtual b)
gone-times v l b = both_kinds v.device v.virtual_block (nat_eq l.active_device b) (nat_eq l.active_virtual b)

cond-le : (t : Bool) (n : ℕ) → cond t n 0 ≤ n
cond-le true n = omega arith
cond-le false n = omega arith

pub gone-le : (v : Vanished) (l : SectionState) (b : ℕ) → left_out v l Device b + left_out v l Virtual b ≤ times b l
gone-le v l b =
    omega (
      arith,
      count_in-cons Device b l,
      count_in-cons Virtual b l,
      cond-le v.device (one Device l.active_device Device b),
      cond-le v.device (one Device l.active_device Virtual b),
      cond-le v.virtual_block (one Virtual l.active_virtual Device b),
      cond-le v.virtual_block (one Virtual l.active_virtual Virtual b),
    )

joins-by : (j v u l : ℕ) → j + v ≡ u + l → u + l ≤ 1 → v ≤ l → nat_lt 0 j ≡ (nat_lt 0 u || (nat_lt 0 l && not (nat_lt 0 v)))
joins-by j v u l sum once le = grind (arith, nat_tests)

parts-by : (s v u l : ℕ) → s + v ≡ u + l → u + l ≤ 1 → v ≤ l → nat_lt 0 u ≡ (nat_lt 0 s && not (nat_lt 0 l))
parts-by s v u l sum once le = grind (arith, nat_tests)

pub Joins-once : (v : Vanished) (u l : SectionState) → ((b : ℕ) → times b u + times b l ≤ 1) → Joins u l (is_vanishing v l) (section_joining v u l)
Joins-once v u l once b =
    let gone : ℕ = left_out v l Device b + left_out v l Virtual b in
    rw (has-times b (section_joining v u l), has-times b u, has-times b l, gone-times v l b)
    (joins-by (times b (section_joining v u l)) gone (times b u) (times b l) (times-joining v u l b) (once b) (gone-le v l b))

pub Parts-once : (v : Vanished) (u l : SectionState) → ((b : ℕ) → times b u + times b l ≤ 1) → Parts (section_joining v u l) u l
Parts-once v u l once b =
    let gone : ℕ = left_out v l Device b + left_out v l Virtual b in
    rw (has-times b (section_joining v u l), has-times b u, has-times b l)
    (parts-by (times b (section_joining v u l)) gone (times b u) (times b l) (times-joining v u l b) (once b) (gone-le v l b))

-- the place of a row is in some section
pub row-there : (q : QueueState) (o : ℕ) (r : Place) (at : Option ℕ) → IsLoose q → row_at q o ≡ Some r → (IsNone at → IsAbsent r.place q.sections) → IsSome at
row-there q o r (Some i) loose found absent = refl
row-there q o r None loose found absent =
    let there : 1 ≤ count Device q r.place + count Virtual q r.place = of_row q o r (λ x. 1 ≤ count Device q x.place + count Virtual q x.place) (all-places q loose) found in
    absurd (omega (arith, there, none-absent q r.place (absent refl)))
