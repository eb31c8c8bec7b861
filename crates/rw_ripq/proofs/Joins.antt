-- What a merge and a split keep behind a block, and that nothing is behind the last block.
use Rattle.std.proofs.Common.{◌≡◌, ℕ, ◌+◌, ◌≤◌, ◌<◌, List, [], ◌∷◌, ◌++◌, refl, sym, ap, subst, arith, Bool, true, false, cond, length, nat_eq, set, get_or, take, drop, ◌⊎◌, inl, inr, zero, suc}
use Rattle.std.specs.Prelude.{Option, Some, sum_by, count_by, insert, remove}
use Rattle.std.specs.List.{list_any}
use Rattle.std.proofs.lemmas.Bool.{eq-eqb, or_cases}
use Rattle.std.proofs.lemmas.List.{take-append-drop}
use Rattle.std.proofs.lemmas.List.Sums.{sum_by-cons}
use Rattle.rw_blocks.proofs.Cited.{at_block}
use Rattle.rw_blocks.specs.Loose.{IsLoose, count_in}
use Rattle.rw_blocks.specs.Changes.{block_unless, section_joining}
use Rattle.rw_blocks.specs.Questions.{last_from, last_or}
use Rattle.rw_blocks.specs.Sections.{SectionState, blocks_of, no_section, has_block, has_serial}
use Rattle.rw_blocks.specs.State.{QueueState}
use Rattle.rw_blocks.specs.declared.Kind.{Kind}
use Rattle.rw_blocks.specs.declared.Vanished.{Vanished}
use Rattle.rw_blocks.specs.declared.Kind.TheVariants.{Device, Virtual}
use Rattle.rw_ripq.proofs.Basics.{some_is, true_not_false}
use Rattle.rw_ripq.proofs.Behinds.{any-cases, any-left, any-right, before-cases, before-cross, before-left, before-right, behind_in-has, has-cases, has-device, has-inside, has-shadow, or-left, or-right}
use Rattle.rw_ripq.proofs.Falls.{last-there, narrow, sealed_at, sum-le}
use Rattle.rw_ripq.proofs.Measures.{any-counts}
use Rattle.rw_ripq.proofs.Turns.{either-kind, sum-above}
use Rattle.rw_ripq.specs.Order.{Before, Behind, BehindIn}
use Rattle.rw_ripq.specs.Sealed.{has_sealed}
use Rattle.rw_ripq.specs.Victim.{in_sealed}

-- ---- merge
module _ (x c : ℕ) where
  -- the block is not one that vanishes
  pub record Stays (v : Vanished) (l : SectionState) : Type 0 where
    pub active_device : v.device ≡ true → l.active_device ≡ x → ⊥
    pub active_virtual : v.virtual_block ≡ true → l.active_virtual ≡ x → ⊥

abbrev pub shadow_of : Vanished → SectionState → List (ℕ × Kind)
shadow_of v l = block_unless v.virtual_block (l.active_virtual, Virtual) ++ l.sealed

abbrev pub tail_of : Vanished → SectionState → List (ℕ × Kind)
tail_of v l = block_unless v.device (l.active_device, Device) ++ shadow_of v l

tail-sealed : (c : ℕ) (v : Vanished) (l : SectionState) → has_sealed c l ≡ true → list_any (has_serial c) (tail_of v l) ≡ true
tail-sealed c v l h =
    any-right (has_serial c) (block_unless v.device (l.active_device, Device)) (shadow_of v l) (any-right (has_serial c) (block_unless v.virtual_block (l.active_virtual, Virtual)) l.sealed h)

first-has : (x : ℕ) (m : Bool) (e : ℕ × Kind) (es : List (ℕ × Kind)) → (m ≡ true → e.0 ≡ x → ⊥) → e.0 ≡ x → list_any (has_serial x) (block_unless m e ++ es) ≡ true
first-has x true e es stays is = absurd (stays refl is)
first-has x false e es stays is = or-left (nat_eq e.0 x) (list_any (has_serial x) es) (eq-eqb e.0 x is)

tail-has : (x c : ℕ) (v : Vanished) (l : SectionState) → Stays x c v l → has_block x l ≡ true → list_any (has_serial x) (tail_of v l) ≡ true
tail-has x c v l stays h = elim (has-cases x l h) [
  | inl e ↦ first-has x v.device (l.active_device, Device) (shadow_of v l) stays.active_device e
  | inr r ↦ elim r [
    | inl e ↦ any-right (has_serial x) (block_unless v.device (l.active_device, Device)) (shadow_of v l) (first-has x v.virtual_block (l.active_virtual, Virtual) l.sealed stays.active_virtual e)
    | inr k ↦ tail-sealed x v l k
  ]
]

before-first : (x c : ℕ) (m : Bool) (e : ℕ × Kind) (es : List (ℕ × Kind)) → (m ≡ true → e.0 ≡ x → ⊥) → e.0 ≡ x → list_any (has_serial c) es ≡ true → Before x c (block_unless m e ++ es)
before-first x c true e es stays is h = absurd (stays refl is)
before-first x c false e es stays is h = inl (is, h)

before-tail : (x c : ℕ) (v : Vanished) (l : SectionState) → Stays x c v l → BehindIn x c l → Before x c (tail_of v l)
before-tail x c v l stays b = elim b [
  | inl h ↦ elim h.0 [
    | inl e ↦ before-first x c v.device (l.active_device, Device) (shadow_of v l) stays.active_device e (any-right (has_serial c) (block_unless v.virtual_block (l.active_virtual, Virtual)) l.sealed h.1)
    | inr e ↦ before-right x c (block_unless v.device (l.active_device, Device)) (shadow_of v l) (before-first x c v.virtual_block (l.active_virtual, Virtual) l.sealed stays.active_virtual e h.1)
  ]
  | inr r ↦ before-right x c (block_unless v.device (l.active_device, Device)) (shadow_of v l) (before-right x c (block_unless v.virtual_block (l.active_virtual, Virtual)) l.sealed r)
]

section_joining-upper : (x c : ℕ) (v : Vanished) (u l : SectionState) → BehindIn x c u → BehindIn x c (section_joining v u l)
section_joining-upper x c v u l b = elim b [
  | inl h ↦ inl (h.0, any-left (has_serial c) u.sealed (tail_of v l) h.1)
  | inr r ↦ inr (before-left x c u.sealed (tail_of v l) r)
]

section_joining-cross : (x c : ℕ) (v : Vanished) (u l : SectionState) → has_block x u ≡ true → has_sealed c l ≡ true → BehindIn x c (section_joining v u l)
section_joining-cross x c v u l h k = elim (has-cases x u h) [
  | inl e ↦ inl (inl e, any-right (has_serial c) u.sealed (tail_of v l) (tail-sealed c v l k))
  | inr r ↦ elim r [
    | inl e ↦ inl (inr e, any-right (has_serial c) u.sealed (tail_of v l) (tail-sealed c v l k))
    | inr s ↦ inr (before-cross x c u.sealed (tail_of v l) s (tail-sealed c v l k))
  ]
]

section_joining-lower : (x c : ℕ) (v : Vanished) (u l : SectionState) → Stays x c v l → BehindIn x c l → BehindIn x c (section_joining v u l)
section_joining-lower x c v u l stays b = inr (before-right x c u.sealed (tail_of v l) (before-tail x c v l stays b))

section_joining-has : (x : ℕ) (v : Vanished) (u l : SectionState) → has_block x u ≡ true → has_block x (section_joining v u l) ≡ true
section_joining-has x v u l h =
    let t : SectionState = section_joining v u l in
    elim (has-cases x u h) [
      | inl e ↦ has-device x t e
      | inr r ↦ elim r [
        | inl e ↦ has-shadow x t e
        | inr s ↦ has-inside x t (any-left (has_serial x) u.sealed (tail_of v l) s)
      ]
    ]

any-section_joining : (c : ℕ) (v : Vanished) (u l : SectionState) (ss : List SectionState) → list_any (has_sealed c) (u ∷ l ∷ ss) ≡ true → list_any (has_sealed c) (section_joining v u l ∷ ss) ≡ true
any-section_joining c v u l ss h =
    let t : SectionState = section_joining v u l in
    elim (or_cases (has_sealed c u) (list_any (has_sealed c) (l ∷ ss)) h) [
      | inl k ↦ or-left (has_sealed c t) (list_any (has_sealed c) ss) (any-left (has_serial c) u.sealed (tail_of v l) k)
      | inr k ↦ elim (or_cases (has_sealed c l) (list_any (has_sealed c) ss) k) [
        | inl j ↦ or-left (has_sealed c t) (list_any (has_sealed c) ss) (any-right (has_serial c) u.sealed (tail_of v l) (tail-sealed c v l j))
        | inr j ↦ or-right (has_sealed c t) (list_any (has_sealed c) ss) j
      ]
    ]

abbrev pub join_at : Vanished → List SectionState → ℕ → List SectionState
join_at v ss i = set (remove ss (suc i)) i (section_joining v (get_or ss i no_section) (get_or ss (suc i) no_section))

any-join : (c : ℕ) (v : Vanished) (ss : List SectionState) (i : ℕ) → suc i < length ss → list_any (has_sealed c) ss ≡ true → list_any (has_sealed c) (join_at v ss i) ≡ true
any-join c v [] i lt h = true_not_false false h refl
any-join c v (s ∷ []) zero lt h = absurd (omega (arith, lt))
any-join c v (u ∷ l ∷ ss) zero lt h = any-section_joining c v u l ss h
any-join c v (s ∷ ss) (suc i) lt h = elim (or_cases (has_sealed c s) (list_any (has_sealed c) ss) h) [
  | inl k ↦ or-left (has_sealed c s) (list_any (has_sealed c) (join_at v ss i)) k
  | inr k ↦ or-right (has_sealed c s) (list_any (has_sealed c) (join_at v ss i)) (any-join c v ss i (omega (arith, lt)) k)
]

pub behind-join : (x c : ℕ) (v : Vanished) (ss : List SectionState) (i : ℕ) → suc i < length ss → Stays x c v (get_or ss (suc i) no_section) → Behind x c ss → Behind x c (join_at v ss i)
behind-join x c v [] i lt stays b = absurd b
behind-join x c v (s ∷ []) zero lt stays b = absurd (omega (arith, lt))
behind-join x c v (u ∷ l ∷ ss) zero lt stays b = elim b [
  | inl h ↦ inl (section_joining-upper x c v u l h)
  | inr r ↦ elim r [
    | inl h ↦ elim (or_cases (has_sealed c l) (list_any (has_sealed c) ss) h.1) [
      | inl k ↦ inl (section_joining-cross x c v u l h.0 k)
      | inr k ↦ inr (inl (section_joining-has x v u l h.0, k))
    ]
    | inr k ↦ elim k [
      | inl h ↦ inl (section_joining-lower x c v u l stays h)
      | inr w ↦ elim w [
        | inl h ↦ inr (inl (has-inside x (section_joining v u l) (any-right (has_serial x) u.sealed (tail_of v l) (tail-has x c v l stays h.0)), h.1))
        | inr h ↦ inr (inr h)
      ]
    ]
  ]
]
behind-join x c v (s ∷ ss) (suc i) lt stays b = elim b [
  | inl h ↦ inl h
  | inr r ↦ elim r [
    | inl h ↦ inr (inl (h.0, any-join c v ss i (omega (arith, lt)) h.1))
    | inr h ↦ inr (inr (behind-join x c v ss i (omega (arith, lt)) stays h))
  ]
]

-- ---- split
abbrev pub split_at : ℕ → ℕ → List SectionState → ℕ → ℕ → List SectionState
split_at d v ss i k =
    let s = get_or ss i no_section in
    insert (set ss i (record s { sealed = take k s.sealed })) (suc i) (record { active_device = d; active_virtual = v; sealed = drop k s.sealed })

either-part : (x k : ℕ) (s : SectionState) → list_any (has_serial x) s.sealed ≡ true → (list_any (has_serial x) (take k s.sealed) ≡ true) ⊎ (list_any (has_serial x) (drop k s.sealed) ≡ true)
either-part x k s h = any-cases (has_serial x) (take k s.sealed) (drop k s.sealed) (subst (λ es. list_any (has_serial x) es ≡ true) (sym (take-append-drop k s.sealed)) h)

any-split : (c d v k : ℕ) (ss : List SectionState) (i : ℕ) → i < length ss → list_any (has_sealed c) ss ≡ true → list_any (has_sealed c) (split_at d v ss i k) ≡ true
any-split c d v k [] i lt h = true_not_false false h refl
any-split c d v k (s ∷ ss) zero lt h =
    let up : SectionState = record s { sealed = take k s.sealed } in
    let low : SectionState = record { active_device = d; active_virtual = v; sealed = drop k s.sealed } in
    elim (or_cases (has_sealed c s) (list_any (has_sealed c) ss) h) [
      | inl t ↦ elim (either-part c k s t) [
        | inl a ↦ or-left (has_sealed c up) (list_any (has_sealed c) (low ∷ ss)) a
        | inr a ↦ or-right (has_sealed c up) (list_any (has_sealed c) (low ∷ ss)) (or-left (has_sealed c low) (list_any (has_sealed c) ss) a)
      ]
      | inr t ↦ or-right (has_sealed c up) (list_any (has_sealed c) (low ∷ ss)) (or-right (has_sealed c low) (list_any (has_sealed c) ss) t)
    ]
any-split c d v k (s ∷ ss) (suc i) lt h = elim (or_cases (has_sealed c s) (list_any (has_sealed c) ss) h) [
  | inl t ↦ or-left (has_sealed c s) (list_any (has_sealed c) (split_at d v ss i k)) t
  | inr t ↦ or-right (has_sealed c s) (list_any (has_sealed c) (split_at d v ss i k)) (any-split c d v k ss i (omega (arith, lt)) t)
]

pub behind-split : (x c d v k : ℕ) (ss : List SectionState) (i : ℕ) → i < length ss → Behind x c ss → Behind x c (split_at d v ss i k)
behind-split x c d v k [] i lt b = absurd b
behind-split x c d v k (s ∷ ss) zero lt b =
    let up : SectionState = record s { sealed = take k s.sealed } in
    let low : SectionState = record { active_device = d; active_virtual = v; sealed = drop k s.sealed } in
    elim b [
      | inl g ↦ elim g [
        | inl h ↦ elim (either-part c k s h.1) [
          | inl a ↦ inl (inl (h.0, a))
          | inr a ↦ inr (inl (elim h.0 [ inl e ↦ has-device x up e | inr e ↦ has-shadow x up e ], or-left (has_sealed c low) (list_any (has_sealed c) ss) a))
        ]
        | inr r ↦ elim (before-cases x c (take k s.sealed) (drop k s.sealed) (subst (λ es. Before x c es) (sym (take-append-drop k s.sealed)) r)) [
          | inl a ↦ inl (inr a)
          | inr a ↦ elim a [
            | inl a' ↦ inr (inl (has-inside x up a'.0, or-left (has_sealed c low) (list_any (has_sealed c) ss) a'.1))
            | inr a' ↦ inr (inr (inl (inr a')))
          ]
        ]
      ]
      | inr g ↦ elim g [
        | inl h ↦ elim (has-cases x s h.0) [
          | inl e ↦ inr (inl (has-device x up e, or-right (has_sealed c low) (list_any (has_sealed c) ss) h.1))
          | inr r ↦ elim r [
            | inl e ↦ inr (inl (has-shadow x up e, or-right (has_sealed c low) (list_any (has_sealed c) ss) h.1))
            | inr e ↦ elim (either-part x k s e) [
              | inl a ↦ inr (inl (has-inside x up a, or-right (has_sealed c low) (list_any (has_sealed c) ss) h.1))
              | inr a ↦ inr (inr (inr (inl (has-inside x low a, h.1))))
            ]
          ]
        ]
        | inr h ↦ inr (inr (inr (inr h)))
      ]
    ]
behind-split x c d v k (s ∷ ss) (suc i) lt b = elim b [
  | inl h ↦ inl h
  | inr r ↦ elim r [
    | inl h ↦ inr (inl (h.0, any-split c d v k ss i (omega (arith, lt)) h.1))
    | inr h ↦ inr (inr (behind-split x c d v k ss i (omega (arith, lt)) h))
  ]
]

-- ---- nothing is behind the last sealed block
abbrev pub all_in : ℕ → SectionState → ℕ
all_in b s = count_by (has_serial b) (blocks_of s)

one_at : (b : ℕ) (e : ℕ × Kind) → e.0 ≡ b → ◌≡◌ {A = ℕ} (cond (has_serial b e) 1 0) 1
one_at b e h = rw (eq-eqb e.0 b h) refl

last_or-inside : (o : Option (ℕ × Kind)) (a : ℕ × Kind) (es : List (ℕ × Kind)) (e : ℕ × Kind) → last_or o (a ∷ es) ≡ Some e → 1 ≤ count_by (has_serial e.0) (a ∷ es)
last_or-inside o a [] e is =
    let same : a ≡ e = some_is is in
    omega (arith, sum_by-cons (λ y. cond (has_serial e.0 y) 1 0) a [], one_at e.0 a (ap (λ y. y.0) same))
last_or-inside o a (a' ∷ es) e is =
    omega (arith, sum_by-cons (λ y. cond (has_serial e.0 y) 1 0) a (a' ∷ es), last_or-inside (Some a) a' es e is)

last_or-some : (o : Option (ℕ × Kind)) (es : List (ℕ × Kind)) (e : ℕ × Kind) (c : ℕ) → list_any (has_serial c) es ≡ true → last_or o es ≡ Some e → 1 ≤ count_by (has_serial e.0) es
last_or-some o [] e c h is = true_not_false false h refl
last_or-some o (a ∷ es) e c h is = last_or-inside o a es e is

last_or-twice : (o : Option (ℕ × Kind)) (es : List (ℕ × Kind)) (e : ℕ × Kind) (c : ℕ) → Before e.0 c es → last_or o es ≡ Some e → 2 ≤ count_by (has_serial e.0) es
last_or-twice o [] e c b is = absurd b
last_or-twice o (a ∷ es) e c b is = elim b [
  | inl h ↦ omega (arith, sum_by-cons (λ y. cond (has_serial e.0 y) 1 0) a es, one_at e.0 a h.0, last_or-some (Some a) es e c h.1 is)
  | inr r ↦ omega (arith, sum_by-cons (λ y. cond (has_serial e.0 y) 1 0) a es, last_or-twice (Some a) es e c r is)
]

all_in-parts : (b : ℕ) (s : SectionState) → all_in b s ≡ cond (nat_eq s.active_device b) 1 0 + cond (nat_eq s.active_virtual b) 1 0 + in_sealed b s
all_in-parts b s =
    let f : ℕ × Kind → ℕ = λ y. cond (has_serial b y) 1 0 in
    omega (arith, sum_by-cons f (s.active_device, Device) ((s.active_virtual, Virtual) ∷ s.sealed), sum_by-cons f (s.active_virtual, Virtual) s.sealed)

sealed-or : (o : Option (ℕ × Kind)) (ss : List SectionState) (e : ℕ × Kind) → last_from o ss ≡ Some e → (o ≡ Some e) ⊎ (1 ≤ sum_by (in_sealed e.0) ss)
sealed-or o ss e is = elim (last-there o ss e is) [
  | inl h ↦ inl h
  | inr h ↦ inr (omega (arith, h, sum-le (sealed_at e) (in_sealed e.0) ss (λ s. sum-le (at_block e.1 e.0) (λ x. cond (has_serial e.0 x) 1 0) s.sealed (λ x. narrow (nat_eq x.0 e.0) _))))
]

sealed-inside : (o : Option (ℕ × Kind)) (ss : List SectionState) (e : ℕ × Kind) (c : ℕ) → list_any (has_sealed c) ss ≡ true → last_from o ss ≡ Some e → 1 ≤ sum_by (in_sealed e.0) ss
sealed-inside o [] e c h is = true_not_false false h refl
sealed-inside o (s ∷ ss) e c h is = elim (sealed-or (last_or o s.sealed) ss e is) [
  | inr k ↦ omega (arith, sum_by-cons (in_sealed e.0) s ss, k)
  | inl l ↦ elim (or_cases (has_sealed c s) (list_any (has_sealed c) ss) h) [
    | inl k ↦ omega (arith, sum_by-cons (in_sealed e.0) s ss, last_or-some o s.sealed e c k l)
    | inr k ↦ omega (arith, sum_by-cons (in_sealed e.0) s ss, sealed-inside (last_or o s.sealed) ss e c k is)
  ]
]

pub last-twice : (o : Option (ℕ × Kind)) (ss : List SectionState) (e : ℕ × Kind) (c : ℕ) → Behind e.0 c ss → last_from o ss ≡ Some e → 2 ≤ sum_by (all_in e.0) ss
last-twice o [] e c b is = absurd b
last-twice o (s ∷ ss) e c b is =
    let sum = sum_by-cons (all_in e.0) s ss in
    let more : sum_by (in_sealed e.0) ss ≤ sum_by (all_in e.0) ss = sum-le (in_sealed e.0) (all_in e.0) ss (λ s. omega (arith, all_in-parts e.0 s)) in
    elim b [
      | inl h ↦ elim (sealed-or (last_or o s.sealed) ss e is) [
        | inr k ↦ omega (arith, sum, more, k, any-counts (has_serial e.0) (blocks_of s) (behind_in-has e.0 c s h))
        | inl l ↦ elim h [
          | inl g ↦ elim g.0 [
            | inl f ↦ omega (arith, sum, all_in-parts e.0 s, one_at e.0 (s.active_device, Device) f, last_or-some o s.sealed e c g.1 l)
            | inr f ↦ omega (arith, sum, all_in-parts e.0 s, one_at e.0 (s.active_virtual, Virtual) f, last_or-some o s.sealed e c g.1 l)
          ]
          | inr g ↦ omega (arith, sum, all_in-parts e.0 s, last_or-twice o s.sealed e c g l)
        ]
      ]
      | inr r ↦ elim r [
        | inl h ↦ omega (arith, sum, more, any-counts (has_serial e.0) (blocks_of s) h.0, sealed-inside (last_or o s.sealed) ss e c h.1 is)
        | inr h ↦ omega (arith, sum, last-twice (last_or o s.sealed) ss e c h is)
      ]
    ]

pub all-once : (q : QueueState) (b : ℕ) → IsLoose q → sum_by (all_in b) q.sections ≤ 1
all-once q b loose =
    omega (
      arith,
      loose.distinct b,
      sum-above (count_in Device b) (count_in Virtual b) (all_in b) q.sections
          (λ s. sum-above (at_block Device b) (at_block Virtual b) (λ e. cond (has_serial b e) 1 0) (blocks_of s) (λ e. either-kind (has_serial b e) e.1)),
    )
