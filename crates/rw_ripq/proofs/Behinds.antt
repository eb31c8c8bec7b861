-- What changes of the sections keep behind a block.
use Rattle.std.proofs.Common.{◌≡◌, ℕ, ◌≤◌, ◌<◌, List, [], ◌∷◌, ◌++◌, refl, sym, ◌∙◌, arith, Bool, true, false, length, nat_eq, set, get_or, ◌⊎◌, inl, inr, zero, suc}
use Rattle.std.specs.Prelude.{◌||◌, remove}
use Rattle.std.specs.List.{list_any}
use Rattle.std.proofs.lemmas.Bool.{eq-eqb, eqb-true, or_cases}
use Rattle.std.proofs.lemmas.List.Folds.{list_any-append}
use Rattle.rw_blocks.specs.Changes.{section_sealing}
use Rattle.rw_blocks.specs.Sections.{SectionState, no_section, has_block, has_serial}
use Rattle.rw_blocks.specs.declared.Kind.{Kind}
use Rattle.rw_blocks.specs.declared.Kind.TheVariants.{Device, Virtual}
use Rattle.rw_ripq.proofs.Basics.{true_not_false}
use Rattle.rw_ripq.specs.Order.{Before, Behind, BehindIn}
use Rattle.rw_ripq.specs.Sealed.{has_sealed}

pub or-left : (t u : Bool) → t ≡ true → (t || u) ≡ true
or-left t u h = rw h refl

pub or-right : (t u : Bool) → u ≡ true → (t || u) ≡ true
or-right true u h = refl
or-right false u h = h

module _ {X : Type 0} (p : X → Bool) where
  pub any-left : (xs ys : List X) → list_any p xs ≡ true → list_any p (xs ++ ys) ≡ true
  any-left xs ys h = list_any-append p xs ys ∙ or-left (list_any p xs) (list_any p ys) h

  pub any-right : (xs ys : List X) → list_any p ys ≡ true → list_any p (xs ++ ys) ≡ true
  any-right xs ys h = list_any-append p xs ys ∙ or-right (list_any p xs) (list_any p ys) h

  pub any-cases : (xs ys : List X) → list_any p (xs ++ ys) ≡ true → (list_any p xs ≡ true) ⊎ (list_any p ys ≡ true)
  any-cases xs ys h = or_cases (list_any p xs) (list_any p ys) (sym (list_any-append p xs ys) ∙ h)

-- ---- in one list
pub before-left : (x c : ℕ) (xs ys : List (ℕ × Kind)) → Before x c xs → Before x c (xs ++ ys)
before-left x c [] ys b = absurd b
before-left x c (e ∷ xs) ys b = elim b [
  | inl h ↦ inl (h.0, any-left (has_serial c) xs ys h.1)
  | inr r ↦ inr (before-left x c xs ys r)
]

pub before-right : (x c : ℕ) (xs ys : List (ℕ × Kind)) → Before x c ys → Before x c (xs ++ ys)
before-right x c [] ys b = b
before-right x c (e ∷ xs) ys b = inr (before-right x c xs ys b)

pub before-cross : (x c : ℕ) (xs ys : List (ℕ × Kind)) → list_any (has_serial x) xs ≡ true → list_any (has_serial c) ys ≡ true → Before x c (xs ++ ys)
before-cross x c [] ys h k = true_not_false false h refl
before-cross x c (e ∷ xs) ys h k = elim (or_cases (has_serial x e) (list_any (has_serial x) xs) h) [
  | inl t ↦ inl (eqb-true e.0 x t, any-right (has_serial c) xs ys k)
  | inr t ↦ inr (before-cross x c xs ys t k)
]

pub before-cases : (x c : ℕ) (xs ys : List (ℕ × Kind)) → Before x c (xs ++ ys) → Before x c xs ⊎ (((list_any (has_serial x) xs ≡ true) × (list_any (has_serial c) ys ≡ true)) ⊎ Before x c ys)
before-cases x c [] ys b = inr (inr b)
before-cases x c (e ∷ xs) ys b = elim b [
  | inl h ↦ elim (any-cases (has_serial c) xs ys h.1) [
    | inl l ↦ inl (inl (h.0, l))
    | inr r ↦ inr (inl (or-left (has_serial x e) (list_any (has_serial x) xs) (eq-eqb e.0 x h.0), r))
  ]
  | inr r ↦ elim (before-cases x c xs ys r) [
    | inl l ↦ inl (inr l)
    | inr m ↦ elim m [
      | inl k ↦ inr (inl (or-right (has_serial x e) (list_any (has_serial x) xs) k.0, k.1))
      | inr k ↦ inr (inr k)
    ]
  ]
]

pub before-there : (x c : ℕ) (xs : List (ℕ × Kind)) → Before x c xs → list_any (has_serial c) xs ≡ true
before-there x c [] b = absurd b
before-there x c (e ∷ xs) b = elim b [
  | inl h ↦ or-right (has_serial c e) (list_any (has_serial c) xs) h.1
  | inr r ↦ or-right (has_serial c e) (list_any (has_serial c) xs) (before-there x c xs r)
]

pub before-has : (x c : ℕ) (xs : List (ℕ × Kind)) → Before x c xs → list_any (has_serial x) xs ≡ true
before-has x c [] b = absurd b
before-has x c (e ∷ xs) b = elim b [
  | inl h ↦ or-left (has_serial x e) (list_any (has_serial x) xs) (eq-eqb e.0 x h.0)
  | inr r ↦ or-right (has_serial x e) (list_any (has_serial x) xs) (before-has x c xs r)
]

pub any-remove : (c : ℕ) (xs : List (ℕ × Kind)) (p : ℕ) (d : ℕ × Kind) → ((get_or xs p d).0 ≡ c → ⊥) → list_any (has_serial c) xs ≡ true → list_any (has_serial c) (remove xs p) ≡ true
any-remove c [] p d ne h = true_not_false false h refl
any-remove c (e ∷ xs) zero d ne h = elim (or_cases (has_serial c e) (list_any (has_serial c) xs) h) [
  | inl t ↦ absurd (ne (eqb-true e.0 c t))
  | inr t ↦ t
]
any-remove c (e ∷ xs) (suc p) d ne h = elim (or_cases (has_serial c e) (list_any (has_serial c) xs) h) [
  | inl t ↦ or-left (has_serial c e) (list_any (has_serial c) (remove xs p)) t
  | inr t ↦ or-right (has_serial c e) (list_any (has_serial c) (remove xs p)) (any-remove c xs p d ne t)
]

pub before-remove : (x c : ℕ) (xs : List (ℕ × Kind)) (p : ℕ) (d : ℕ × Kind) → ((get_or xs p d).0 ≡ x → ⊥) → ((get_or xs p d).0 ≡ c → ⊥) → Before x c xs → Before x c (remove xs p)
before-remove x c [] p d nx nc b = absurd b
before-remove x c (e ∷ xs) zero d nx nc b = elim b [
  | inl h ↦ absurd (nx h.0)
  | inr r ↦ r
]
before-remove x c (e ∷ xs) (suc p) d nx nc b = elim b [
  | inl h ↦ inl (h.0, any-remove c xs p d nc h.1)
  | inr r ↦ inr (before-remove x c xs p d nx nc r)
]

-- ---- in one section
pub has-cases : (x : ℕ) (s : SectionState) → has_block x s ≡ true → (s.active_device ≡ x) ⊎ ((s.active_virtual ≡ x) ⊎ (list_any (has_serial x) s.sealed ≡ true))
has-cases x s h = elim (or_cases (nat_eq s.active_device x) (nat_eq s.active_virtual x || list_any (has_serial x) s.sealed) h) [
  | inl t ↦ inl (eqb-true s.active_device x t)
  | inr t ↦ elim (or_cases (nat_eq s.active_virtual x) (list_any (has_serial x) s.sealed) t) [
    | inl u ↦ inr (inl (eqb-true s.active_virtual x u))
    | inr u ↦ inr (inr u)
  ]
]

pub has-device : (x : ℕ) (s : SectionState) → s.active_device ≡ x → has_block x s ≡ true
has-device x s e = or-left (nat_eq s.active_device x) (nat_eq s.active_virtual x || list_any (has_serial x) s.sealed) (eq-eqb s.active_device x e)

pub has-shadow : (x : ℕ) (s : SectionState) → s.active_virtual ≡ x → has_block x s ≡ true
has-shadow x s e = or-right (nat_eq s.active_device x) (nat_eq s.active_virtual x || list_any (has_serial x) s.sealed) (or-left (nat_eq s.active_virtual x) (list_any (has_serial x) s.sealed) (eq-eqb s.active_virtual x e))

pub has-inside : (x : ℕ) (s : SectionState) → list_any (has_serial x) s.sealed ≡ true → has_block x s ≡ true
has-inside x s h = or-right (nat_eq s.active_device x) (nat_eq s.active_virtual x || list_any (has_serial x) s.sealed) (or-right (nat_eq s.active_virtual x) (list_any (has_serial x) s.sealed) h)

pub behind_in-there : (x c : ℕ) (s : SectionState) → BehindIn x c s → has_sealed c s ≡ true
behind_in-there x c s b = elim b [
  | inl h ↦ h.1
  | inr r ↦ before-there x c s.sealed r
]

pub behind_in-has : (x c : ℕ) (s : SectionState) → BehindIn x c s → has_block x s ≡ true
behind_in-has x c s b = elim b [
  | inl h ↦ elim h.0 [ inl e ↦ has-device x s e | inr e ↦ has-shadow x s e ]
  | inr r ↦ has-inside x s (before-has x c s.sealed r)
]

pub behind-there : (x c : ℕ) (ss : List SectionState) → Behind x c ss → list_any (has_sealed c) ss ≡ true
behind-there x c [] b = absurd b
behind-there x c (s ∷ ss) b = elim b [
  | inl h ↦ or-left (has_sealed c s) (list_any (has_sealed c) ss) (behind_in-there x c s h)
  | inr m ↦ elim m [
    | inl h ↦ or-right (has_sealed c s) (list_any (has_sealed c) ss) h.1
    | inr r ↦ or-right (has_sealed c s) (list_any (has_sealed c) ss) (behind-there x c ss r)
  ]
]

-- ---- one section is changed
pub record Passes (x c : ℕ) (s t : SectionState) : Type 0 where
  pub behind : BehindIn x c s → BehindIn x c t
  pub has : has_block x s ≡ true → has_block x t ≡ true
  pub sealed : has_sealed c s ≡ true → has_sealed c t ≡ true

any-set : (c : ℕ) (ss : List SectionState) (i : ℕ) (t : SectionState) → (has_sealed c (get_or ss i no_section) ≡ true → has_sealed c t ≡ true) → list_any (has_sealed c) ss ≡ true → list_any (has_sealed c) (set ss i t) ≡ true
any-set c [] i t f h = true_not_false false h refl
any-set c (s ∷ ss) zero t f h = elim (or_cases (has_sealed c s) (list_any (has_sealed c) ss) h) [
  | inl k ↦ or-left (has_sealed c t) (list_any (has_sealed c) ss) (f k)
  | inr k ↦ or-right (has_sealed c t) (list_any (has_sealed c) ss) k
]
any-set c (s ∷ ss) (suc i) t f h = elim (or_cases (has_sealed c s) (list_any (has_sealed c) ss) h) [
  | inl k ↦ or-left (has_sealed c s) (list_any (has_sealed c) (set ss i t)) k
  | inr k ↦ or-right (has_sealed c s) (list_any (has_sealed c) (set ss i t)) (any-set c ss i t f k)
]

pub behind-set : (x c : ℕ) (ss : List SectionState) (i : ℕ) (t : SectionState) → Passes x c (get_or ss i no_section) t → Behind x c ss → Behind x c (set ss i t)
behind-set x c [] i t p b = absurd b
behind-set x c (s ∷ ss) zero t p b = elim b [
  | inl h ↦ inl (p.behind h)
  | inr m ↦ elim m [
    | inl h ↦ inr (inl (p.has h.0, h.1))
    | inr r ↦ inr (inr r)
  ]
]
behind-set x c (s ∷ ss) (suc i) t p b = elim b [
  | inl h ↦ inl h
  | inr m ↦ elim m [
    | inl h ↦ inr (inl (h.0, any-set c ss i t p.sealed h.1))
    | inr r ↦ inr (inr (behind-set x c ss i t p r))
  ]
]

-- ---- sealing
pub passes-sealed : (K : Kind) (n x c : ℕ) (s : SectionState) → Passes x c s (section_sealing K n s)
passes-sealed Device n x c s =
    let t : SectionState = section_sealing Device n s in
    record {
      behind = λ b. elim b [
        | inl h ↦ elim h.0 [
          | inl e ↦ inr (inl (e, h.1))
          | inr e ↦ inl (inr e, or-right (nat_eq s.active_device c) (has_sealed c s) h.1)
        ]
        | inr r ↦ inr (inr r)
      ];
      has = λ h. elim (has-cases x s h) [
        | inl e ↦ has-inside x t (or-left (nat_eq s.active_device x) (list_any (has_serial x) s.sealed) (eq-eqb s.active_device x e))
        | inr m ↦ elim m [
          | inl e ↦ has-shadow x t e
          | inr k ↦ has-inside x t (or-right (nat_eq s.active_device x) (list_any (has_serial x) s.sealed) k)
        ]
      ];
      sealed = λ h. or-right (nat_eq s.active_device c) (has_sealed c s) h;
    }
passes-sealed Virtual n x c s =
    let t : SectionState = section_sealing Virtual n s in
    record {
      behind = λ b. elim b [
        | inl h ↦ elim h.0 [
          | inl e ↦ inl (inl e, or-right (nat_eq s.active_virtual c) (has_sealed c s) h.1)
          | inr e ↦ inr (inl (e, h.1))
        ]
        | inr r ↦ inr (inr r)
      ];
      has = λ h. elim (has-cases x s h) [
        | inl e ↦ has-device x t e
        | inr m ↦ elim m [
          | inl e ↦ has-inside x t (or-left (nat_eq s.active_virtual x) (list_any (has_serial x) s.sealed) (eq-eqb s.active_virtual x e))
          | inr k ↦ has-inside x t (or-right (nat_eq s.active_virtual x) (list_any (has_serial x) s.sealed) k)
        ]
      ];
      sealed = λ h. or-right (nat_eq s.active_virtual c) (has_sealed c s) h;
    }

-- ---- taking out
pub passes-after_remove : (x c p : ℕ) (s : SectionState) → ((get_or s.sealed p (0, Device)).0 ≡ x → ⊥) → ((get_or s.sealed p (0, Device)).0 ≡ c → ⊥) → Passes x c s (record s { sealed = remove s.sealed p })
passes-after_remove x c p s nx nc =
    let t : SectionState = record s { sealed = remove s.sealed p } in
    record {
      behind = λ b. elim b [
        | inl h ↦ inl (h.0, any-remove c s.sealed p (0, Device) nc h.1)
        | inr r ↦ inr (before-remove x c s.sealed p (0, Device) nx nc r)
      ];
      has = λ h. elim (has-cases x s h) [
        | inl e ↦ has-device x t e
        | inr m ↦ elim m [
          | inl e ↦ has-shadow x t e
          | inr k ↦ has-inside x t (any-remove x s.sealed p (0, Device) nx k)
        ]
      ];
      sealed = λ h. any-remove c s.sealed p (0, Device) nc h;
    }

-- ---- the active device block of the section that has the block
pub behind-device : (x c : ℕ) (ss : List SectionState) (i : ℕ) → ((j : ℕ) → j < i → has_block x (get_or ss j no_section) ≡ false) → Behind x c ss → Behind (get_or ss i no_section).active_device c ss ⊎ (length ss ≤ i)
behind-device x c [] i none b = absurd b
behind-device x c (s ∷ ss) zero none b = elim b [
  | inl h ↦ inl (inl (inl (inl refl, behind_in-there x c s h)))
  | inr m ↦ elim m [
    | inl h ↦ inl (inr (inl (has-device s.active_device s refl, h.1)))
    | inr r ↦ inl (inr (inl (has-device s.active_device s refl, behind-there x c ss r)))
  ]
]
behind-device x c (s ∷ ss) (suc i) none b = elim b [
  | inl h ↦ true_not_false (has_block x s) (behind_in-has x c s h) (none 0 (omega arith))
  | inr m ↦ elim m [
    | inl h ↦ true_not_false (has_block x s) h.0 (none 0 (omega arith))
    | inr r ↦ elim (behind-device x c ss i (λ j lt. none (suc j) (omega arith)) r) [
      | inl k ↦ inl (inr (inr k))
      | inr k ↦ inr (omega (arith, k))
    ]
  ]
]
