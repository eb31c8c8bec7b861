-- The old blocks keep their order along the queue, and rows leave from its tail.
use Rattle.std.proofs.Common.{◌≡◌, ℕ, ◌+◌, ◌≤◌, ◌<◌, List, refl, sym, ap, subst, ◌∙◌, arith, Bool, true, false, cond, length, nat_eq, set, get_or, take, drop, ◌⊎◌, inl, inr, suc, get_or-set_other, length-set}
use Rattle.std.specs.Prelude.{◌&&◌, insert, remove}
use Rattle.std.specs.List.{list_any}
use Rattle.std.proofs.lemmas.Bool.{eq-eqb, eqb-true, eqb-false, and_parts, cases_lt}
use Rattle.rw_blocks.proofs.Cited.{at_block, count-after_merge, count-after_seal, count-after_split, count-after_take_out, one, one-other}
use Rattle.rw_blocks.specs.Loose.{IsLoose, count, count_in, is_sealed_virtual}
use Rattle.rw_blocks.specs.Changes.{section_joining, section_sealing}
use Rattle.rw_blocks.specs.Primitives.{after_merge, after_seal, after_split, after_take_out, empty_actives}
use Rattle.rw_blocks.specs.Sections.{SectionState, no_section, has_block, has_serial}
use Rattle.rw_blocks.specs.State.{QueueState, section_at}
use Rattle.rw_blocks.specs.Sums.{bytes_held, rows_placed}
use Rattle.rw_blocks.specs.declared.Kind.{Kind}
use Rattle.rw_blocks.specs.declared.Kind.TheVariants.{Device, Virtual}
use Rattle.rw_ripq.proofs.Cases.{seal_unless, without_block_if}
use Rattle.rw_ripq.proofs.Basics.{by_bool}
use Rattle.rw_ripq.proofs.Behinds.{behind-device, behind-set, passes-after_remove, passes-sealed}
use Rattle.rw_ripq.proofs.Joins.{Stays, behind-join, behind-split}
use Rattle.rw_ripq.proofs.Measures.{any-counts, sealed-there, sealed-virtual-there}
use Rattle.rw_ripq.proofs.Turns.{counts-all, either-kind, sum-above}
use Rattle.rw_ripq.specs.Order.{Behind}
use Rattle.rw_ripq.specs.Put.{is_room, with_room}
use Rattle.rw_ripq.specs.Sealed.{without_if_emptied, has_sealed, sealed_position, sealed_section, without_block}

-- no block has the serial, and none will
abbrev pub Gone : ℕ → QueueState → Type 0
Gone b q = (count Device q b + count Virtual q b ≡ 0) × (b < q.next)

abbrev pub Kept : ℕ → ℕ → QueueState → Type 0
Kept x c q = Gone x q ⊎ (Gone c q ⊎ Behind x c q.sections)

-- ---- what is gone stays gone
pub gone-after_seal : (q : QueueState) (i : ℕ) (K : Kind) (b : ℕ) → i < length q.sections → Gone b q → Gone b (after_seal q i K)
gone-after_seal q i K b within g =
    let old : b < q.next = g.1 in
    (omega (arith, count-after_seal q i K Device b within, count-after_seal q i K Virtual b within, g.0, one-other K q.next Device b (λ e. omega arith), one-other K q.next Virtual b (λ e. omega arith)), omega arith)

pub gone-after_take_out : (q : QueueState) (i p b : ℕ) → i < length q.sections → p < length (section_at q i).sealed → Gone b q → Gone b (after_take_out q i p)
gone-after_take_out q i p b within inside g =
    (omega (arith, count-after_take_out q i p Device b within inside, count-after_take_out q i p Virtual b within inside, g.0), g.1)

pub gone-after_split : (q : QueueState) (i k b : ℕ) → i < length q.sections → Gone b q → Gone b (after_split q i k)
gone-after_split q i k b within g =
    let old : b < q.next = g.1 in
    (omega (arith, count-after_split q i k Device b within, count-after_split q i k Virtual b within, g.0, one-other Device q.next Device b (λ e. omega arith), one-other Device q.next Virtual b (λ e. omega arith), one-other Virtual (q.next + 1) Device b (λ e. omega arith), one-other Virtual (q.next + 1) Virtual b (λ e. omega arith)), omega arith)

pub gone-after_merge : (q : QueueState) (i b : ℕ) → i + 1 < length q.sections → Gone b q → Gone b (after_merge q i)
gone-after_merge q i b within g =
    (omega (arith, count-after_merge q i Device b within, count-after_merge q i Virtual b within, g.0), g.1)

pub older : (q : QueueState) (b : ℕ) → IsLoose q → 1 ≤ count Device q b + count Virtual q b → b < q.next
older q b loose some = elim (cases_lt b q.next) [
  | inl lt ↦ lt
  | inr ge ↦ absurd (omega (arith, some, loose.below b ge))
]

-- the block that is taken out is gone
pub after_take_out-gone : (q : QueueState) (i p : ℕ) → IsLoose q → i < length q.sections → p < length (section_at q i).sealed → Gone (get_or (section_at q i).sealed p (0, Device)).0 (after_take_out q i p)
after_take_out-gone q i p loose within inside =
    let e : ℕ × Kind = get_or (section_at q i).sealed p (0, Device) in
    let t : Bool = nat_eq e.0 e.0 in
    let some : cond t 1 0 ≤ at_block Device e.0 e + at_block Virtual e.0 e = either-kind t e.1 in
    let n : ℕ = cond t 1 0 in
    let is : n ≡ 1 = rw (eq-eqb e.0 e.0 refl) refl in
    let a = count-after_take_out q i p Device e.0 within inside in
    let b = count-after_take_out q i p Virtual e.0 within inside in
    (omega (arith, a, b, some, is, loose.distinct e.0), older q e.0 loose (omega (arith, a, b, some, is)))

-- ---- what is behind a block stays there
kept-after_seal : (q : QueueState) (i : ℕ) (K : Kind) (x c : ℕ) → i < length q.sections → Kept x c q → Kept x c (after_seal q i K)
kept-after_seal q i K x c within k = elim k [
  | inl g ↦ inl (gone-after_seal q i K x within g)
  | inr m ↦ elim m [
    | inl g ↦ inr (inl (gone-after_seal q i K c within g))
    | inr b ↦ inr (inr (behind-set x c q.sections i (section_sealing K q.next (section_at q i)) (passes-sealed K q.next x c (section_at q i)) b))
  ]
]

kept-after_take_out : (q : QueueState) (i p x c : ℕ) → IsLoose q → i < length q.sections → p < length (section_at q i).sealed → Kept x c q → Kept x c (after_take_out q i p)
kept-after_take_out q i p x c loose within inside k =
    let s : SectionState = section_at q i in
    let e : ℕ × Kind = get_or s.sealed p (0, Device) in
    elim k [
      | inl g ↦ inl (gone-after_take_out q i p x within inside g)
      | inr m ↦ elim m [
        | inl g ↦ inr (inl (gone-after_take_out q i p c within inside g))
        | inr b ↦
            by_bool (nat_eq e.0 x)
            (λ t. inl (subst (λ y. Gone y (after_take_out q i p)) (eqb-true e.0 x t) (after_take_out-gone q i p loose within inside)))
            (λ f. by_bool (nat_eq e.0 c)
            (λ t. inr (inl (subst (λ y. Gone y (after_take_out q i p)) (eqb-true e.0 c t) (after_take_out-gone q i p loose within inside))))
            (λ h. inr (inr (behind-set x c q.sections i (record s { sealed = remove s.sealed p }) (passes-after_remove x c p s (eqb-false e.0 x f) (eqb-false e.0 c h)) b))))
      ]
    ]

pub kept-without_block : (q : QueueState) (b x c : ℕ) → IsLoose q → list_any (has_sealed b) q.sections ≡ true → Kept x c q → Kept x c (without_block q b)
kept-without_block q b x c loose h k =
    let s = sealed-there q b h in
    kept-after_take_out q (sealed_section q b) (sealed_position q b) x c loose s.0 s.1 k

pub kept-without_block_if : (t : Bool) (q : QueueState) (b x c : ℕ) → (t ≡ true → list_any (has_sealed b) q.sections ≡ true) → IsLoose q → Kept x c q → Kept x c (without_block_if t q b)
kept-without_block_if true q b x c h loose k = kept-without_block q b x c loose (h refl) k
kept-without_block_if false q b x c h loose k = k

pub kept-cleared : (q : QueueState) (b x c : ℕ) → IsLoose q → Kept x c q → Kept x c (without_if_emptied q b)
kept-cleared q b x c loose k =
    kept-without_block_if (is_sealed_virtual q b && nat_eq (length (rows_placed q b)) 0) q b x c
    (λ e. sealed-virtual-there q b (and_parts (is_sealed_virtual q b) (nat_eq (length (rows_placed q b)) 0) e).0) loose k

kept-if : (t : Bool) (q : QueueState) (K : Kind) (i x c : ℕ) → i < length q.sections → Kept x c q → Kept x c (seal_unless t q i K)
kept-if true q K i x c within k = k
kept-if false q K i x c within k = kept-after_seal q i K x c within k

pub kept-with_room : (q : QueueState) (K : Kind) (i z x c : ℕ) → i < length q.sections → Kept x c q → Kept x c (with_room q K i z)
kept-with_room q K i z x c within k = kept-if (is_room q K i z) q K i x c within k

pub kept-after_split : (q : QueueState) (i n x c : ℕ) → i < length q.sections → Kept x c q → Kept x c (after_split q i n)
kept-after_split q i n x c within k = elim k [
  | inl g ↦ inl (gone-after_split q i n x within g)
  | inr m ↦ elim m [
    | inl g ↦ inr (inl (gone-after_split q i n c within g))
    | inr b ↦ inr (inr (
        let s : SectionState = section_at q i in
        let e : suc i ≡ i + 1 = omega arith in
        subst (λ j. Behind x c (insert (set q.sections i (record s { sealed = take n s.sealed })) j (record { active_device = q.next; active_virtual = q.next + 1; sealed = drop n s.sealed }))) e
        (behind-split x c q.next (q.next + 1) n q.sections i within b)))
  ]
]

-- ---- merge
one-here : (K : Kind) (n x : ℕ) → n ≡ x → one K n K x ≡ 1
one-here Device n x e = rw (eq-eqb n x e) refl
one-here Virtual n x e = rw (eq-eqb n x e) refl

cond-true : (t : Bool) (n m : ℕ) → t ≡ true → cond t n m ≡ n
cond-true t n m h = rw h refl

device-stays : (q : QueueState) (i x : ℕ) → IsLoose q → i + 1 < length q.sections
    → (nat_eq (bytes_held Device q (section_at q (i + 1)).active_device) 0 ≡ true → (section_at q (i + 1)).active_device ≡ x → ⊥) ⊎ Gone x (after_merge q i)
device-stays q i x loose within =
    let l : SectionState = section_at q (i + 1) in
    let m : Bool = nat_eq (bytes_held Device q l.active_device) 0 in
    by_bool (nat_eq l.active_device x)
    (λ t. by_bool m
    (λ u. (
    let a : cond m (one Device l.active_device Device x) 0 ≡ one Device l.active_device Device x = cond-true m _ 0 u in
    let d = count-after_merge q i Device x within in
    let v = count-after_merge q i Virtual x within in
    let o : one Device l.active_device Device x ≡ 1 = one-here Device l.active_device x (eqb-true l.active_device x t) in
    inr (omega (arith, a, d, v, o, loose.distinct x), older q x loose (omega (arith, a, d, o)))))
    (λ u. inl (λ v e. absurd (clash (sym v ∙ u)))))
    (λ f. inl (λ v e. eqb-false l.active_device x f e))
  where
    clash : true ≡ false → ⊥
    clash e = cc

shadow-stays : (q : QueueState) (i x : ℕ) → IsLoose q → i + 1 < length q.sections
    → (nat_eq (bytes_held Virtual q (section_at q (i + 1)).active_virtual) 0 ≡ true → (section_at q (i + 1)).active_virtual ≡ x → ⊥) ⊎ Gone x (after_merge q i)
shadow-stays q i x loose within =
    let l : SectionState = section_at q (i + 1) in
    let m : Bool = nat_eq (bytes_held Virtual q l.active_virtual) 0 in
    by_bool (nat_eq l.active_virtual x)
    (λ t. by_bool m
    (λ u. (
    let a : cond m (one Virtual l.active_virtual Virtual x) 0 ≡ one Virtual l.active_virtual Virtual x = cond-true m _ 0 u in
    let d = count-after_merge q i Device x within in
    let v = count-after_merge q i Virtual x within in
    let o : one Virtual l.active_virtual Virtual x ≡ 1 = one-here Virtual l.active_virtual x (eqb-true l.active_virtual x t) in
    inr (omega (arith, a, d, v, o, loose.distinct x), older q x loose (omega (arith, a, v, o)))))
    (λ u. inl (λ v e. absurd (clash (sym v ∙ u)))))
    (λ f. inl (λ v e. eqb-false l.active_virtual x f e))
  where
    clash : true ≡ false → ⊥
    clash e = cc

abbrev merged_at : QueueState → ℕ → ℕ → List SectionState
merged_at q i j = set (remove q.sections j) i (section_joining (empty_actives q j) (get_or q.sections i no_section) (get_or q.sections j no_section))

abbrev stays_at : QueueState → ℕ → ℕ → ℕ → Type 0
stays_at q x c j = Stays x c (empty_actives q j) (get_or q.sections j no_section)

pub kept-after_merge : (q : QueueState) (i x c : ℕ) → IsLoose q → i + 1 < length q.sections → Kept x c q → Kept x c (after_merge q i)
kept-after_merge q i x c loose within k = elim k [
  | inl g ↦ inl (gone-after_merge q i x within g)
  | inr m ↦ elim m [
    | inl g ↦ inr (inl (gone-after_merge q i c within g))
    | inr b ↦ elim (device-stays q i x loose within) [
      | inr g ↦ inl g
      | inl d ↦ elim (shadow-stays q i x loose within) [
        | inr g ↦ inl g
        | inl v ↦ inr (inr (
            let e : i + 1 ≡ suc i = omega arith in
            let stays : stays_at q x c (i + 1) = record { active_device = d; active_virtual = v } in
            subst (λ j. Behind x c (merged_at q i j)) (sym e)
            (behind-join x c (empty_actives q (suc i)) q.sections i (omega (arith, within)) (subst (stays_at q x c) e stays) b)))
      ]
    ]
  ]
]

-- ---- the row that is put again
pub own-if : (t : Bool) (q : QueueState) (i x c : ℕ) → i < length q.sections → ((j : ℕ) → j < i → has_block x (get_or q.sections j no_section) ≡ false) → Behind x c q.sections
    → Behind (section_at (seal_unless t q i Device) i).active_device c (seal_unless t q i Device).sections
own-if true q i x c within none b = elim (behind-device x c q.sections i none b) [
  | inl k ↦ k
  | inr k ↦ absurd (omega (arith, within, k))
]
own-if false q i x c within none b =
    let t : SectionState = section_sealing Device q.next (section_at q i) in
    let ss : List SectionState = set q.sections i t in
    let long : length ss ≡ length q.sections = sections-sealed q i in
    let none' : (j : ℕ) → j < i → has_block x (get_or ss j no_section) ≡ false =
    λ j lt. ap (has_block x) (get_or-set_other q.sections i j t no_section (λ e. omega (arith, lt, e))) ∙ none j lt in
    elim (behind-device x c ss i none' (behind-set x c q.sections i t (passes-sealed Device q.next x c (section_at q i)) b)) [
      | inl k ↦ k
      | inr k ↦ absurd (omega (arith, within, long, k))
    ]
  where
    sections-sealed : (q : QueueState) (i : ℕ) → length (set q.sections i (section_sealing Device q.next (section_at q i))) ≡ length q.sections
    sections-sealed q i = length-set q.sections i (section_sealing Device q.next (section_at q i))

-- ---- what is gone stays gone, and what is sealed is there
gone-if : (t : Bool) (q : QueueState) (K : Kind) (i b : ℕ) → i < length q.sections → Gone b q → Gone b (seal_unless t q i K)
gone-if true q K i b within g = g
gone-if false q K i b within g = gone-after_seal q i K b within g

pub gone-with_room : (q : QueueState) (K : Kind) (i z b : ℕ) → i < length q.sections → Gone b q → Gone b (with_room q K i z)
gone-with_room q K i z b within g = gone-if (is_room q K i z) q K i b within g

pub gone-without_block : (q : QueueState) (p b : ℕ) → list_any (has_sealed p) q.sections ≡ true → Gone b q → Gone b (without_block q p)
gone-without_block q p b h g =
    let s = sealed-there q p h in
    gone-after_take_out q (sealed_section q p) (sealed_position q p) b s.0 s.1 g

gone-without_block_if : (t : Bool) (q : QueueState) (p b : ℕ) → (t ≡ true → is_sealed_virtual q p ≡ true) → Gone b q → Gone b (without_block_if t q p)
gone-without_block_if true q p b h g = gone-without_block q p b (sealed-virtual-there q p (h refl)) g
gone-without_block_if false q p b h g = g

pub gone-cleared : (q : QueueState) (p b : ℕ) → Gone b q → Gone b (without_if_emptied q p)
gone-cleared q p b g =
    gone-without_block_if (is_sealed_virtual q p && nat_eq (length (rows_placed q p)) 0) q p b
    (λ e. (and_parts (is_sealed_virtual q p) (nat_eq (length (rows_placed q p)) 0) e).0) g

sealed-in : (b : ℕ) (s : SectionState) → cond (has_sealed b s) 1 0 ≤ count_in Device b s + count_in Virtual b s
sealed-in b s =
    by_bool (has_sealed b s)
    (λ t. rw t (omega (arith, any-counts (has_serial b) s.sealed t, counts-all b s)))
    (λ f. rw f (omega arith))

pub sealed-counts : (q : QueueState) (b : ℕ) → list_any (has_sealed b) q.sections ≡ true → 1 ≤ count Device q b + count Virtual q b
sealed-counts q b h =
    omega (arith, any-counts (has_sealed b) q.sections h, sum-above (count_in Device b) (count_in Virtual b) (λ s. cond (has_sealed b s) 1 0) q.sections (sealed-in b))
