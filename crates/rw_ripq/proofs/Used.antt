-- No sealed virtual block is without rows, but for those that an operation is about to take out.
use Rattle.std.proofs.Common.{◌≡◌, ℕ, ◌+◌, ◌≤◌, ◌<◌, List, [], ◌∷◌, ◌++◌, refl, sym, ap, subst, ◌∙◌, arith, Bool, true, false, cond, length, get_or, set, nat_eq, take, drop, ◌⊎◌, inl, inr}
use Rattle.std.specs.Prelude.{Some, None, sum_by, remove}
use Rattle.std.specs.List.{list_any}
use Rattle.std.specs.Ordering.{nat_cmp}
use Rattle.std.specs.Cmp.{nat_cmp_total}
use Rattle.std.specs.Map.{values_of}
use Rattle.std.specs.BTreeMap.{insert_entry, is_at as is_key}
use Rattle.std.proofs.lemmas.Bool.{ne_eqb, eqb-false, cases_eq, cases_lt, leb-false}
use Rattle.std.proofs.lemmas.List.Edits.{length-remove, get_or-remove_below}
use Rattle.std.proofs.lemmas.List.Sums.{sum_by-cons, sum_by-append, sum_by-set, sum_by-insert, sum_by-remove, sum_by-take-drop, length-filter}
use Rattle.std.proofs.lemmas.Map.Entries.{sum_by-insert_entry, sum_by-remove_entry}
use Rattle.rw_blocks.proofs.Cited.{at_block, count_in-cons, one, one-kind}
use Rattle.rw_blocks.specs.Loose.{IsLoose, count, count_in, is_sealed_virtual}
use Rattle.rw_blocks.specs.Changes.{block_unless, section_joining, section_sealing}
use Rattle.rw_blocks.specs.Primitives.{after_merge, after_remove, after_seal, after_split, empty_actives, is_active_empty}
use Rattle.rw_blocks.specs.Sections.{SectionState, no_section, is_block}
use Rattle.rw_blocks.specs.State.{QueueState, row_at, section_at}
use Rattle.rw_blocks.specs.Rows.{size_of}
use Rattle.rw_blocks.specs.Sums.{bytes_held, rows_placed}
use Rattle.rw_blocks.specs.declared.Kind.{Kind}
use Rattle.rw_blocks.specs.declared.Vanished.{Vanished}
use Rattle.rw_blocks.specs.declared.Kind.TheVariants.{Device, Virtual}
use Rattle.rw_blocks.specs.declared.Place.{Place}
use Rattle.rw_ripq.proofs.Cases.{seal_unless, without_block_if}
use Rattle.rw_ripq.proofs.Basics.{by_bool, clash}
use Rattle.rw_ripq.proofs.Falls.{sum-le}
use Rattle.rw_ripq.proofs.Leaving.{without_block-gone}
use Rattle.rw_ripq.proofs.Measures.{any-counts, sealed-there, sealed-virtual-there}
use Rattle.rw_ripq.proofs.Orders.{Gone}
use Rattle.rw_ripq.specs.Put.{is_room, with_room}
use Rattle.rw_ripq.specs.Sealed.{without_if_emptied, is_emptied, is_sealed, sealed_position, sealed_section, without_block}

-- ---- how many sealed virtual blocks have the serial
abbrev pub virtuals_in : ℕ → SectionState → ℕ
virtuals_in c s = sum_by (at_block Virtual c) s.sealed

abbrev pub virtuals : ℕ → QueueState → ℕ
virtuals c q = sum_by (virtuals_in c) q.sections

virtuals-counted : (q : QueueState) (c : ℕ) → virtuals c q ≤ count Virtual q c
virtuals-counted q c = sum-le (virtuals_in c) (count_in Virtual c) q.sections (λ s. omega (arith, count_in-cons Virtual c s))

gone-none : (q : QueueState) (c : ℕ) → Gone c q → virtuals c q ≡ 0
gone-none q c g = omega (arith, g.0, virtuals-counted q c)

any-some : {X : Type 0} (p : X → Bool) (f : X → ℕ) (xs : List X) → ((x : X) → p x ≡ false → f x ≡ 0) → 1 ≤ sum_by f xs → list_any p xs ≡ true
any-some p f [] none some = absurd (omega (arith, some))
any-some p f (x ∷ xs) none some =
    by_bool (p x)
    (λ t. rw t refl)
    (λ h. rw h (any-some p f xs none (omega (arith, some, sum_by-cons f x xs, none x h))))

pub virtual-there : (q : QueueState) (c : ℕ) → 1 ≤ virtuals c q → is_sealed_virtual q c ≡ true
virtual-there q c some =
    any-some (λ s. list_any (is_block Virtual c) s.sealed) (virtuals_in c) q.sections
    (λ s h. by_zero s h (virtuals_in c s) refl) some
  where
    by_zero : (s : SectionState) → list_any (is_block Virtual c) s.sealed ≡ false → (n : ℕ) → virtuals_in c s ≡ n → n ≡ 0
    by_zero s h n is = elim (cases_lt 0 n) [
      | inl lt ↦ absurd (clash (sym (any-some (is_block Virtual c) (at_block Virtual c) s.sealed (λ e f. rw f refl) (omega (arith, lt, is))) ∙ h))
      | inr le ↦ omega (arith, le)
    ]

pub virtual-some : (q : QueueState) (c : ℕ) → is_sealed_virtual q c ≡ true → 1 ≤ virtuals c q
virtual-some q c there =
    omega (
      arith,
      any-counts (λ s. list_any (is_block Virtual c) s.sealed) q.sections there,
      sum-le (λ s. cond (list_any (is_block Virtual c) s.sealed) 1 0) (virtuals_in c) q.sections (λ s.
          by_bool (list_any (is_block Virtual c) s.sealed)
          (λ t. rw t (any-counts (is_block Virtual c) s.sealed t))
          (λ h. rw h (omega arith))),
    )

-- ---- what the primitives leave of them
virtuals-seal_device : (q : QueueState) (i c : ℕ) → i < length q.sections → virtuals c (after_seal q i Device) ≡ virtuals c q
virtuals-seal_device q i c within =
    let s : SectionState = section_at q i in
    omega (arith, sum_by-set (virtuals_in c) q.sections i (section_sealing Device q.next s) no_section within, sum_by-cons (at_block Virtual c) (s.active_device, Device) s.sealed, (one-kind s.active_device c).0)

virtuals-seal_virtual : (q : QueueState) (i c : ℕ) → i < length q.sections → virtuals c (after_seal q i Virtual) ≡ virtuals c q + one Virtual (section_at q i).active_virtual Virtual c
virtuals-seal_virtual q i c within =
    let s : SectionState = section_at q i in
    omega (arith, sum_by-set (virtuals_in c) q.sections i (section_sealing Virtual q.next s) no_section within, sum_by-cons (at_block Virtual c) (s.active_virtual, Virtual) s.sealed)

virtuals-without_block : (q : QueueState) (b c : ℕ) → is_sealed q b ≡ true → virtuals c (without_block q b) ≤ virtuals c q
virtuals-without_block q b c there =
    let t = sealed-there q b there in
    let s : SectionState = section_at q (sealed_section q b) in
    omega (arith, sum_by-set (virtuals_in c) q.sections (sealed_section q b) (record s { sealed = remove s.sealed (sealed_position q b) }) no_section t.0, sum_by-remove (at_block Virtual c) s.sealed (sealed_position q b) (0, Device) t.1)

virtuals-after_split : (q : QueueState) (i n c : ℕ) → i < length q.sections → virtuals c (after_split q i n) ≡ virtuals c q
virtuals-after_split q i n c within =
    let s : SectionState = section_at q i in
    let upper : SectionState = record s { sealed = take n s.sealed } in
    let lower : SectionState = record { active_device = q.next; active_virtual = q.next + 1; sealed = drop n s.sealed } in
    omega (arith, sum_by-insert (virtuals_in c) (set q.sections i upper) (i + 1) lower, sum_by-set (virtuals_in c) q.sections i upper no_section within, sum_by-take-drop (at_block Virtual c) s.sealed n)

virtuals-joining : (v : Vanished) (u l : SectionState) (c : ℕ) → virtuals_in c (section_joining v u l) ≤ virtuals_in c u + virtuals_in c l + cond v.virtual_block 0 (one Virtual l.active_virtual Virtual c)
virtuals-joining v u l c =
    let f : ℕ × Kind → ℕ = at_block Virtual c in
    let first : List (ℕ × Kind) = block_unless v.device (l.active_device, Device) in
    let second : List (ℕ × Kind) = block_unless v.virtual_block (l.active_virtual, Virtual) in
    omega (
      arith,
      sum_by-append f u.sealed (first ++ (second ++ l.sealed)),
      sum_by-append f first (second ++ l.sealed),
      sum_by-append f second l.sealed,
      device v.device,
      lone v.virtual_block,
    )
  where
    device : (m : Bool) → sum_by (at_block Virtual c) (block_unless m (l.active_device, Device)) ≡ 0
    device true = refl
    device false = omega (arith, sum_by-cons (at_block Virtual c) (l.active_device, Device) [], (one-kind l.active_device c).0)

    lone : (n : Bool) → sum_by (at_block Virtual c) (block_unless n (l.active_virtual, Virtual)) ≡ cond n 0 (one Virtual l.active_virtual Virtual c)
    lone true = refl
    lone false = omega (arith, sum_by-cons (at_block Virtual c) (l.active_virtual, Virtual) [])

virtuals-after_merge : (q : QueueState) (i c : ℕ) → i + 1 < length q.sections
    → virtuals c (after_merge q i) ≤ virtuals c q + cond (is_active_empty Virtual q (i + 1)) 0 (one Virtual (section_at q (i + 1)).active_virtual Virtual c)
virtuals-after_merge q i c within =
    let u : SectionState = section_at q i in
    let l : SectionState = section_at q (i + 1) in
    let v : Vanished = empty_actives q (i + 1) in
    let xs : List SectionState = remove q.sections (i + 1) in
    let long : length xs + 1 ≡ length q.sections = length-remove q.sections (i + 1) within in
    let first : get_or xs i no_section ≡ u = get_or-remove_below q.sections (i + 1) no_section i (omega arith) within in
    let f : virtuals_in c (get_or xs i no_section) ≡ virtuals_in c u = ap (virtuals_in c) first in
    omega (arith, f, sum_by-remove (virtuals_in c) q.sections (i + 1) no_section within, sum_by-set (virtuals_in c) xs i (section_joining v u l) no_section (omega (arith, long, within)), virtuals-joining v u l c)

one-same : (n c : ℕ) → 1 ≤ one Virtual n Virtual c → n ≡ c
one-same n c some = elim (cases_eq n c) [
  | inl e ↦ e
  | inr ne ↦ (let z : one Virtual n Virtual c ≡ 0 = rw (ne_eqb n c ne) refl in absurd (omega (arith, some, z)))
]

-- ---- how many rows have their place there
abbrev placed_at : ℕ → Place → ℕ
placed_at c r = cond (nat_eq r.place c) 1 0

abbrev pub placed_rows : ℕ → QueueState → ℕ
placed_rows c q = sum_by (placed_at c) (values_of q.rows)

pub placed-length : (q : QueueState) (c : ℕ) → length (rows_placed q c) ≡ placed_rows c q
placed-length q c = length-filter (λ (r : Place). nat_eq r.place c) (values_of q.rows)

placed-other : (c : ℕ) (r : Place) → (r.place ≡ c → ⊥) → placed_at c r ≡ 0
placed-other c r ne = rw (ne_eqb r.place c ne) refl

no_size : (rs : List Place) → length rs ≡ 0 → size_of rs ≡ 0
no_size [] none = refl
no_size (r ∷ rs) none = absurd (omega (arith, none))

-- what holds bytes is the place of a row
placed-held : (q : QueueState) (c : ℕ) → 1 ≤ bytes_held Virtual q c → 1 ≤ placed_rows c q
placed-held q c some = elim (cases_lt 0 (length (rows_placed q c))) [
  | inl lt ↦ omega (arith, lt, placed-length q c)
  | inr le ↦ absurd (omega (arith, some, no_size (rows_placed q c) (omega (arith, le))))
]

-- ---- the exceptions are those of P
abbrev pub UsedBut : (ℕ → Type 0) → QueueState → Type 0
UsedBut P q = (c : ℕ) → 1 ≤ virtuals c q → P c ⊎ (1 ≤ placed_rows c q)

abbrev pub Or : (ℕ → Type 0) → ℕ → ℕ → Type 0
Or P b c = P c ⊎ (c ≡ b)

pub used-without_block : (P : ℕ → Type 0) (q : QueueState) (b : ℕ) → IsLoose q → is_sealed q b ≡ true → UsedBut (Or P b) q → UsedBut P (without_block q b)
used-without_block P q b loose there used c some =
    elim (used c (omega (arith, some, virtuals-without_block q b c there))) [
      | inr h ↦ inr h
      | inl p ↦ elim p [
        | inl h ↦ inl h
        | inr e ↦ absurd (omega (arith, some, gone-none (without_block q b) c (subst (λ y. Gone y (without_block q b)) (sym e) (without_block-gone q b loose there))))
      ]
    ]

used-clear : (t : Bool) (P : ℕ → Type 0) (q : QueueState) (b : ℕ) → is_emptied q b ≡ t → IsLoose q → UsedBut (Or P b) q → UsedBut P (without_block_if t q b)
used-clear true P q b emptied loose used c some = used-without_block P q b loose (sealed-virtual-there q b (both emptied)) used c some
  where
    both : is_emptied q b ≡ true → is_sealed_virtual q b ≡ true
    both h = by_bool (is_sealed_virtual q b) (λ t. t) (λ f. absurd (clash (sym (rw f at h))))
used-clear false P q b emptied loose used c some =
    elim (used c some) [
      | inr h ↦ inr h
      | inl p ↦ elim p [
        | inl h ↦ inl h
        | inr e ↦ inr (
            let there : is_sealed_virtual q b ≡ true = subst (λ y. is_sealed_virtual q y ≡ true) e (virtual-there q c some) in
            let not_empty : nat_eq (length (rows_placed q b)) 0 ≡ false = rw there at emptied in
            let long : length (rows_placed q b) ≡ length (rows_placed q c) = ap (λ y. length (rows_placed q y)) (sym e) in
            elim (cases_lt 0 (length (rows_placed q b))) [
              | inl lt ↦ omega (arith, lt, long, placed-length q c)
              | inr le ↦ absurd (eqb-false _ _ not_empty (omega (arith, le)))
            ])
      ]
    ]

pub used-cleared : (P : ℕ → Type 0) (q : QueueState) (b : ℕ) → IsLoose q → UsedBut (Or P b) q → UsedBut P (without_if_emptied q b)
used-cleared P q b loose used = used-clear (is_emptied q b) P q b refl loose used

-- a row leaves its place
pub used-after_remove : (P : ℕ → Type 0) (q : QueueState) (o b : ℕ) (r : Place) → row_at q o ≡ Some r → r.place ≡ b → UsedBut (Or P b) q → UsedBut (Or P b) (after_remove q o)
used-after_remove P q o b r is at used c some =
    let h = rw is at (sum_by-remove_entry (placed_at c) (is_key (nat_cmp o)) q.rows) in
    elim (used c some) [
      | inl p ↦ inl p
      | inr more ↦ elim (cases_eq r.place c) [
        | inl e ↦ inl (inr (sym e ∙ at))
        | inr ne ↦ inr (omega (arith, more, h, placed-other c r ne))
      ]
    ]

-- or gets another place
pub used-written : (P : ℕ → Type 0) (q q' : QueueState) (o : ℕ) (r new : Place) → IsLoose q → row_at q o ≡ Some r → q'.rows ≡ insert_entry nat_cmp q.rows o new → q'.sections ≡ q.sections → UsedBut P q → UsedBut (Or P r.place) q'
used-written P q q' o r new loose is rows sections used c some =
    let h = rw is at (sum_by-insert_entry (placed_at c) nat_cmp_total q.rows o new loose.ordered) in
    let now : placed_rows c q' ≡ sum_by (placed_at c) (values_of (insert_entry nat_cmp q.rows o new)) = ap (λ rs. sum_by (placed_at c) (values_of rs)) rows in
    let same : virtuals c q' ≡ virtuals c q = ap (sum_by (virtuals_in c)) sections in
    elim (used c (omega (arith, some, same))) [
      | inl p ↦ inl (inl p)
      | inr more ↦ elim (cases_eq r.place c) [
        | inl e ↦ inl (inr (sym e))
        | inr ne ↦ inr (omega (arith, more, h, now, placed-other c r ne))
      ]
    ]

-- a row comes
pub used-added : (P : ℕ → Type 0) (q q' : QueueState) (o : ℕ) (new : Place) → IsLoose q → row_at q o ≡ None → q'.rows ≡ insert_entry nat_cmp q.rows o new → q'.sections ≡ q.sections → UsedBut P q → UsedBut P q'
used-added P q q' o new loose is rows sections used c some =
    let h = rw is at (sum_by-insert_entry (placed_at c) nat_cmp_total q.rows o new loose.ordered) in
    let now : placed_rows c q' ≡ sum_by (placed_at c) (values_of (insert_entry nat_cmp q.rows o new)) = ap (λ rs. sum_by (placed_at c) (values_of rs)) rows in
    let same : virtuals c q' ≡ virtuals c q = ap (sum_by (virtuals_in c)) sections in
    elim (used c (omega (arith, some, same))) [
      | inl p ↦ inl p
      | inr more ↦ inr (omega (arith, more, h, now))
    ]

-- ---- what sealing, splitting and merging leave
used-device_if : (t : Bool) (P : ℕ → Type 0) (q : QueueState) (i : ℕ) → i < length q.sections → UsedBut P q → UsedBut P (seal_unless t q i Device)
used-device_if true P q i within used c some = used c some
used-device_if false P q i within used c some = used c (omega (arith, some, virtuals-seal_device q i c within))

pub used-device_room : (P : ℕ → Type 0) (q : QueueState) (i z : ℕ) → i < length q.sections → UsedBut P q → UsedBut P (with_room q Device i z)
used-device_room P q i z within used = used-device_if (is_room q Device i z) P q i within used

used-virtual_if : (t : Bool) (P : ℕ → Type 0) (q : QueueState) (i : ℕ) → i < length q.sections → (t ≡ false → 1 ≤ bytes_held Virtual q (section_at q i).active_virtual) → UsedBut P q → UsedBut P (seal_unless t q i Virtual)
used-virtual_if true P q i within held used c some = used c some
used-virtual_if false P q i within held used c some =
    elim (cases_lt 0 (virtuals c q)) [
      | inl lt ↦ used c (omega (arith, lt))
      | inr le ↦ inr (
          let e : (section_at q i).active_virtual ≡ c = one-same (section_at q i).active_virtual c (omega (arith, some, le, virtuals-seal_virtual q i c within)) in
          subst (λ y. 1 ≤ placed_rows y q) e (placed-held q (section_at q i).active_virtual (held refl)))
    ]

-- an active virtual block is sealed only where it holds something
pub used-virtual_room : (P : ℕ → Type 0) (q : QueueState) (i z : ℕ) → i < length q.sections → z ≤ q.shape.block → UsedBut P q → UsedBut P (with_room q Virtual i z)
used-virtual_room P q i z within small used =
    used-virtual_if (is_room q Virtual i z) P q i within (λ f. omega (arith, small, leb-false _ _ f)) used

pub used-after_split : (P : ℕ → Type 0) (q : QueueState) (i n : ℕ) → i < length q.sections → UsedBut P q → UsedBut P (after_split q i n)
used-after_split P q i n within used c some = used c (omega (arith, some, virtuals-after_split q i n c within))

pub used-after_merge : (P : ℕ → Type 0) (q : QueueState) (i : ℕ) → i + 1 < length q.sections → UsedBut P q → UsedBut P (after_merge q i)
used-after_merge P q i within used c some =
    let v : ℕ = (section_at q (i + 1)).active_virtual in
    let n : Bool = nat_eq (bytes_held Virtual q v) 0 in
    elim (cases_lt 0 (virtuals c q)) [
      | inl lt ↦ used c (omega (arith, lt))
      | inr le ↦
          by_bool n
          (λ t. (let z : cond n 0 (one Virtual v Virtual c) ≡ 0 = rw t refl in absurd (omega (arith, some, le, z, virtuals-after_merge q i c within))))
          (λ f. (
          let z : cond n 0 (one Virtual v Virtual c) ≡ one Virtual v Virtual c = rw f refl in
          let e : v ≡ c = one-same v c (omega (arith, some, le, z, virtuals-after_merge q i c within)) in
          inr (subst (λ y. 1 ≤ placed_rows y q) e (placed-held q v (some_held (bytes_held Virtual q v) f)))))
    ]
  where
    some_held : (m : ℕ) → nat_eq m 0 ≡ false → 1 ≤ m
    some_held m f = elim (cases_lt 0 m) [
      | inl lt ↦ omega (arith, lt)
      | inr le ↦ absurd (eqb-false m 0 f (omega (arith, le)))
    ]
