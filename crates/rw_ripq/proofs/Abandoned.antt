-- A sealed device block that is the home of no row: why it is free, where it is found, and what is left without it.
use Rattle.std.proofs.Common.{◌≡◌, ℕ, ◌≤◌, List, [], ◌∷◌, refl, sym, ap, subst, ◌∙◌, arith, Bool, true, false, cond, length, get_or, nat_eq, inl, inr}
use Rattle.std.specs.Prelude.{Some, All, ◌&&◌, not, filter, count_by, slice_get}
use Rattle.std.specs.List.{list_any}
use Rattle.std.specs.Map.{values_of}
use Rattle.std.proofs.lemmas.Bool.{eq-eqb, eqb-true, and_parts}
use Rattle.std.proofs.lemmas.List.Elements.{All-head, All-tail}
use Rattle.std.proofs.lemmas.List.Sums.{sum_by-cons, get_or-le-sum_by, length-filter}
use Rattle.rw_blocks.proofs.Cited.{count-after_take_out}
use Rattle.rw_blocks.specs.Loose.{IsFree, IsLoose, IsSized, count, is_sealed_virtual, sealed_devices}
use Rattle.rw_blocks.specs.Questions.{IsHeldOfKind}
use Rattle.rw_blocks.specs.Rows.{size_of}
use Rattle.rw_blocks.specs.Sections.{no_section, has_serial, is_block, is_virtual}
use Rattle.rw_blocks.specs.State.{QueueState, section_at}
use Rattle.rw_blocks.specs.Sums.{rows_homed}
use Rattle.rw_blocks.specs.declared.Kind.{Kind}
use Rattle.rw_blocks.specs.declared.Kind.TheVariants.{Device, Virtual}
use Rattle.rw_blocks.specs.declared.Place.{Place}
use Rattle.rw_ripq.proofs.Basics.{by_bool, clash}
use Rattle.rw_ripq.proofs.Cases.{without_block_if}
use Rattle.rw_ripq.proofs.Devices.{devices-clear}
use Rattle.rw_ripq.proofs.Emptied.{and-false, same-kind}
use Rattle.rw_ripq.proofs.Folds.{sealed_count-without_block_if}
use Rattle.rw_ripq.proofs.Measures.{any-counts, is_sealed_of, kind-counts, sealed-there, sealed_of-there, virtual-counts, sealed-virtual-there}
use Rattle.rw_ripq.proofs.Orders.{Kept, kept-without_block_if}
use Rattle.rw_ripq.proofs.Places.{any_get, get-at}
use Rattle.rw_ripq.proofs.Reputs.{loose-without_block_if, rows-without_block_if}
use Rattle.rw_ripq.proofs.Falls.{sum-le}
use Rattle.rw_ripq.proofs.Turns.{sealed_count-there}
use Rattle.rw_ripq.specs.Sealed.{has_sealed, is_abandoned, is_sealed, is_sealed_device, sealed_position, sealed_section, without_block, without_if_abandoned}
use Rattle.rw_ripq.specs.Victim.{in_sealed, sealed_count}

-- ---- it is free
abbrev pub AbandonedParts : QueueState → ℕ → Type 0
AbandonedParts q b = (is_sealed_device q b ≡ true) × (length (rows_homed q b) ≡ 0)

pub abandoned-parts : (q : QueueState) (b : ℕ) → is_abandoned q b ≡ true → AbandonedParts q b
abandoned-parts q b h =
    let p = and_parts (is_sealed_device q b) (nat_eq (length (rows_homed q b)) 0) h in
    (p.0, eqb-true _ _ p.1)

pub abandoned-there : (q : QueueState) (b : ℕ) → is_abandoned q b ≡ true → is_sealed q b ≡ true
abandoned-there q b h = sealed_of-there Device q b (abandoned-parts q b h).0

pub abandoned-free : (q : QueueState) (b : ℕ) → IsLoose q → is_abandoned q b ≡ true → IsFree q b
abandoned-free q b loose h k d lt =
    let parts : AbandonedParts q b = abandoned-parts q b h in
    let r : Place = get_or (values_of q.rows) k d in
    let away : r.home ≡ b → ⊥ = λ e. (
    let n : ℕ = cond (nat_eq r.home b) 1 0 in
    let f : n ≡ 1 = rw (eq-eqb r.home b e) refl in
    let g : n ≤ count_by (λ x. nat_eq x.home b) (values_of q.rows) = get_or-le-sum_by (λ (x : Place). cond (nat_eq x.home b) 1 0) (values_of q.rows) k d lt in
    absurd (omega (arith, f, g, parts.1, length-filter (λ (x : Place). nat_eq x.home b) (values_of q.rows)))) in (
      away,
      λ e. elim (loose.places k d lt) [
        | inl same ↦ away (sym same ∙ e)
        | inr c ↦ absurd (omega (arith, c, ap (count Virtual q) e, kind-counts Device q b parts.0, loose.distinct b))
      ],
    )

-- ---- where it is found
-- rows of some bytes each have none together only where there is none
no_bytes : (q : QueueState) (t : Place → Bool) (rs : List Place) → All (IsSized q) rs → size_of (filter t rs) ≡ 0 → length (filter t rs) ≡ 0
no_bytes q t [] sized none = refl
no_bytes q t (r ∷ rs) sized none =
    by_bool (t r)
    (λ h.
    let bytes : size_of (r ∷ filter t rs) ≡ 0 = rw h at none in
    absurd (omega (arith, bytes, sum_by-cons (λ (r : Place). r.size) r (filter t rs), (All-head (IsSized q) r rs sized).0)))
    (λ h. rw h (no_bytes q t rs (All-tail (IsSized q) r rs sized) (rw h at none)))

pub and-both : (t u : Bool) → t ≡ true → u ≡ true → (t && u) ≡ true
and-both t u h i = rw (h, i) refl

device-once : (q : QueueState) (b : ℕ) → IsLoose q → is_sealed_device q b ≡ true → count Device q b ≡ 1
device-once q b loose there = omega (arith, kind-counts Device q b there, loose.distinct b)

-- a sealed block is sealed as one of its kind
sealed-of : (q : QueueState) (b : ℕ) → is_sealed q b ≡ true → is_sealed_of (get_or (section_at q (sealed_section q b)).sealed (sealed_position q b) (0, Device)).1 q b ≡ true
sealed-of q b h =
    let there = sealed-there q b h in
    let e : ℕ × Kind = get_or (section_at q (sealed_section q b)).sealed (sealed_position q b) (0, Device) in
    let here : list_any (is_block e.1 b) (section_at q (sealed_section q b)).sealed ≡ true =
    any_get (is_block e.1 b) (section_at q (sealed_section q b)).sealed (sealed_position q b) (0, Device) there.1 (rw (eq-eqb e.0 b there.2) (same-kind e.1)) in
    any_get (λ s. list_any (is_block e.1 b) s.sealed) q.sections (sealed_section q b) no_section there.0 here

not-both : (q : QueueState) (b : ℕ) → IsLoose q → is_sealed_virtual q b ≡ true → is_sealed_device q b ≡ false
not-both q b loose v =
    by_bool (is_sealed_device q b)
    (λ t. absurd (omega (arith, kind-counts Device q b t, virtual-counts q b v, loose.distinct b)))
    (λ f. f)

abandoned-kind : (K : Kind) (q : QueueState) (b : ℕ) → IsLoose q → IsHeldOfKind q b 0 → is_sealed_of K q b ≡ true → not (is_virtual K) ≡ is_abandoned q b
abandoned-kind Device q b loose held there =
    let none : length (rows_homed q b) ≡ 0 = no_bytes q (λ r. nat_eq r.home b) (values_of q.rows) loose.sizes (sym (held Device (device-once q b loose there))) in
    sym (and-both (is_sealed_device q b) _ there (eq-eqb _ 0 none))
abandoned-kind Virtual q b loose held there = sym (and-false (is_sealed_device q b) _ (not-both q b loose there))

-- a sealed block that holds nothing is abandoned where it is no virtual one
pub abandoned-at : (q : QueueState) (b i p : ℕ) (e : ℕ × Kind) → IsLoose q → IsHeldOfKind q b 0 → is_sealed q b ≡ true → i ≡ sealed_section q b → p ≡ sealed_position q b
    → slice_get (section_at q i).sealed p ≡ Some e → not (is_virtual e.1) ≡ is_abandoned q b
abandoned-at q b i p e loose held sealed at_section at_position is =
    let found = get-at (λ _. true) (section_at q i).sealed p (0, Device) e is in
    let same : get_or (section_at q (sealed_section q b)).sealed (sealed_position q b) (0, Device) ≡ e =
    sym (ap (λ i. get_or (section_at q i).sealed p (0, Device)) at_section ∙ ap (λ p. get_or (section_at q (sealed_section q b)).sealed p (0, Device)) at_position) ∙ found.1 in
    abandoned-kind e.1 q b loose held (subst (λ (x : ℕ × Kind). is_sealed_of x.1 q b ≡ true) same (sealed-of q b sealed))

-- a block that is not sealed, or holds bytes, is not abandoned
pub gone-not-abandoned : (q : QueueState) (b : ℕ) → is_sealed q b ≡ false → is_abandoned q b ≡ false
gone-not-abandoned q b gone = by_bool (is_abandoned q b) (λ t. absurd (clash (sym (abandoned-there q b t) ∙ gone))) (λ f. f)

no_rows : (rs : List Place) → length rs ≡ 0 → size_of rs ≡ 0
no_rows [] none = refl
no_rows (r ∷ rs) none = absurd (omega (arith, none))

pub held-not-abandoned : (q : QueueState) (b z : ℕ) → IsLoose q → IsHeldOfKind q b z → (z ≡ 0 → ⊥) → is_abandoned q b ≡ false
held-not-abandoned q b z loose held some =
    by_bool (is_abandoned q b)
    (λ t.
    let parts : AbandonedParts q b = abandoned-parts q b t in
    absurd (some (held Device (device-once q b loose parts.0) ∙ no_rows (rows_homed q b) parts.1)))
    (λ f. f)

pub abandoned-then : (q : QueueState) (b : ℕ) → is_abandoned q b ≡ true → without_block q b ≡ without_if_abandoned q b
abandoned-then q b h = rw h refl

pub abandoned-else : (q : QueueState) (b : ℕ) → is_abandoned q b ≡ false → q ≡ without_if_abandoned q b
abandoned-else q b h = rw h refl

-- ---- what is left without it
pub IsLoose-reclaimed : (q : QueueState) (b : ℕ) → IsLoose q → IsLoose (without_if_abandoned q b)
IsLoose-reclaimed q b loose = loose-without_block_if (is_abandoned q b) q b (λ t. (abandoned-there q b t, abandoned-free q b loose t)) loose

pub rows-reclaimed : (q : QueueState) (b : ℕ) → (without_if_abandoned q b).rows ≡ q.rows
rows-reclaimed q b = rows-without_block_if (is_abandoned q b) q b

pub kept-reclaimed : (q : QueueState) (b x c : ℕ) → IsLoose q → Kept x c q → Kept x c (without_if_abandoned q b)
kept-reclaimed q b x c loose k = kept-without_block_if (is_abandoned q b) q b x c (abandoned-there q b) loose k

pub devices-reclaimed : (q : QueueState) (b : ℕ) → sealed_devices (without_if_abandoned q b) ≤ sealed_devices q
devices-reclaimed q b = devices-clear (is_abandoned q b) q b (abandoned-there q b)

-- ---- a sealed home stays sealed while another block is taken out
sealed-some : (q : QueueState) (b : ℕ) → is_sealed q b ≡ true → 1 ≤ sealed_count b q
sealed-some q b there =
    omega (
      arith,
      any-counts (has_sealed b) q.sections there,
      sum-le (λ s. cond (has_sealed b s) 1 0) (in_sealed b) q.sections (λ s.
          by_bool (has_sealed b s)
          (λ t. rw t (any-counts (has_serial b) s.sealed t))
          (λ f. rw f (omega arith))),
    )

-- a sealed block that is no virtual one is a device one
sealed-device : (q : QueueState) (b : ℕ) → is_sealed q b ≡ true → count Virtual q b ≡ 0 → is_sealed_device q b ≡ true
sealed-device q b there none = go (get_or (section_at q (sealed_section q b)).sealed (sealed_position q b) (0, Device)).1 (sealed-of q b there)
  where
    go : (K : Kind) → is_sealed_of K q b ≡ true → is_sealed_device q b ≡ true
    go Device is = is
    go Virtual is = absurd (omega (arith, none, virtual-counts q b is))

fewer-virtual : (t : Bool) (q : QueueState) (p b : ℕ) → (t ≡ true → is_sealed_virtual q p ≡ true) → count Virtual (without_block_if t q p) b ≤ count Virtual q b
fewer-virtual true q p b h =
    let s = sealed-there q p (sealed-virtual-there q p (h refl)) in
    omega (arith, count-after_take_out q (sealed_section q p) (sealed_position q p) Virtual b s.0 s.1)
fewer-virtual false q p b h = omega arith

apart-if : (t : Bool) (q : QueueState) (p b : ℕ) → (t ≡ true → is_sealed_virtual q p ≡ true) → IsLoose q → count Device q b ≡ 1 → (t ≡ true → (p ≡ b → ⊥))
apart-if t q p b h loose home is e = omega (arith, home, ap (count Device q) e, virtual-counts q p (h is), loose.distinct p)

stays-if : (t : Bool) (q : QueueState) (p b : ℕ) → (t ≡ true → is_sealed_virtual q p ≡ true) → (t ≡ true → (p ≡ b → ⊥)) → sealed_count b (without_block_if t q p) ≡ sealed_count b q
stays-if true q p b h apart = sealed_count-without_block_if true q p b h (apart refl)
stays-if false q p b h apart = refl

pub home-stays : (t : Bool) (q : QueueState) (p b : ℕ) → (t ≡ true → is_sealed_virtual q p ≡ true) → IsLoose q → count Device q b ≡ 1 → is_sealed q b ≡ true → is_sealed_device (without_block_if t q p) b ≡ true
home-stays t q p b h loose home there =
    let v : QueueState = without_block_if t q p in
    let still : sealed_count b v ≡ sealed_count b q = stays-if t q p b h (apart-if t q p b h loose home) in
    sealed-device v b (sealed_count-there v b (omega (arith, still, sealed-some q b there))) (omega (arith, fewer-virtual t q p b h, home, loose.distinct b))
