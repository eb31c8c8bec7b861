-- Each primitive leaves a loose queue.
use Rattle.std.proofs.Common.{◌≡◌, ℕ, ◌+◌, ◌≤◌, ◌<◌, ◌^◌, List, ◌∷◌, refl, sym, ap, ◌∙◌, arith, Bool, true, false, cond, length, nat_eq, inl, inr}
use Rattle.std.specs.Prelude.{Option, Some, None, unwrap_or, sum_by, count_by, All, ◌&&◌}
use Rattle.std.specs.Option.{option_map}
use Rattle.std.specs.Ordering.{nat_cmp}
use Rattle.std.specs.Cmp.{nat_cmp_total}
use Rattle.std.specs.Map.{values_of}
use Rattle.std.specs.BTreeMap.{is_at}
use Rattle.std.proofs.lemmas.List.Sums.{sum_by-cons, get_or-le-sum_by}
use Rattle.std.proofs.lemmas.Map.Entries.{sum_by-insert_entry, sum_by-remove_entry}
use Rattle.std.proofs.lemmas.Map.Views.{All-values-insert_entry, All-map-remove_entry, IfSome-lookup_from_All}
use Rattle.rw_blocks.specs.declared.Kind.{Kind}
use Rattle.rw_blocks.specs.declared.Kind.TheVariants.{Device, Virtual}
use Rattle.rw_blocks.specs.declared.Place.{Place}
use Rattle.rw_blocks.specs.Sections.{SectionState, no_section, active_of, is_kind}
use Rattle.rw_blocks.specs.State.{QueueState, section_at, row_at}
use Rattle.rw_blocks.specs.Sums.{bytes_held, total}
use Rattle.rw_blocks.specs.Loose.{IsLoose, count, count_in, IsHomed, IsPlaced, IsSized}
use Rattle.rw_blocks.specs.Primitives.{with_row, after_add, after_remove, after_rehome, after_replace}
use Rattle.std.proofs.lemmas.Bool.{eq-eqb, ne_eqb, cases_eq}
use Rattle.rw_blocks.proofs.Entries.{sorted-insert_entry, sorted-remove_entry}
use Rattle.rw_blocks.proofs.Sums.{sum_by-filter}

-- the serial by which a row is held, and what it then adds
abbrev pub held_by : Kind → Place → ℕ
held_by Device r = r.home
held_by Virtual r = r.place

abbrev pub weight : Kind → ℕ → Place → ℕ
weight kind b r = cond (nat_eq (held_by kind r) b) r.size 0

pub bytes_held-is : (kind : Kind) (q : QueueState) (b : ℕ) → bytes_held kind q b ≡ sum_by (weight kind b) (values_of q.rows)
bytes_held-is Device q b = sum_by-filter (λ r. r.size) (λ r. nat_eq r.home b) (values_of q.rows)
bytes_held-is Virtual q b = sum_by-filter (λ r. r.size) (λ r. nat_eq r.place b) (values_of q.rows)

abbrev pub old_weight : (Place → ℕ) → Option Place → ℕ
old_weight f r = unwrap_or (option_map f r) 0

pub bytes_held-with_row : (kind : Kind) (q : QueueState) (o b : ℕ) (r : Place) → IsLoose q → bytes_held kind (with_row q o r) b + old_weight (weight kind b) (row_at q o) ≡ bytes_held kind q b + weight kind b r
bytes_held-with_row kind q o b r loose =
    rw (bytes_held-is kind (with_row q o r) b, bytes_held-is kind q b)
    (sum_by-insert_entry (weight kind b) nat_cmp_total q.rows o r loose.ordered)

pub total-with_row : (q : QueueState) (o : ℕ) (r : Place) → IsLoose q → total (with_row q o r) + old_weight (λ r. r.size) (row_at q o) ≡ total q + r.size
total-with_row q o r loose = sum_by-insert_entry (λ r. r.size) nat_cmp_total q.rows o r loose.ordered

-- an active block is there once
in_first : (p : ℕ × Kind → Bool) (x : ℕ × Kind) (xs : List (ℕ × Kind)) → p x ≡ true → 1 ≤ count_by p (x ∷ xs)
in_first p x xs h = rw (sum_by-cons (λ x. cond (p x) 1 0) x xs, h) (omega arith)

in_second : (p : ℕ × Kind → Bool) (x y : ℕ × Kind) (xs : List (ℕ × Kind)) → p y ≡ true → 1 ≤ count_by p (x ∷ (y ∷ xs))
in_second p x y xs h = let e = sum_by-cons (λ x. cond (p x) 1 0) x (y ∷ xs) in omega (arith, e, in_first p y xs h)

pub count_in-active : (kind : Kind) (s : SectionState) → 1 ≤ count_in kind (active_of kind s) s
count_in-active Device s =
    in_first (λ e. nat_eq e.0 s.active_device && is_kind Device e.1) (s.active_device, Device) ((s.active_virtual, Virtual) ∷ s.sealed) (rw (eq-eqb s.active_device s.active_device refl) refl)
count_in-active Virtual s =
    in_second (λ e. nat_eq e.0 s.active_virtual && is_kind Virtual e.1) (s.active_device, Device) (s.active_virtual, Virtual) s.sealed (rw (eq-eqb s.active_virtual s.active_virtual refl) refl)

pub active-there : (kind : Kind) (q : QueueState) (i : ℕ) → i < length q.sections → 1 ≤ count kind q (active_of kind (section_at q i))
active-there kind q i within =
    omega (arith, get_or-le-sum_by (count_in kind (active_of kind (section_at q i))) q.sections i no_section within, count_in-active kind (section_at q i))

pub active-once : (kind : Kind) (q : QueueState) (i : ℕ) → IsLoose q → i < length q.sections → count kind q (active_of kind (section_at q i)) ≡ 1
active-once Device q i loose within = omega (arith, loose.distinct (section_at q i).active_device, active-there Device q i within)
active-once Virtual q i loose within = omega (arith, loose.distinct (section_at q i).active_virtual, active-there Virtual q i within)

-- a device block is not a virtual one
pub device-not-virtual : (q : QueueState) (a b : ℕ) → IsLoose q → count Device q a ≡ 1 → count Virtual q b ≡ 1 → nat_eq a b ≡ false
device-not-virtual q a b loose d v =
    ne_eqb a b (λ e. let w : count Virtual q a ≡ 1 = ap (count Virtual q) e ∙ v in omega (arith, loose.distinct a, d, w))

pub IsLoose-with_row : (q : QueueState) (o : ℕ) (r : Place) → IsLoose q → IsHomed q r → IsPlaced q r → IsSized q r
    → ((kind : Kind) (b : ℕ) → count kind q b ≡ 1 → bytes_held kind (with_row q o r) b ≤ q.shape.block)
    → total (with_row q o r) ≤ 2 ^ 48
    → IsLoose (with_row q o r)
IsLoose-with_row q o r loose home place size fills within =
    record {
      shaped = loose.shaped;
      some_section = loose.some_section;
      few_sections = loose.few_sections;
      distinct = loose.distinct;
      below = loose.below;
      homes = All-values-insert_entry nat_cmp o r (IsHomed q) q.rows loose.homes home;
      places = All-values-insert_entry nat_cmp o r (IsPlaced q) q.rows loose.places place;
      sizes = All-values-insert_entry nat_cmp o r (IsSized q) q.rows loose.sizes size;
      fills = fills;
      within = within;
      ordered = sorted-insert_entry q.rows o r loose.ordered;
    }

pub bytes_held-after_remove : (kind : Kind) (q : QueueState) (o b : ℕ) → bytes_held kind (after_remove q o) b + old_weight (weight kind b) (row_at q o) ≡ bytes_held kind q b
bytes_held-after_remove kind q o b = rw (bytes_held-is kind (after_remove q o) b, bytes_held-is kind q b) (sum_by-remove_entry (weight kind b) (is_at (nat_cmp o)) q.rows)

pub IsLoose-after_remove : (q : QueueState) (o : ℕ) → IsLoose q → IsLoose (after_remove q o)
IsLoose-after_remove q o loose =
    record {
      shaped = loose.shaped;
      some_section = loose.some_section;
      few_sections = loose.few_sections;
      distinct = loose.distinct;
      below = loose.below;
      homes = All-map-remove_entry (is_at (nat_cmp o)) (λ e. e.1) (IsHomed q) q.rows loose.homes;
      places = All-map-remove_entry (is_at (nat_cmp o)) (λ e. e.1) (IsPlaced q) q.rows loose.places;
      sizes = All-map-remove_entry (is_at (nat_cmp o)) (λ e. e.1) (IsSized q) q.rows loose.sizes;
      fills = λ kind b one. omega (arith, bytes_held-after_remove kind q o b, loose.fills kind b one);
      within = omega (arith, loose.within, sum_by-remove_entry (λ r. r.size) (is_at (nat_cmp o)) q.rows);
      ordered = sorted-remove_entry q.rows o loose.ordered;
    }

weight-same : (kind : Kind) (b : ℕ) (r : Place) → held_by kind r ≡ b → weight kind b r ≡ r.size
weight-same kind b r e = rw (eq-eqb (held_by kind r) b e) refl

weight-other : (kind : Kind) (b : ℕ) (r : Place) → nat_eq (held_by kind r) b ≡ false → weight kind b r ≡ 0
weight-other kind b r e = rw e refl

-- a row whose home and place are one device block with room for it
home_fills : (q : QueueState) (o d z : ℕ) → IsLoose q → count Device q d ≡ 1 → bytes_held Device q d + z ≤ q.shape.block
    → (kind : Kind) (b : ℕ) → count kind q b ≡ 1 → bytes_held kind (with_row q o (record { size = z; home = d; place = d })) b ≤ q.shape.block
home_fills q o d z loose there fits Device b one =
    let r : Place = record { size = z; home = d; place = d } in
    let h = bytes_held-with_row Device q o b r loose in
    elim (cases_eq d b) [
      | inl e ↦ (let f : bytes_held Device q b ≡ bytes_held Device q d = ap (bytes_held Device q) (sym e) in omega (arith, h, f, weight-same Device b r e, fits))
      | inr n ↦ omega (arith, h, weight-other Device b r (ne_eqb d b n), loose.fills Device b one)
    ]
home_fills q o d z loose there fits Virtual b one =
    let r : Place = record { size = z; home = d; place = d } in
    omega (arith, bytes_held-with_row Virtual q o b r loose, weight-other Virtual b r (device-not-virtual q d b loose there one), loose.fills Virtual b one)

pub IsLoose-after_add : (q : QueueState) (o z i : ℕ) → IsLoose q → i < length q.sections → row_at q o ≡ None → 1 ≤ z
    → bytes_held Device q (section_at q i).active_device + z ≤ q.shape.block → total q + z ≤ 2 ^ 48 → IsLoose (after_add q o z i)
IsLoose-after_add q o z i loose within none some fits room =
    let d : ℕ = (section_at q i).active_device in
    let r : Place = record { size = z; home = d; place = d } in
    let there : count Device q d ≡ 1 = active-once Device q i loose within in
    IsLoose-with_row q o r loose there (inl refl) (some, omega arith) (home_fills q o d z loose there fits) (omega (arith, total-with_row q o r loose, room))

-- what a loose queue says of the row at an object
pub of_row : (q : QueueState) (o : ℕ) (r : Place) (P : Place → Type 0) → All P (values_of q.rows) → row_at q o ≡ Some r → P r
of_row q o r P all is = let h = rw is at (IfSome-lookup_from_All P (is_at (nat_cmp o)) q.rows all) in h

pub IsLoose-after_rehome : (q : QueueState) (o i : ℕ) (r : Place) → IsLoose q → i < length q.sections → row_at q o ≡ Some r
    → bytes_held Device q (section_at q i).active_device + r.size ≤ q.shape.block → IsLoose (after_rehome q o i)
IsLoose-after_rehome q o i r loose within is fits =
    let d : ℕ = (section_at q i).active_device in
    let new : Place = record { size = r.size; home = d; place = d } in
    let there : count Device q d ≡ 1 = active-once Device q i loose within in
    let t = rw is at (total-with_row q o new loose) in
    rw is
    (IsLoose-with_row q o new loose there (inl refl) (of_row q o r (IsSized q) loose.sizes is) (home_fills q o d r.size loose there fits) (omega (arith, t, loose.within)))

place_fills : (q : QueueState) (o v : ℕ) (r : Place) → IsLoose q → row_at q o ≡ Some r → count Virtual q v ≡ 1 → bytes_held Virtual q v + r.size ≤ q.shape.block
    → (kind : Kind) (b : ℕ) → count kind q b ≡ 1 → bytes_held kind (with_row q o (record r { place = v })) b ≤ q.shape.block
place_fills q o v r loose is there fits Device b one =
    let new : Place = record r { place = v } in
    let h = rw is at (bytes_held-with_row Device q o b new loose) in
    omega (arith, h, loose.fills Device b one)
place_fills q o v r loose is there fits Virtual b one =
    let new : Place = record r { place = v } in
    let h = bytes_held-with_row Virtual q o b new loose in
    elim (cases_eq v b) [
      | inl e ↦ (let f : bytes_held Virtual q b ≡ bytes_held Virtual q v = ap (bytes_held Virtual q) (sym e) in omega (arith, h, f, weight-same Virtual b new e, fits))
      | inr n ↦ omega (arith, h, weight-other Virtual b new (ne_eqb v b n), loose.fills Virtual b one)
    ]

pub IsLoose-after_replace : (q : QueueState) (o i : ℕ) (r : Place) → IsLoose q → i < length q.sections → row_at q o ≡ Some r
    → bytes_held Virtual q (section_at q i).active_virtual + r.size ≤ q.shape.block → IsLoose (after_replace q o i)
IsLoose-after_replace q o i r loose within is fits =
    let v : ℕ = (section_at q i).active_virtual in
    let new : Place = record r { place = v } in
    let there : count Virtual q v ≡ 1 = active-once Virtual q i loose within in
    let t = rw is at (total-with_row q o new loose) in
    rw is
    (IsLoose-with_row q o new loose (of_row q o r (IsHomed q) loose.homes is) (inr there) (of_row q o r (IsSized q) loose.sizes is) (place_fills q o v r loose is there fits) (omega (arith, t, loose.within)))
