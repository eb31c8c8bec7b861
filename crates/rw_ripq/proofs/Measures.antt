-- What an eviction lowers: the rows whose place is unlike their home, and the sealed blocks.
use Rattle.std.proofs.Common.{◌≡◌, ℕ, ◌+◌, ◌≤◌, ◌<◌, List, [], ◌∷◌, refl, arith, Bool, true, false, cond, length, get_or, nat_eq, suc}
use Rattle.std.specs.Prelude.{Some, count_by, not, remove}
use Rattle.std.specs.List.{list_any, position_or_len}
use Rattle.std.specs.Ordering.{nat_cmp}
use Rattle.std.specs.Cmp.{nat_cmp_total}
use Rattle.std.specs.BTreeMap.{is_at as is_key}
use Rattle.std.proofs.lemmas.Bool.{eq-eqb, ne_eqb, eqb-true, and_parts}
use Rattle.std.proofs.lemmas.List.Edits.{length-remove}
use Rattle.std.proofs.lemmas.List.Sums.{sum_by-cons, sum_by-set, get_or-le-sum_by}
use Rattle.std.proofs.lemmas.Map.Entries.{sum_by-insert_entry, sum_by-remove_entry}
use Rattle.rw_blocks.specs.Loose.{IsLoose, count, count_in, is_sealed_virtual}
use Rattle.rw_blocks.specs.Changes.{section_sealing}
use Rattle.rw_blocks.specs.Primitives.{after_rehome, after_remove, after_seal, after_take_out}
use Rattle.rw_blocks.specs.Sections.{SectionState, no_section, has_serial, is_block, is_kind}
use Rattle.rw_blocks.specs.State.{QueueState, row_at, row_or, section_at}
use Rattle.rw_blocks.specs.declared.Kind.{Kind}
use Rattle.rw_blocks.specs.declared.Kind.TheVariants.{Device, Virtual}
use Rattle.rw_blocks.specs.declared.Place.{Place}
use Rattle.rw_ripq.proofs.Cases.{seal_unless}
use Rattle.rw_ripq.proofs.Basics.{by_bool}
use Rattle.rw_ripq.specs.Evict.{displaced_rows, without_rows}
use Rattle.rw_ripq.specs.Put.{is_room, with_room}
use Rattle.rw_ripq.specs.Sealed.{has_sealed, sealed_blocks, sealed_position, sealed_section, without_block}

-- ---- the displaced rows
abbrev pub unlike : Place → ℕ
unlike r = cond (not (nat_eq r.place r.home)) 1 0

pub displaced-after_remove : (q : QueueState) (o : ℕ) → displaced_rows (after_remove q o) ≤ displaced_rows q
displaced-after_remove q o = omega (arith, sum_by-remove_entry unlike (is_key (nat_cmp o)) q.rows)

pub displaced-without_rows : (q : QueueState) (os : List ℕ) → displaced_rows (without_rows q os) ≤ displaced_rows q
displaced-without_rows q [] = omega arith
displaced-without_rows q (o ∷ os) = omega (arith, displaced-without_rows (after_remove q o) os, displaced-after_remove q o)

pub sealed_blocks-without_rows : (q : QueueState) (os : List ℕ) → sealed_blocks (without_rows q os) ≡ sealed_blocks q
sealed_blocks-without_rows q [] = refl
sealed_blocks-without_rows q (o ∷ os) = sealed_blocks-without_rows (after_remove q o) os

pub displaced-after_rehome : (q : QueueState) (o i : ℕ) (r : Place) → IsLoose q → row_at q o ≡ Some r → (r.place ≡ r.home → ⊥) → displaced_rows (after_rehome q o i) + 1 ≡ displaced_rows q
displaced-after_rehome q o i r loose is apart =
    let d : ℕ = (section_at q i).active_device in
    let new : Place = record { size = (row_or q o).size; home = d; place = d } in
    let h = rw is at (sum_by-insert_entry unlike nat_cmp_total q.rows o new loose.ordered) in
    let old : unlike r ≡ 1 = rw (ne_eqb r.place r.home apart) refl in
    let now : unlike new ≡ 0 = rw (eq-eqb d d refl) refl in
    rw is (omega (arith, h, old, now))

-- ---- the sealed blocks
length-section_sealing : (K : Kind) (n : ℕ) (s : SectionState) → length (section_sealing K n s).sealed ≡ suc (length s.sealed)
length-section_sealing Device n s = refl
length-section_sealing Virtual n s = refl

pub sealed_blocks-after_seal : (q : QueueState) (i : ℕ) (K : Kind) → i < length q.sections → sealed_blocks (after_seal q i K) ≡ sealed_blocks q + 1
sealed_blocks-after_seal q i K within =
    omega (arith, sum_by-set (λ s. length s.sealed) q.sections i (section_sealing K q.next (section_at q i)) no_section within, length-section_sealing K q.next (section_at q i))

sealed_blocks-if : (b : Bool) (q : QueueState) (K : Kind) (i : ℕ) → i < length q.sections → sealed_blocks (seal_unless b q i K) ≤ sealed_blocks q + 1
sealed_blocks-if true q K i within = omega arith
sealed_blocks-if false q K i within = omega (arith, sealed_blocks-after_seal q i K within)

displaced-if : (b : Bool) (q : QueueState) (K : Kind) (i : ℕ) → displaced_rows (seal_unless b q i K) ≡ displaced_rows q
displaced-if true q K i = refl
displaced-if false q K i = refl

pub sealed_blocks-with_room : (q : QueueState) (K : Kind) (i z : ℕ) → i < length q.sections → sealed_blocks (with_room q K i z) ≤ sealed_blocks q + 1
sealed_blocks-with_room q K i z within = sealed_blocks-if (is_room q K i z) q K i within

pub displaced-with_room : (q : QueueState) (K : Kind) (i z : ℕ) → displaced_rows (with_room q K i z) ≡ displaced_rows q
displaced-with_room q K i z = displaced-if (is_room q K i z) q K i

pub sealed_blocks-after_take_out : (q : QueueState) (i p : ℕ) → i < length q.sections → p < length (section_at q i).sealed → sealed_blocks (after_take_out q i p) + 1 ≡ sealed_blocks q
sealed_blocks-after_take_out q i p within inside =
    let s : SectionState = section_at q i in
    let t : SectionState = record s { sealed = remove s.sealed p } in
    omega (arith, sum_by-set (λ s. length s.sealed) q.sections i t no_section within, length-remove s.sealed p inside)

-- ---- where a block stands
pub position-there : {X : Type 0} (p : X → Bool) (xs : List X) (d : X) → list_any p xs ≡ true → (position_or_len p xs < length xs) × (p (get_or xs (position_or_len p xs) d) ≡ true)
position-there p [] d h = absurd (cc)
position-there p (x ∷ xs) d h =
    by_bool (p x)
    (λ t. rw t (omega arith, t))
    (λ f.
    let rest : list_any p xs ≡ true = rw f at h in
    let r = position-there p xs d rest in
    let e : 1 + position_or_len p xs ≡ suc (position_or_len p xs) = omega arith in
    rw f (rw e (omega (arith, r.0), r.1)))

pub sealed-there : (q : QueueState) (b : ℕ) → list_any (has_sealed b) q.sections ≡ true
    → (sealed_section q b < length q.sections) × (sealed_position q b < length (section_at q (sealed_section q b)).sealed) × ((get_or (section_at q (sealed_section q b)).sealed (sealed_position q b) (0, Device)).0 ≡ b)
sealed-there q b h =
    let s = position-there (has_sealed b) q.sections no_section h in
    let p = position-there (has_serial b) (section_at q (sealed_section q b)).sealed (0, Device) s.1 in
    (s.0, p.0, eqb-true _ _ p.1)

pub sealed_blocks-without_block : (q : QueueState) (b : ℕ) → list_any (has_sealed b) q.sections ≡ true → sealed_blocks (without_block q b) + 1 ≡ sealed_blocks q
sealed_blocks-without_block q b h =
    let t = sealed-there q b h in
    sealed_blocks-after_take_out q (sealed_section q b) (sealed_position q b) t.0 t.1

-- a wider test
pub any-wider : {X : Type 0} (p r : X → Bool) (xs : List X) → ((x : X) → p x ≡ true → r x ≡ true) → list_any p xs ≡ true → list_any r xs ≡ true
any-wider p r [] w h = absurd (cc)
any-wider p r (x ∷ xs) w h =
    by_bool (p x)
    (λ t. rw (w x t) refl)
    (λ f. by_bool (r x) (λ t. rw t refl) (λ g. rw g (any-wider p r xs w (rw f at h))))

-- whether a block of the kind is sealed
abbrev pub is_sealed_of : Kind → QueueState → ℕ → Bool
is_sealed_of K q b = list_any (λ s. list_any (is_block K b) s.sealed) q.sections

pub sealed_of-there : (K : Kind) (q : QueueState) (b : ℕ) → is_sealed_of K q b ≡ true → list_any (has_sealed b) q.sections ≡ true
sealed_of-there K q b h =
    any-wider _ (has_sealed b) q.sections
    (λ s t. any-wider (is_block K b) (has_serial b) s.sealed (λ e u. (and_parts (nat_eq e.0 b) (is_kind K e.1) u).0) t) h

pub sealed-virtual-there : (q : QueueState) (b : ℕ) → is_sealed_virtual q b ≡ true → list_any (has_sealed b) q.sections ≡ true
sealed-virtual-there q b h = sealed_of-there Virtual q b h

-- ---- a sealed virtual block with no rows is free
pub any-counts : {X : Type 0} (p : X → Bool) (xs : List X) → list_any p xs ≡ true → 1 ≤ count_by p xs
any-counts p [] h = absurd (cc)
any-counts p (x ∷ xs) h =
    by_bool (p x)
    (λ t. let e = sum_by-cons (λ x. cond (p x) 1 0) x xs in let n : ℕ = cond (p x) 1 0 in let f : n ≡ 1 = rw t refl in omega (arith, e, f))
    (λ g. let e = sum_by-cons (λ x. cond (p x) 1 0) x xs in omega (arith, e, any-counts p xs (rw g at h)))

pub kind-counts : (K : Kind) (q : QueueState) (b : ℕ) → is_sealed_of K q b ≡ true → 1 ≤ count K q b
kind-counts K q b h =
    let test : SectionState → Bool = λ s. list_any (is_block K b) s.sealed in
    let t = position-there test q.sections no_section h in
    let i : ℕ = position_or_len test q.sections in
    let s : SectionState = get_or q.sections i no_section in
    let c : 1 ≤ count_by (is_block K b) s.sealed = any-counts _ s.sealed t.1 in
    let e = sum_by-cons (λ e. cond (is_block K b e) 1 0) (s.active_device, Device) ((s.active_virtual, Virtual) ∷ s.sealed) in
    let f = sum_by-cons (λ e. cond (is_block K b e) 1 0) (s.active_virtual, Virtual) s.sealed in
    let inside : count_in K b s ≤ count K q b = get_or-le-sum_by (count_in K b) q.sections i no_section t.0 in
    omega (arith, c, e, f, inside)

pub virtual-counts : (q : QueueState) (b : ℕ) → is_sealed_virtual q b ≡ true → 1 ≤ count Virtual q b
virtual-counts q b h = kind-counts Virtual q b h
