-- What the code of an eviction needs at its calls.
use Rattle.std.proofs.Common.{◌≡◌, ℕ, ◌+◌, ◌≤◌, ◌<◌, List, refl, sym, ap, subst, ◌∙◌, arith, Bool, true, false, length, get_or, nat_eq, inl, inr}
use Rattle.std.specs.Prelude.{Some, None, IsSome, position, unwrap_or, not}
use Rattle.std.specs.Option.{option_map}
use Rattle.std.specs.List.{list_any, position_or_len}
use Rattle.std.proofs.lemmas.Bool.{cases_Bool, cases_lt, eqb-true, and_parts, lt-ltb, le-leb}
use Rattle.std.proofs.lemmas.List.Sums.{position_or_len_is}
use Rattle.rw_blocks.specs.declared.Kind.{Kind}
use Rattle.rw_blocks.specs.declared.Kind.TheVariants.{Device, Virtual}
use Rattle.rw_blocks.specs.declared.Place.{Place}
use Rattle.rw_blocks.proofs.Cited.{of_row}
use Rattle.rw_ripq.proofs.Rooms.{fits-with_room, shape-with_room}
use Rattle.rw_ripq.proofs.Reputs.{row-with_room, free-virtual, section_of-there, section_with-is, section-there}
use Rattle.std.proofs.lemmas.List.Quantifiers.{position-Some}
use Rattle.rw_ripq.proofs.Basics.{none_some}
use Rattle.rw_ripq.proofs.Places.{any_get, none-any}
use Rattle.rw_ripq.proofs.Measures.{sealed-there, position-there, sealed-virtual-there}
use Rattle.rw_blocks.specs.Loose.{IsFree, IsHomed, IsLoose, IsPlaced, IsSized, count, is_sealed_virtual}
use Rattle.rw_blocks.specs.Questions.{section_of}
use Rattle.rw_blocks.specs.Sections.{no_section, active_of, has_serial}
use Rattle.rw_blocks.specs.State.{QueueState, no_place, row_at, row_or, section_at}
use Rattle.rw_blocks.specs.Sums.{bytes_held, rows_placed, total}
use Rattle.std.specs.Ordering.{nat_cmp}
use Rattle.std.specs.BTreeMap.{is_at}
use Rattle.std.proofs.lemmas.Map.Entries.{sum_by-remove_entry}
use Rattle.rw_ripq.specs.Work.{Work, work_of, one_if}
use Rattle.rw_blocks.specs.Primitives.{HasRoom, after_rehome}
use Rattle.rw_ripq.specs.Evict.{reinsert}
use Rattle.rw_ripq.specs.declared.Policy.{Policy}
use Rattle.rw_ripq.specs.declared.Policy.TheVariants.{Off, Lru, Slru}
use Rattle.rw_ripq.specs.Levels.{hit_level, hit_level_from, hit_target, hit_target_from, target}
use Rattle.rw_ripq.specs.Put.{is_room, with_room}
use Rattle.rw_ripq.specs.Sealed.{is_emptied, is_sealed, without_if_emptied, has_sealed, sealed_position, sealed_section, without_block, section_with}

pub row-small : (q : QueueState) (o : ℕ) (r : Place) → IsLoose q → row_at q o ≡ Some r → r.size ≤ q.shape.block
row-small q o r loose is = (of_row q o r (IsSized q) loose.sizes is).1

pub rewrite-fits : (q : QueueState) (o i : ℕ) (r : Place) → IsLoose q → i < length q.sections → row_at q o ≡ Some r
    → bytes_held Device (with_room q Device i r.size) (section_at (with_room q Device i r.size) i).active_device + (row_or (with_room q Device i r.size) o).size ≤ (with_room q Device i r.size).shape.block
rewrite-fits q o i r loose within is =
    let w : QueueState = with_room q Device i r.size in
    let size : (row_or w o).size ≡ r.size = ap (λ m. (unwrap_or m no_place).size) (row-with_room q Device i r.size o ∙ is) in
    let small : r.size ≤ q.shape.block = row-small q o r loose is in
    let fits : bytes_held Device w (section_at w i).active_device + r.size ≤ w.shape.block = rw shape-with_room (fits-with_room q Device i r.size loose within small) in
    omega (arith, fits, size)

pub sealed-free : (q : QueueState) (b : ℕ) → list_any (has_sealed b) q.sections ≡ true → IsFree q b → IsFree q (get_or (section_at q (sealed_section q b)).sealed (sealed_position q b) (0, Device)).0
sealed-free q b h free = subst (λ n. IsFree q n) (sym (sealed-there q b h).2) free

-- ---- where a sealed block stands
pub position-none : (p : ℕ × Kind → Bool) (xs : List (ℕ × Kind)) → None ≡ position p xs → list_any p xs ≡ false
position-none p xs none = elim (cases_Bool (list_any p xs)) [
  | inr f ↦ f
  | inl t ↦ absurd (none_some {v = position_or_len p xs} (none ∙ (rw (lt-ltb (position_or_len p xs) (length xs) (position-there p xs (0, Device) t).0) refl)))
]

pub stands-at : (q : QueueState) (b i p : ℕ) → i < length q.sections → ((k : ℕ) → k < i → has_sealed b (section_at q k) ≡ false) → Some p ≡ position (has_serial b) (section_at q i).sealed
    → (is_sealed q b ≡ true) × (i ≡ sealed_section q b) × (p ≡ sealed_position q b)
stands-at q b i p within fails is =
    let here = position-Some (has_serial b) (section_at q i).sealed p (0, Device) (sym is) in
    let has : has_sealed b (section_at q i) ≡ true = any_get (has_serial b) (section_at q i).sealed p (0, Device) here.0 here.1 in
    let section : i ≡ sealed_section q b = sym (position_or_len_is (has_sealed b) q.sections i no_section (omega arith) fails (λ _. has)) in
    let at : position_or_len (has_serial b) (section_at q i).sealed ≡ p = position_or_len_is (has_serial b) (section_at q i).sealed p (0, Device) (omega (arith, here.0)) here.2 (λ _. here.1) in
    (any_get (has_sealed b) q.sections i no_section within has, section, sym at ∙ ap (λ i. position_or_len (has_serial b) (section_at q i).sealed) section)

pub section-more : (q : QueueState) (b i : ℕ) → ((k : ℕ) → k < i → has_sealed b (section_at q k) ≡ false) → None ≡ position (has_serial b) (section_at q i).sealed → (k : ℕ) → k < i + 1 → has_sealed b (section_at q k) ≡ false
section-more q b i fails none k lt = elim (cases_lt k i) [
  | inl less ↦ fails k less
  | inr ge ↦ (let same : k ≡ i = omega arith in subst (λ j. has_sealed b (section_at q j) ≡ false) (sym same) (position-none (has_serial b) (section_at q i).sealed none))
]

pub stands-nowhere : (q : QueueState) (b i : ℕ) → ((k : ℕ) → k < i → has_sealed b (section_at q k) ≡ false) → length q.sections ≤ i → is_sealed q b ≡ false
stands-nowhere q b i fails all = none-any (has_sealed b) q.sections i no_section fails all

pub cleared-parts : (q : QueueState) (b : ℕ) → IsLoose q → is_emptied q b ≡ true → (list_any (has_sealed b) q.sections ≡ true) × IsFree q b
cleared-parts q b loose h =
    let p = and_parts (is_sealed_virtual q b) (nat_eq (length (rows_placed q b)) 0) h in
    (sealed-virtual-there q b p.0, free-virtual q b loose p.0 (eqb-true _ _ p.1))

pub cleared-then : (q : QueueState) (b : ℕ) → is_emptied q b ≡ true → without_block q b ≡ without_if_emptied q b
cleared-then q b h = rw h refl

pub cleared-else : (q : QueueState) (b : ℕ) → is_emptied q b ≡ false → q ≡ without_if_emptied q b
cleared-else q b h = rw h refl

-- ---- the section of a row's place
pub place-there : (q : QueueState) (o : ℕ) (r : Place) → IsLoose q → row_at q o ≡ Some r → (K : Kind) × (count K q r.place ≡ 1)
place-there q o r loose is =
    elim (of_row q o r (IsPlaced q) loose.places is) [
      | inl e ↦ (Device, ap (count Device q) e ∙ of_row q o r (IsHomed q) loose.homes is)
      | inr c ↦ (Virtual, c)
    ]

pub section-found : (q : QueueState) (o : ℕ) (r : Place) → IsLoose q → row_at q o ≡ Some r → section_of q r.place ≡ Some (section_with q r.place)
section-found q o r loose is =
    let there = place-there q o r loose is in
    section_of-there there.0 q r.place there.1 ∙ ap Some (sym (section_with-is there.0 q r.place there.1))

pub section-within : (q : QueueState) (o i : ℕ) (r : Place) → IsLoose q → row_at q o ≡ Some r → section_of q r.place ≡ Some i → i < length q.sections
section-within q o i r loose row is =
    let there = place-there q o r loose row in
    let same : section_with q r.place ≡ i = ap (λ m. unwrap_or m 0) is in
    subst (λ i. i < length q.sections) same (section-there there.0 q r.place there.1)

-- where the size fits, there is room
pub room-is : (q : QueueState) (K : Kind) (i z : ℕ) → HasRoom K q i z → is_room q K i z ≡ true
room-is q K i z fits = le-leb (bytes_held K q (active_of K (section_at q i)) + z) q.shape.block fits

hit_level-is : (p : Policy) (q : QueueState) (o : ℕ) → hit_level p q o ≡ hit_level_from p q (section_with q (row_or q o).place)
hit_level-is Off q o = refl
hit_level-is Lru q o = refl
hit_level-is (Slru levels) q o = refl

-- the target of a hit, by the section that has the object's place
pub hit_target-is : (p : Policy) (q : QueueState) (o i j : ℕ) (r : Place) → row_at q o ≡ Some r → section_of q r.place ≡ Some i → j ≡ hit_target_from p q i → j ≡ hit_target p q o
hit_target-is p q o i j r row has is =
    let same : section_with q (row_or q o).place ≡ i = ap (λ m. section_with q (unwrap_or m no_place).place) row ∙ ap (λ m. unwrap_or m 0) has in
    is ∙ (ap (hit_target_from p q) (sym same) ∙ ap (target p q) (sym (hit_level-is p q o)))

-- ---- an object is put again
abbrev reinserted_to : Work → ℕ → Place → ℕ → Work
reinserted_to w o r i =
    record {
      queue = without_if_emptied (after_rehome (with_room w.queue Device i r.size) o i) r.place;
      tally = record w.tally { reinserted = w.tally.reinserted + 1; writes = w.tally.writes + one_if (not (is_room w.queue Device i r.size)) };
    }

pub reinsert-made : (w : Work) (o i : ℕ) (r : Place) (full : Bool) (q1 q2 q3 : QueueState) → row_at w.queue o ≡ Some r → section_of w.queue r.place ≡ Some i
    → q1 ≡ with_room w.queue Device i r.size → q2 ≡ after_rehome q1 o i → q3 ≡ without_if_emptied q2 r.place → full ≡ not (is_room w.queue Device i r.size)
    → work_of q3 (record w.tally { reinserted = w.tally.reinserted + 1; writes = w.tally.writes + one_if full }) ≡ reinsert w o
reinsert-made w o i r full q1 q2 q3 row section room put out is =
    let same : row_or w.queue o ≡ r = ap (λ m. unwrap_or m no_place) row in
    let there : section_with w.queue r.place ≡ i = ap (λ m. unwrap_or m 0) section in
    let left : q3 ≡ without_if_emptied (after_rehome (with_room w.queue Device i r.size) o i) r.place = out ∙ ap (λ q. without_if_emptied q r.place) (put ∙ ap (λ q. after_rehome q o i) room) in
    rw (left, is) (sym (ap (λ s. reinserted_to w o s (section_with w.queue s.place)) same ∙ ap (reinserted_to w o r) there))

-- a queue that stores an object holds bytes
pub total-some : (q : QueueState) (o : ℕ) (r : Place) → IsLoose q → row_at q o ≡ Some r → 1 ≤ total q
total-some q o r loose is =
    let size : unwrap_or (option_map (λ (r : Place). r.size) (row_at q o)) 0 ≡ r.size = ap (λ m. unwrap_or (option_map (λ (r : Place). r.size) m) 0) is in
    omega (arith, sum_by-remove_entry (λ (r : Place). r.size) (is_at (nat_cmp o)) q.rows, size, (of_row q o r (IsSized q) loose.sizes is).0)

-- an object that has a row is stored
pub resident : (q : QueueState) (o : ℕ) (r : Place) → row_at q o ≡ Some r → IsSome (row_at q o)
resident q o r is = rw is refl
