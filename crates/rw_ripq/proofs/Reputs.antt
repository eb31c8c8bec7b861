-- A row of the victim that is put again: what stays, and what it lowers.
use Rattle.std.proofs.Common.{◌≡◌, ℕ, ◌+◌, ◌≤◌, ◌<◌, List, [], ◌∷◌, refl, sym, ap, subst, ◌∙◌, arith, Bool, true, false, cond, length, get_or, nat_eq, inl, inr}
use Rattle.std.specs.Prelude.{Some, sum_by, count_by, unwrap_or, ◌&&◌}
use Rattle.std.specs.List.{list_any, position_or_len}
use Rattle.std.specs.Ordering.{nat_cmp}
use Rattle.std.specs.Map.{values_of, lookup}
use Rattle.std.specs.BTreeMap.{is_at as is_key}
use Rattle.std.proofs.lemmas.Bool.{eq-eqb, eqb-true, and_parts, cases_Bool, lt-ltb}
use Rattle.std.proofs.lemmas.List.Sums.{sum_by-cons, get_or-le-sum_by, length-filter, fails_before_first}
use Rattle.rw_blocks.proofs.Cited.{IsLoose-after_rehome, IsLoose-after_seal, IsLoose-after_take_out, at_block, of_row}
use Rattle.rw_blocks.specs.Loose.{IsFree, IsLoose, IsSized, count, count_in, is_sealed_virtual}
use Rattle.rw_blocks.specs.Primitives.{after_rehome}
use Rattle.rw_blocks.specs.Questions.{section_of}
use Rattle.rw_blocks.specs.Sections.{SectionState, active_of, blocks_of, no_section, has_block, has_serial}
use Rattle.rw_blocks.specs.State.{QueueState, row_at, row_or, section_at}
use Rattle.rw_blocks.specs.Sums.{bytes_held, rows_placed}
use Rattle.rw_blocks.specs.declared.Kind.{Kind}
use Rattle.rw_blocks.specs.declared.Kind.TheVariants.{Device}
use Rattle.rw_blocks.specs.declared.Place.{Place}
use Rattle.rw_ripq.proofs.Cases.{seal_unless, without_block_if}
use Rattle.rw_ripq.proofs.Measures.{displaced-after_rehome, displaced-with_room, position-there, sealed-there, sealed-virtual-there, sealed_blocks-with_room, sealed_blocks-without_block, virtual-counts}
use Rattle.rw_ripq.proofs.Rooms.{fits-with_room, rows-with_room, sections-with_room, shape-with_room}
use Rattle.rw_ripq.specs.Evict.{displaced_rows}
use Rattle.rw_ripq.specs.Put.{is_room, put_again, with_room}
use Rattle.rw_ripq.specs.Sealed.{without_if_emptied, has_sealed, sealed_blocks, sealed_position, sealed_section, section_with}

-- ---- a block that is cleared is free
pub free-virtual : (q : QueueState) (b : ℕ) → IsLoose q → is_sealed_virtual q b ≡ true → length (rows_placed q b) ≡ 0 → IsFree q b
free-virtual q b loose v none k d lt =
    let r : Place = get_or (values_of q.rows) k d in
    let h : count Device q r.home ≡ 1 = loose.homes k d lt in (
      λ e. (let f : count Device q r.home ≡ count Device q b = ap (count Device q) e in absurd (omega (arith, h, f, virtual-counts q b v, loose.distinct b))),
      λ e. (
          let n : ℕ = cond (nat_eq r.place b) 1 0 in
          let f : n ≡ 1 = rw (eq-eqb r.place b e) refl in
          let g : n ≤ count_by (λ x. nat_eq x.place b) (values_of q.rows) = get_or-le-sum_by (λ (x : Place). cond (nat_eq x.place b) 1 0) (values_of q.rows) k d lt in
          absurd (omega (arith, f, g, none, length-filter (λ (x : Place). nat_eq x.place b) (values_of q.rows)))),
    )

pub loose-without_block_if : (t : Bool) (q : QueueState) (b : ℕ) → (t ≡ true → (list_any (has_sealed b) q.sections ≡ true) × IsFree q b) → IsLoose q → IsLoose (without_block_if t q b)
loose-without_block_if true q b h loose =
    let s = sealed-there q b (h refl).0 in
    IsLoose-after_take_out q (sealed_section q b) (sealed_position q b) loose s.0 s.1 (subst (λ n. IsFree q n) (sym s.2) (h refl).1)
loose-without_block_if false q b h loose = loose

pub IsLoose-cleared : (q : QueueState) (b : ℕ) → IsLoose q → IsLoose (without_if_emptied q b)
IsLoose-cleared q b loose =
    loose-without_block_if (is_sealed_virtual q b && nat_eq (length (rows_placed q b)) 0) q b
    (λ e.
    let p = and_parts (is_sealed_virtual q b) (nat_eq (length (rows_placed q b)) 0) e in
    (sealed-virtual-there q b p.0, free-virtual q b loose p.0 (eqb-true _ _ p.1)))
    loose

blocks-without_block_if : (t : Bool) (q : QueueState) (b : ℕ) → (t ≡ true → is_sealed_virtual q b ≡ true) → sealed_blocks (without_block_if t q b) ≤ sealed_blocks q
blocks-without_block_if true q b h = omega (arith, sealed_blocks-without_block q b (sealed-virtual-there q b (h refl)))
blocks-without_block_if false q b h = omega arith

pub sealed_blocks-cleared : (q : QueueState) (b : ℕ) → sealed_blocks (without_if_emptied q b) ≤ sealed_blocks q
sealed_blocks-cleared q b =
    blocks-without_block_if (is_sealed_virtual q b && nat_eq (length (rows_placed q b)) 0) q b
    (λ e. (and_parts (is_sealed_virtual q b) (nat_eq (length (rows_placed q b)) 0) e).0)

pub rows-without_block_if : (t : Bool) (q : QueueState) (b : ℕ) → (without_block_if t q b).rows ≡ q.rows
rows-without_block_if true q b = refl
rows-without_block_if false q b = refl

pub rows-cleared : (q : QueueState) (b : ℕ) → (without_if_emptied q b).rows ≡ q.rows
rows-cleared q b = rows-without_block_if (is_sealed_virtual q b && nat_eq (length (rows_placed q b)) 0) q b

-- ---- the section of a row's place
none-sum : {X : Type 0} (p : X → Bool) (f : X → ℕ) (xs : List X) → ((x : X) → p x ≡ false → f x ≡ 0) → list_any p xs ≡ false → sum_by f xs ≡ 0
none-sum p f [] z h = refl
none-sum p f (x ∷ xs) z h = elim (cases_Bool (p x)) [
  | inl t ↦ absurd (clash (rw t at h))
  | inr g ↦ omega (arith, sum_by-cons f x xs, z x g, none-sum p f xs z (rw g at h))
]
  where
    clash : true ≡ false → ⊥
    clash e = cc

count_in-none : (K : Kind) (b : ℕ) (s : SectionState) → has_block b s ≡ false → count_in K b s ≡ 0
count_in-none K b s h = none-sum (has_serial b) (at_block K b) (blocks_of s) (λ e f. rw f refl) h

has_block-there : (K : Kind) (q : QueueState) (b : ℕ) → count K q b ≡ 1 → list_any (has_block b) q.sections ≡ true
has_block-there K q b one = elim (cases_Bool (list_any (has_block b) q.sections)) [
  | inl t ↦ t
  | inr f ↦ absurd (omega (arith, one, none-sum (has_block b) (count_in K b) q.sections (λ s g. count_in-none K b s g) f))
]

-- a block that is there is found
pub section_of-there : (K : Kind) (q : QueueState) (b : ℕ) → count K q b ≡ 1 → section_of q b ≡ Some (position_or_len (has_block b) q.sections)
section_of-there K q b one =
    rw (lt-ltb _ _ (position-there (has_block b) q.sections no_section (has_block-there K q b one)).0) refl

pub section_with-is : (K : Kind) (q : QueueState) (b : ℕ) → count K q b ≡ 1 → section_with q b ≡ position_or_len (has_block b) q.sections
section_with-is K q b one = ap (λ o. unwrap_or o 0) (section_of-there K q b one)

pub section-there : (K : Kind) (q : QueueState) (b : ℕ) → count K q b ≡ 1 → section_with q b < length q.sections
section-there K q b one =
    omega (arith, section_with-is K q b one, (position-there (has_block b) q.sections no_section (has_block-there K q b one)).0)

pub section-first : (K : Kind) (q : QueueState) (b : ℕ) → count K q b ≡ 1 → (j : ℕ) → j < section_with q b → has_block b (get_or q.sections j no_section) ≡ false
section-first K q b one j lt = fails_before_first (has_block b) q.sections j no_section (omega (arith, section_with-is K q b one))

-- ---- put again
loose-if : (t : Bool) (q : QueueState) (K : Kind) (i : ℕ) → IsLoose q → i < length q.sections → IsLoose (seal_unless t q i K)
loose-if true q K i loose within = loose
loose-if false q K i loose within = IsLoose-after_seal q i K loose within

pub IsLoose-with_room : (q : QueueState) (K : Kind) (i z : ℕ) → IsLoose q → i < length q.sections → IsLoose (with_room q K i z)
IsLoose-with_room q K i z loose within = loose-if (is_room q K i z) q K i loose within

pub row-with_room : (q : QueueState) (K : Kind) (i z o : ℕ) → row_at (with_room q K i z) o ≡ row_at q o
row-with_room q K i z o = ap (λ rs. lookup (is_key (nat_cmp o)) rs) (rows-with_room q K i z)

pub IsLoose-put_again : (q : QueueState) (o i : ℕ) (r : Place) → IsLoose q → i < length q.sections → row_at q o ≡ Some r → IsLoose (put_again q o i)
IsLoose-put_again q o i r loose within is =
    let z : ℕ = (row_or q o).size in
    let size : z ≡ r.size = rw is refl in
    let small : r.size ≤ q.shape.block = (of_row q o r (IsSized q) loose.sizes is).1 in
    let fits : bytes_held Device (with_room q Device i z) (active_of Device (section_at (with_room q Device i z) i)) + z ≤ (with_room q Device i z).shape.block =
    rw shape-with_room (fits-with_room q Device i z loose within (omega arith)) in
    IsLoose-after_rehome (with_room q Device i z) o i r (IsLoose-with_room q Device i z loose within) (omega (arith, sections-with_room q Device i z)) (row-with_room q Device i z o ∙ is) (omega (arith, fits, size))

pub measure-put_again : (q : QueueState) (o i : ℕ) (r : Place) → IsLoose q → i < length q.sections → row_at q o ≡ Some r → (r.place ≡ r.home → ⊥)
    → displaced_rows (put_again q o i) + sealed_blocks (put_again q o i) ≤ displaced_rows q + sealed_blocks q
measure-put_again q o i r loose within is apart =
    let z : ℕ = (row_or q o).size in
    let w : QueueState = with_room q Device i z in
    let d : displaced_rows (after_rehome w o i) + 1 ≡ displaced_rows w = displaced-after_rehome w o i r (IsLoose-with_room q Device i z loose within) (row-with_room q Device i z o ∙ is) apart in
    let s : sealed_blocks w ≤ sealed_blocks q + 1 = sealed_blocks-with_room q Device i z within in
    omega (arith, d, s, displaced-with_room q Device i z)
