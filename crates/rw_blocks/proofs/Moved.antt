-- A split, a merge and a block that is taken out leave a loose queue.
use Rattle.std.proofs.Common.{◌≡◌, ℕ, ◌+◌, ◌≤◌, ◌<◌, List, [], ◌++◌, refl, sym, ap, subst, arith, Bool, true, false, cond, length, set, get_or, nat_eq, ◌⊎◌, inl, inr, take, drop, length-set}
use Rattle.std.specs.Prelude.{sum_by, All, ◌&&◌, insert, remove}
use Rattle.std.specs.Map.{values_of}
use Rattle.std.proofs.lemmas.List.Edits.{length-insert, length-remove, get_or-remove_below}
use Rattle.std.proofs.lemmas.List.Sums.{sum_by-cons, sum_by-append, sum_by-set, sum_by-insert, sum_by-remove, sum_by-take-drop, get_or-le-sum_by}
use Rattle.std.proofs.lemmas.Bool.{eq-eqb, eqb-true, and_right, cases_eq}
use Rattle.rw_blocks.specs.declared.Kind.{Kind}
use Rattle.rw_blocks.specs.declared.Kind.TheVariants.{Device, Virtual}
use Rattle.rw_blocks.specs.declared.Place.{Place}
use Rattle.rw_blocks.specs.declared.Vanished.{Vanished}
use Rattle.rw_blocks.specs.Sections.{SectionState, no_section, is_kind}
use Rattle.rw_blocks.specs.State.{QueueState, section_at}
use Rattle.rw_blocks.specs.Sums.{bytes_held}
use Rattle.rw_blocks.specs.Loose.{IsLoose, IsFree, count, count_in, IsHomed, IsPlaced}
use Rattle.rw_blocks.specs.Changes.{section_joining, block_unless}
use Rattle.rw_blocks.specs.Primitives.{after_take_out, after_split, after_merge, empty_actives}
use Rattle.rw_blocks.proofs.Kept.{bytes_held-is, held_by, weight}
use Rattle.rw_blocks.proofs.Grown.{one, one-other, one-both, at_block, count_in-cons, bytes_held-blocks, IsLoose-grown}

-- a block of one kind does not count at the other
pub one-kind : (n b : ℕ) → (one Device n Virtual b ≡ 0) × (one Virtual n Device b ≡ 0)
one-kind n b = (rw (and_right (nat_eq n b) false refl) refl, rw (and_right (nat_eq n b) false refl) refl)

cases : (a b : ℕ) → (a ≡ b) ⊎ (a ≡ b → ⊥)
cases a b = cases_eq a b

pub one-le : (K : Kind) (n : ℕ) (kind : Kind) (b : ℕ) → one K n kind b ≤ 1
one-le K n kind b = elim (nat_eq n b && is_kind kind K) as (λ t. cond t 1 0 ≤ 1) [ true ↦ omega arith | false ↦ omega arith ]

pub count-after_split : (q : QueueState) (i keep : ℕ) (kind : Kind) (b : ℕ) → i < length q.sections
    → count kind (after_split q i keep) b ≡ count kind q b + (one Device q.next kind b + one Virtual (q.next + 1) kind b)
count-after_split q i keep kind b within =
    let s : SectionState = section_at q i in
    let upper : SectionState = record s { sealed = take keep s.sealed } in
    let lower : SectionState = record { active_device = q.next; active_virtual = q.next + 1; sealed = drop keep s.sealed } in
    omega (
      arith,
      sum_by-insert (count_in kind b) (set q.sections i upper) (i + 1) lower,
      sum_by-set (count_in kind b) q.sections i upper no_section within,
      count_in-cons kind b s,
      count_in-cons kind b upper,
      count_in-cons kind b lower,
      sum_by-take-drop (at_block kind b) s.sealed keep,
    )

pub IsLoose-after_split : (q : QueueState) (i keep : ℕ) → IsLoose q → i < length q.sections → length q.sections < q.shape.sections → IsLoose (after_split q i keep)
IsLoose-after_split q i keep loose within few =
    let s : SectionState = section_at q i in
    let upper : SectionState = record s { sealed = take keep s.sealed } in
    let lower : SectionState = record { active_device = q.next; active_virtual = q.next + 1; sealed = drop keep s.sealed } in
    let long : length (set q.sections i upper) ≡ length q.sections = length-set q.sections i upper in
    let longer : length (insert (set q.sections i upper) (i + 1) lower) ≡ length (set q.sections i upper) + 1 = length-insert (set q.sections i upper) (i + 1) lower (omega arith) in
    let c = count-after_split q i keep in
    IsLoose-grown q _ (q.next + 2) loose (omega arith) (omega arith) (omega arith)
    (λ kind b lt. omega (arith, count-after_split q i keep kind b within, one-other Device q.next kind b (λ e. omega arith), one-other Virtual (q.next + 1) kind b (λ e. omega arith)))
    (λ b ge. elim (cases q.next b) [
      | inl e ↦ omega (arith, count-after_split q i keep Device b within, count-after_split q i keep Virtual b within, loose.below b ge, one-both Device q.next b, one-other Virtual (q.next + 1) Device b (λ f. omega arith), one-other Virtual (q.next + 1) Virtual b (λ f. omega arith))
      | inr n ↦ omega (arith, count-after_split q i keep Device b within, count-after_split q i keep Virtual b within, loose.below b ge, one-both Virtual (q.next + 1) b, one-other Device q.next Device b n, one-other Device q.next Virtual b n)
    ])
    (λ b ge. omega (arith, count-after_split q i keep Device b within, count-after_split q i keep Virtual b within, loose.below b (omega arith), one-other Device q.next Device b (λ e. omega arith), one-other Device q.next Virtual b (λ e. omega arith), one-other Virtual (q.next + 1) Device b (λ e. omega arith), one-other Virtual (q.next + 1) Virtual b (λ e. omega arith)))

-- fewer blocks, where each row still has its home and its place
pub IsLoose-shrunk : (q : QueueState) (ss : List SectionState) → IsLoose q → 1 ≤ length ss → length ss ≤ length q.sections
    → ((kind : Kind) (b : ℕ) → count kind (record q { sections = ss }) b ≤ count kind q b)
    → All (IsHomed (record q { sections = ss })) (values_of q.rows)
    → All (IsPlaced (record q { sections = ss })) (values_of q.rows)
    → IsLoose (record q { sections = ss })
IsLoose-shrunk q ss loose some few less homes places =
    record {
      shaped = loose.shaped;
      some_section = some;
      few_sections = omega (arith, loose.few_sections);
      distinct = λ b. omega (arith, less Device b, less Virtual b, loose.distinct b);
      below = λ b ge. omega (arith, less Device b, less Virtual b, loose.below b ge);
      homes = homes;
      places = places;
      sizes = loose.sizes;
      fills = λ kind b once. subst (λ m. m ≤ q.shape.block) (bytes_held-blocks kind q ss q.next b) (loose.fills kind b (back kind b once));
      within = loose.within;
      ordered = loose.ordered;
    }
  where
    back : (kind : Kind) (b : ℕ) → count kind (record q { sections = ss }) b ≡ 1 → count kind q b ≡ 1
    back Device b once = omega (arith, less Device b, loose.distinct b)
    back Virtual b once = omega (arith, less Virtual b, loose.distinct b)

pub count-after_take_out : (q : QueueState) (i p : ℕ) (kind : Kind) (b : ℕ) → i < length q.sections → p < length (section_at q i).sealed
    → count kind (after_take_out q i p) b + at_block kind b (get_or (section_at q i).sealed p (0, Device)) ≡ count kind q b
count-after_take_out q i p kind b within inside =
    let s : SectionState = section_at q i in
    let t : SectionState = record s { sealed = remove s.sealed p } in
    omega (arith, sum_by-set (count_in kind b) q.sections i t no_section within, count_in-cons kind b s, count_in-cons kind b t, sum_by-remove (at_block kind b) s.sealed p (0, Device) inside)

pub IsLoose-after_take_out : (q : QueueState) (i p : ℕ) → IsLoose q → i < length q.sections → p < length (section_at q i).sealed
    → IsFree q (get_or (section_at q i).sealed p (0, Device)).0 → IsLoose (after_take_out q i p)
IsLoose-after_take_out q i p loose within inside free =
    let s : SectionState = section_at q i in
    let t : SectionState = record s { sealed = remove s.sealed p } in
    let e : ℕ × Kind = get_or s.sealed p (0, Device) in
    let long : length (set q.sections i t) ≡ length q.sections = length-set q.sections i t in
    IsLoose-shrunk q (set q.sections i t) loose (omega (arith, loose.some_section)) (omega arith)
    (λ kind b. omega (arith, count-after_take_out q i p kind b within inside))
    (λ k d lt.
    let r : Place = get_or (values_of q.rows) k d in
    let h : count Device q r.home ≡ 1 = loose.homes k d lt in
    omega (arith, count-after_take_out q i p Device r.home within inside, h, one-other e.1 e.0 Device r.home (λ f. (free k d lt).0 (sym f))))
    (λ k d lt.
    let r : Place = get_or (values_of q.rows) k d in
    let h : (r.place ≡ r.home) ⊎ (count Virtual q r.place ≡ 1) = loose.places k d lt in
    elim h [
      | inl f ↦ inl f
      | inr v ↦ inr (omega (arith, count-after_take_out q i p Virtual r.place within inside, v, one-other e.1 e.0 Virtual r.place (λ f. (free k d lt).1 (sym f))))
    ])

-- how often the block is an active one of the lower section that vanishes
abbrev pub left_out : Vanished → SectionState → Kind → ℕ → ℕ
left_out v l kind b = cond v.device (one Device l.active_device kind b) 0 + cond v.virtual_block (one Virtual l.active_virtual kind b) 0

sum-unless : (kind : Kind) (b : ℕ) (t : Bool) (e : ℕ × Kind) → sum_by (at_block kind b) (block_unless t e) + cond t (at_block kind b e) 0 ≡ at_block kind b e
sum-unless kind b true e = omega arith
sum-unless kind b false e = omega (arith, sum_by-cons (at_block kind b) e [])

pub count_in-section_joining : (v : Vanished) (u l : SectionState) (kind : Kind) (b : ℕ) → count_in kind b (section_joining v u l) + left_out v l kind b ≡ count_in kind b u + count_in kind b l
count_in-section_joining v u l kind b =
    let device : List (ℕ × Kind) = block_unless v.device (l.active_device, Device) in
    let virtual_block : List (ℕ × Kind) = block_unless v.virtual_block (l.active_virtual, Virtual) in
    omega (
      arith,
      count_in-cons kind b u,
      count_in-cons kind b l,
      count_in-cons kind b (section_joining v u l),
      sum_by-append (at_block kind b) u.sealed (device ++ (virtual_block ++ l.sealed)),
      sum_by-append (at_block kind b) device (virtual_block ++ l.sealed),
      sum_by-append (at_block kind b) virtual_block l.sealed,
      sum-unless kind b v.device (l.active_device, Device),
      sum-unless kind b v.virtual_block (l.active_virtual, Virtual),
    )

pub count-after_merge : (q : QueueState) (i : ℕ) (kind : Kind) (b : ℕ) → i + 1 < length q.sections
    → count kind (after_merge q i) b + left_out (empty_actives q (i + 1)) (section_at q (i + 1)) kind b ≡ count kind q b
count-after_merge q i kind b within =
    let u : SectionState = section_at q i in
    let l : SectionState = section_at q (i + 1) in
    let v : Vanished = empty_actives q (i + 1) in
    let xs : List SectionState = remove q.sections (i + 1) in
    let long : length xs + 1 ≡ length q.sections = length-remove q.sections (i + 1) within in
    let first : get_or xs i no_section ≡ u = get_or-remove_below q.sections (i + 1) no_section i (omega arith) within in
    let f : count_in kind b (get_or xs i no_section) ≡ count_in kind b u = ap (count_in kind b) first in
    omega (arith, f, sum_by-remove (count_in kind b) q.sections (i + 1) no_section within, sum_by-set (count_in kind b) xs i (section_joining v u l) no_section (omega arith), count_in-section_joining v u l kind b)

-- where nothing is held, no row refers to the block
not-bytes_held : (q : QueueState) (kind : Kind) (b k : ℕ) (d : Place) → IsLoose q → k < length (values_of q.rows) → bytes_held kind q b ≡ 0 → held_by kind (get_or (values_of q.rows) k d) ≡ b → ⊥
not-bytes_held q kind b k d loose lt none e =
    let r : Place = get_or (values_of q.rows) k d in
    let w : weight kind b r ≡ r.size = rw (eq-eqb (held_by kind r) b e) refl in
    let size : 1 ≤ r.size = (loose.sizes k d lt).0 in
    let le : weight kind b r ≤ sum_by (weight kind b) (values_of q.rows) = get_or-le-sum_by (weight kind b) (values_of q.rows) k d lt in
    omega (arith, w, size, le, bytes_held-is kind q b, none)

cond_zero : (t : Bool) (n : ℕ) → (t ≡ true → n ≡ 0) → cond t n 0 ≡ 0
cond_zero true n h = h refl
cond_zero false n h = refl

pub IsLoose-after_merge : (q : QueueState) (i : ℕ) → IsLoose q → i + 1 < length q.sections → IsLoose (after_merge q i)
IsLoose-after_merge q i loose within =
    let u : SectionState = section_at q i in
    let l : SectionState = section_at q (i + 1) in
    let v : Vanished = empty_actives q (i + 1) in
    let xs : List SectionState = remove q.sections (i + 1) in
    let long : length xs + 1 ≡ length q.sections = length-remove q.sections (i + 1) within in
    let same : length (set xs i (section_joining v u l)) ≡ length xs = length-set xs i (section_joining v u l) in
    IsLoose-shrunk q (set xs i (section_joining v u l)) loose (omega arith) (omega arith)
    (λ kind b. omega (arith, count-after_merge q i kind b within))
    (λ k d lt.
    let r : Place = get_or (values_of q.rows) k d in
    let h : count Device q r.home ≡ 1 = loose.homes k d lt in
    let a : cond v.device (one Device l.active_device Device r.home) 0 ≡ 0 =
    cond_zero v.device _ (λ t. one-other Device l.active_device Device r.home (λ e. not-bytes_held q Device l.active_device k d loose lt (eqb-true _ _ t) (sym e))) in
    let b : cond v.virtual_block (one Virtual l.active_virtual Device r.home) 0 ≡ 0 = cond_zero v.virtual_block _ (λ t. (one-kind l.active_virtual r.home).1) in
    omega (arith, count-after_merge q i Device r.home within, h, a, b))
    (λ k d lt.
    let r : Place = get_or (values_of q.rows) k d in
    let h : (r.place ≡ r.home) ⊎ (count Virtual q r.place ≡ 1) = loose.places k d lt in
    elim h [
      | inl f ↦ inl f
      | inr w ↦
          let a : cond v.device (one Device l.active_device Virtual r.place) 0 ≡ 0 = cond_zero v.device _ (λ t. (one-kind l.active_device r.place).0) in
          let b : cond v.virtual_block (one Virtual l.active_virtual Virtual r.place) 0 ≡ 0 =
          cond_zero v.virtual_block _ (λ t. one-other Virtual l.active_virtual Virtual r.place (λ e. not-bytes_held q Virtual l.active_virtual k d loose lt (eqb-true _ _ t) (sym e))) in
          inr (omega (arith, count-after_merge q i Virtual r.place within, w, a, b))
    ])
