-- The primitives on blocks leave a loose queue.
use Rattle.std.proofs.Common.{◌≡◌, ℕ, ◌+◌, ◌≤◌, ◌<◌, List, ◌∷◌, refl, sym, ap, subst, ◌∙◌, arith, Bool, true, false, cond, length, set, get_or, nat_eq, ◌⊎◌, inl, inr, length-set}
use Rattle.std.specs.Prelude.{sum_by, All, ◌&&◌}
use Rattle.std.specs.Map.{values_of}
use Rattle.std.proofs.lemmas.List.Sums.{sum_by-cons, sum_by-set, sum_by-le}
use Rattle.std.proofs.lemmas.Bool.{ne_eqb, cases_lt}
use Rattle.rw_blocks.specs.declared.Kind.{Kind}
use Rattle.rw_blocks.specs.declared.Kind.TheVariants.{Device, Virtual}
use Rattle.rw_blocks.specs.declared.Place.{Place}
use Rattle.rw_blocks.specs.Sections.{SectionState, no_section, is_kind}
use Rattle.rw_blocks.specs.State.{QueueState, section_at}
use Rattle.rw_blocks.specs.Sums.{bytes_held}
use Rattle.rw_blocks.specs.Loose.{IsLoose, count, count_in}
use Rattle.rw_blocks.specs.Changes.{section_sealing}
use Rattle.rw_blocks.specs.Primitives.{after_seal}
use Rattle.rw_blocks.proofs.Kept.{bytes_held-is, weight}

-- whether a block of the kind K with the serial n counts at kind and b
abbrev pub one : Kind → ℕ → Kind → ℕ → ℕ
one K n kind b = cond (nat_eq n b && is_kind kind K) 1 0

pub one-other : (K : Kind) (n : ℕ) (kind : Kind) (b : ℕ) → (n ≡ b → ⊥) → one K n kind b ≡ 0
one-other K n kind b ne = rw (ne_eqb n b ne) refl

under : (t : Bool) (K : Kind) → cond (t && is_kind Device K) 1 0 + cond (t && is_kind Virtual K) 1 0 ≤ 1
under true Device = omega arith
under true Virtual = omega arith
under false K = omega arith

pub one-both : (K : Kind) (n b : ℕ) → one K n Device b + one K n Virtual b ≤ 1
one-both K n b = under (nat_eq n b) K

abbrev pub at_block : Kind → ℕ → ℕ × Kind → ℕ
at_block kind b e = cond (nat_eq e.0 b && is_kind kind e.1) 1 0

pub count_in-cons : (kind : Kind) (b : ℕ) (s : SectionState) → count_in kind b s ≡ one Device s.active_device kind b + one Virtual s.active_virtual kind b + sum_by (at_block kind b) s.sealed
count_in-cons kind b s =
    let e = sum_by-cons (at_block kind b) (s.active_device, Device) ((s.active_virtual, Virtual) ∷ s.sealed) in
    let f = sum_by-cons (at_block kind b) (s.active_virtual, Virtual) s.sealed in
    omega (arith, e, f)

pub count_in-section_sealing : (K : Kind) (n : ℕ) (s : SectionState) (kind : Kind) (b : ℕ) → count_in kind b (section_sealing K n s) ≡ count_in kind b s + one K n kind b
count_in-section_sealing Device n s kind b =
    let t : SectionState = section_sealing Device n s in
    omega (arith, count_in-cons kind b s, count_in-cons kind b t, sum_by-cons (at_block kind b) (s.active_device, Device) s.sealed)
count_in-section_sealing Virtual n s kind b =
    let t : SectionState = section_sealing Virtual n s in
    omega (arith, count_in-cons kind b s, count_in-cons kind b t, sum_by-cons (at_block kind b) (s.active_virtual, Virtual) s.sealed)

pub count-after_seal : (q : QueueState) (i : ℕ) (K : Kind) (kind : Kind) (b : ℕ) → i < length q.sections → count kind (after_seal q i K) b ≡ count kind q b + one K q.next kind b
count-after_seal q i K kind b within =
    omega (arith, sum_by-set (count_in kind b) q.sections i (section_sealing K q.next (section_at q i)) no_section within, count_in-section_sealing K q.next (section_at q i) kind b)

-- a serial that is no block holds nothing
all_zero : (f : Place → ℕ) (rs : List Place) → All (λ r. f r ≤ 0) rs → sum_by f rs ≡ 0
all_zero f rs all = omega (arith, sum_by-le f 0 rs all)

pub bytes_held-nowhere : (q : QueueState) (kind : Kind) (b : ℕ) → IsLoose q → count Device q b + count Virtual q b ≡ 0 → bytes_held kind q b ≡ 0
bytes_held-nowhere q Device b loose none =
    bytes_held-is Device q b
    ∙ all_zero (weight Device b) (values_of q.rows) (λ k d lt.
    let r : Place = get_or (values_of q.rows) k d in
    let h : count Device q r.home ≡ 1 = loose.homes k d lt in
    let other : nat_eq r.home b ≡ false = ne_eqb r.home b (λ e. let g : count Device q r.home ≡ count Device q b = ap (count Device q) e in omega (arith, none, h, g)) in
    rw other (omega arith))
bytes_held-nowhere q Virtual b loose none =
    bytes_held-is Virtual q b
    ∙ all_zero (weight Virtual b) (values_of q.rows) (λ k d lt.
    let r : Place = get_or (values_of q.rows) k d in
    let h : count Device q r.home ≡ 1 = loose.homes k d lt in
    let p : (r.place ≡ r.home) ⊎ (count Virtual q r.place ≡ 1) = loose.places k d lt in
    let other : nat_eq r.place b ≡ false =
    ne_eqb r.place b (λ e. elim p [
      | inl same ↦ (let g : count Device q r.home ≡ count Device q b = ap (count Device q) (sym same ∙ e) in absurd (omega (arith, none, h, g)))
      | inr v ↦ (let g : count Virtual q r.place ≡ count Virtual q b = ap (count Virtual q) e in absurd (omega (arith, none, v, g)))
    ]) in
    rw other (omega arith))

-- what is held is a matter of the rows alone
pub bytes_held-blocks : (kind : Kind) (q : QueueState) (ss : List SectionState) (n b : ℕ) → bytes_held kind q b ≡ bytes_held kind (record q { sections = ss; next = n }) b
bytes_held-blocks Device q ss n b = refl
bytes_held-blocks Virtual q ss n b = refl

-- new sections over the same rows, whose old blocks are those of before
pub IsLoose-grown : (q : QueueState) (ss : List SectionState) (n : ℕ) → IsLoose q → q.next ≤ n → 1 ≤ length ss → length ss ≤ q.shape.sections
    → ((kind : Kind) (b : ℕ) → b < q.next → count kind (record q { sections = ss; next = n }) b ≡ count kind q b)
    → ((b : ℕ) → q.next ≤ b → count Device (record q { sections = ss; next = n }) b + count Virtual (record q { sections = ss; next = n }) b ≤ 1)
    → ((b : ℕ) → n ≤ b → count Device (record q { sections = ss; next = n }) b + count Virtual (record q { sections = ss; next = n }) b ≡ 0)
    → IsLoose (record q { sections = ss; next = n })
IsLoose-grown q ss n loose more some few same fresh beyond =
    let new : QueueState = record q { sections = ss; next = n } in
    record {
      shaped = loose.shaped;
      some_section = some;
      few_sections = few;
      distinct = λ b. elim (cases_lt b q.next) [
        | inl lt ↦ omega (arith, same Device b lt, same Virtual b lt, loose.distinct b)
        | inr ge ↦ fresh b ge
      ];
      below = beyond;
      homes = λ k d lt.
          let r : Place = get_or (values_of q.rows) k d in
          let h : count Device q r.home ≡ 1 = loose.homes k d lt in
          elim (cases_lt r.home q.next) [
            | inl lt' ↦ same Device r.home lt' ∙ h
            | inr ge ↦ absurd (omega (arith, loose.below r.home ge, h))
          ];
      places = λ k d lt.
          let r : Place = get_or (values_of q.rows) k d in
          let p : (r.place ≡ r.home) ⊎ (count Virtual q r.place ≡ 1) = loose.places k d lt in
          elim p [
            | inl e ↦ inl e
            | inr v ↦ elim (cases_lt r.place q.next) [
              | inl lt' ↦ inr (same Virtual r.place lt' ∙ v)
              | inr ge ↦ absurd (omega (arith, loose.below r.place ge, v))
            ]
          ];
      sizes = loose.sizes;
      fills = λ kind b once. subst (λ m. m ≤ q.shape.block) (bytes_held-blocks kind q ss n b) (elim (cases_lt b q.next) [
        | inl lt ↦ loose.fills kind b (sym (same kind b lt) ∙ once)
        | inr ge ↦ (let z : bytes_held kind q b ≡ 0 = bytes_held-nowhere q kind b loose (loose.below b ge) in omega arith)
      ]);
      within = loose.within;
      ordered = loose.ordered;
    }

pub IsLoose-after_seal : (q : QueueState) (i : ℕ) (K : Kind) → IsLoose q → i < length q.sections → IsLoose (after_seal q i K)
IsLoose-after_seal q i K loose within =
    let ss : List SectionState = set q.sections i (section_sealing K q.next (section_at q i)) in
    let long : length ss ≡ length q.sections = length-set q.sections i (section_sealing K q.next (section_at q i)) in
    IsLoose-grown q ss (q.next + 1) loose (omega arith) (omega (arith, long, loose.some_section)) (omega (arith, long, loose.few_sections))
    (λ kind b lt. omega (arith, count-after_seal q i K kind b within, one-other K q.next kind b (λ e. omega arith)))
    (λ b ge. omega (arith, count-after_seal q i K Device b within, count-after_seal q i K Virtual b within, one-both K q.next b, loose.below b ge))
    (λ b ge. omega (arith, count-after_seal q i K Device b within, count-after_seal q i K Virtual b within, one-other K q.next Device b (λ e. omega arith), one-other K q.next Virtual b (λ e. omega arith), loose.below b (omega arith)))
