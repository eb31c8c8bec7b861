-- What a loose queue says of sections that are parted and joined, and of rows whose places they hold.
use Rattle.std.proofs.Common.{◌≡◌, ℕ, zero, suc, ◌+◌, ◌-◌, ◌≤◌, ◌<◌, List, [], ◌∷◌, ◌++◌, refl, sym, ap, subst, ◌∙◌, arith, Bool, true, false, cond, nat_eq, inl, inr, length, set, get_or, take, drop, length-set}
use Rattle.std.specs.Prelude.{sum_by, insert, remove, ◌||◌, ◌&&◌, nat_lt, All, slice_get, Some}
use Rattle.std.specs.List.{list_any}
use Rattle.std.specs.Map.{values_of}
use Rattle.std.proofs.lemmas.Bool.{eq-eqb, ne_eqb, eqb-true, lt-ltb, le-ltb, ltb-true, cases_lt, cases_eq, or_parts}
use Rattle.std.proofs.lemmas.Bool.Decides.{nat_tests}
use Rattle.std.proofs.Common.{get_or-set_same, get_or-set_other}
use Rattle.std.proofs.lemmas.List.{drop_at, length-take-le}
use Rattle.std.proofs.lemmas.List.Edits.{length-insert, length-remove, get_or-insert_below, get_or-insert_at, get_or-remove_below}
use Rattle.std.proofs.lemmas.List.Sums.{sum_by-cons, get_or-le-sum_by, sum_by-set, sum_by-insert, sum_by-remove, sum_by-take-drop, sum_by-drop_more}
use Rattle.rw_blocks.specs.declared.Kind.{Kind}
use Rattle.rw_blocks.specs.declared.Kind.TheVariants.{Device, Virtual}
use Rattle.rw_blocks.specs.declared.Place.{Place}
use Rattle.rw_blocks.specs.declared.Vanished.{Vanished}
use Rattle.rw_blocks.specs.declared.Seam.{Seam}
use Rattle.rw_blocks.specs.Sections.{SectionState, no_section, blocks_of, section_in, has_block, has_serial}
use Rattle.rw_blocks.specs.State.{QueueState}
use Rattle.rw_blocks.specs.Loose.{IsLoose, count, count_in}
use Rattle.rw_blocks.specs.Changes.{section_joining, block_unless, upper_of, joined_at, lower_of, parted_at, sections_changing, section_gaining}
use Rattle.rw_blocks.specs.Undo.{IsJoined}
use Rattle.rw_blocks.specs.Index.{bytes_of, place_of}
use Rattle.rw_blocks.specs.Tags.{IsAbsent, Parts, ComesFrom, Joins, is_vanishing}
use Rattle.rw_blocks.specs.Weights.{bytes_where, weight_in, with_sections, IsWeighed}
use Rattle.rw_blocks.proofs.Serials.{serials, serials-cons, kinds, either_kind}
use Rattle.std.proofs.lemmas.Option.{slice_get-get_or}
use Rattle.rw_blocks.proofs.Moved.{left_out, count-after_take_out}
use Rattle.rw_blocks.proofs.Grown.{at_block, count_in-cons}
use Rattle.rw_blocks.specs.Primitives.{after_take_out}
use Rattle.rw_blocks.proofs.Entries.{by_test}
use Rattle.rw_blocks.proofs.Tagged.{insert_old, remove_old, before_insert, after_insert, low, high}
use Rattle.rw_blocks.proofs.Weighed.{bytes_where-same, bytes_where-two}
use Rattle.rw_blocks.proofs.Present.{any-count, times, has-times, absent-none, all-places, times-joining, gone-times, Joins-once, Parts-once}

-- ---- rows
-- a serial that no block has is no row's place
pub unused : (q : QueueState) (x : ℕ) → IsLoose q → count Device q x + count Virtual q x ≡ 0 → All (λ r. nat_eq x r.place ≡ false) (values_of q.rows)
unused q x loose none k d lt =
    let r : Place = get_or (values_of q.rows) k d in
    let there : 1 ≤ count Device q r.place + count Virtual q r.place = all-places q loose k d lt in
    ne_eqb x r.place (λ e.
    let dev : count Device q x ≡ count Device q r.place = ap (count Device q) e in
    let vir : count Virtual q x ≡ count Virtual q r.place = ap (count Virtual q) e in
    omega (arith, there, none, dev, vir))

-- ---- the sections of a queue that is parted or joined
parted-count : (q : QueueState) (i : ℕ) (seam : Seam) (next : ℕ) (kind : Kind) (b : ℕ) → i < length q.sections
    → count kind (with_sections q (parted_at q.sections i seam) next) b + count_in kind b (section_in q.sections i)
    ≡ count kind q b + count_in kind b (upper_of seam.upper_sealed (section_in q.sections i)) + count_in kind b (lower_of seam (section_in q.sections i))
parted-count q i seam next kind b lt =
    let s : SectionState = section_in q.sections i in
    let u : SectionState = upper_of seam.upper_sealed s in
    omega (
      arith,
      sum_by-insert (count_in kind b) (set q.sections i u) (i + 1) (lower_of seam s),
      sum_by-set (count_in kind b) q.sections i u no_section lt,
    )

joined-count : (q : QueueState) (i : ℕ) (v : Vanished) (next : ℕ) (kind : Kind) (b : ℕ) → i + 1 < length q.sections
    → count kind (with_sections q (joined_at q.sections i v) next) b + count_in kind b (section_in q.sections i) + count_in kind b (section_in q.sections (i + 1))
    ≡ count kind q b + count_in kind b (section_joining v (section_in q.sections i) (section_in q.sections (i + 1)))
joined-count q i v next kind b lt =
    let u : SectionState = section_in q.sections i in
    let l : SectionState = section_in q.sections (i + 1) in
    let xs : List SectionState = remove q.sections (i + 1) in
    let less : length xs + 1 ≡ length q.sections = length-remove q.sections (i + 1) lt in
    let first : get_or xs i no_section ≡ u = get_or-remove_below q.sections (i + 1) no_section i (omega arith) lt in
    let f : count_in kind b (get_or xs i no_section) ≡ count_in kind b u = ap (count_in kind b) first in
    omega (
      arith,
      f,
      sum_by-remove (count_in kind b) q.sections (i + 1) no_section lt,
      sum_by-set (count_in kind b) xs i (section_joining v u l) no_section (omega arith),
    )

-- in a section, a block is there at most as often as in the queue
in_queue : (q : QueueState) (i : ℕ) (kind : Kind) (b : ℕ) → i < length q.sections → count_in kind b (section_in q.sections i) ≤ count kind q b
in_queue q i kind b lt = get_or-le-sum_by (count_in kind b) q.sections i no_section lt

pub once-in : (q : QueueState) (i b : ℕ) → IsLoose q → i < length q.sections → times b (section_in q.sections i) ≤ 1
once-in q i b loose lt = omega (arith, in_queue q i Device b lt, in_queue q i Virtual b lt, loose.distinct b)

-- two neighbours share no block
pub once-beside : (q : QueueState) (i b : ℕ) → IsLoose q → i + 1 < length q.sections → times b (section_in q.sections i) + times b (section_in q.sections (i + 1)) ≤ 1
once-beside q i b loose lt = omega (arith, two Device, two Virtual, loose.distinct b)
  where
    two : (kind : Kind) → count_in kind b (section_in q.sections i) + count_in kind b (section_in q.sections (i + 1)) ≤ count kind q b
    two kind =
        let xs : List SectionState = remove q.sections (i + 1) in
        let less : length xs + 1 ≡ length q.sections = length-remove q.sections (i + 1) lt in
        let first : get_or xs i no_section ≡ section_in q.sections i = get_or-remove_below q.sections (i + 1) no_section i (omega arith) lt in
        let f : count_in kind b (get_or xs i no_section) ≡ count_in kind b (section_in q.sections i) = ap (count_in kind b) first in
        omega (arith, f, sum_by-remove (count_in kind b) q.sections (i + 1) no_section lt, get_or-le-sum_by (count_in kind b) xs i no_section (omega arith))

either : (j a b : ℕ) → j ≡ a + b → nat_lt 0 j ≡ (nat_lt 0 a || nat_lt 0 b)
either j a b e = grind (arith, nat_tests)

never : (a b : ℕ) → a + b ≤ 1 → (nat_lt 0 a && nat_lt 0 b) ≡ false
never a b e = grind (arith, nat_tests)

module _ (q : QueueState) (i : ℕ) (v : Vanished) (next : ℕ) (loose : IsLoose q) (lt : i + 1 < length q.sections) (after : IsLoose (with_sections q (joined_at q.sections i v) next)) where
  abbrev upper : SectionState
  upper = section_in q.sections i

  abbrev lower : SectionState
  lower = section_in q.sections (i + 1)

  abbrev both : SectionState
  both = section_joining v upper lower

  pub joins-at : Joins upper lower (is_vanishing v lower) both
  joins-at = Joins-once v upper lower (λ b. once-beside q i b loose lt)

  -- no row's place vanishes
  stays : (p : ℕ) → 1 ≤ count Device (with_sections q (joined_at q.sections i v) next) p + count Virtual (with_sections q (joined_at q.sections i v) next) p
      → left_out v lower Device p + left_out v lower Virtual p ≡ 0
  stays p there =
      omega (
        arith,
        there,
        loose.distinct p,
        joined-count q i v next Device p lt,
        joined-count q i v next Virtual p lt,
        times-joining v upper lower p,
      )

  pub weight-joined : weight_in q.rows both ≡ weight_in q.rows upper + weight_in q.rows lower
  weight-joined =
      bytes_where-two q.rows (λ b. has_block b both) (λ b. has_block b upper) (λ b. has_block b lower)
      (λ k d lt'.
      let p : ℕ = (get_or (values_of q.rows) k d).place in
      let none = stays p (all-places _ after k d lt') in
      rw (has-times p both, has-times p upper, has-times p lower)
      (either (times p both) (times p upper) (times p lower) (let sum = times-joining v upper lower p in omega (arith, sum, none))))
      (λ k d lt'.
      let p : ℕ = (get_or (values_of q.rows) k d).place in
      rw (has-times p upper, has-times p lower) (never (times p upper) (times p lower) (once-beside q i p loose lt)))

module _ (q : QueueState) (i : ℕ) (seam : Seam) (next : ℕ) (loose : IsLoose q) (lt : i < length q.sections) (after : IsLoose (with_sections q (parted_at q.sections i seam) next))
    (inside : seam.upper_sealed ≤ length (section_in q.sections i).sealed)
    (joins : IsJoined seam (section_in q.sections i)) where
  abbrev whole : SectionState
  whole = section_in q.sections i

  abbrev above : SectionState
  above = upper_of seam.upper_sealed whole

  abbrev below : SectionState
  below = lower_of seam whole

  once-parted : (b : ℕ) → times b above + times b below ≤ 1
  once-parted b =
      omega (
        arith,
        after.distinct b,
        parted-count q i seam next Device b lt,
        parted-count q i seam next Virtual b lt,
        in_queue q i Device b lt,
        in_queue q i Virtual b lt,
      )

  pub parts-at : Parts whole above below
  parts-at = subst (λ s. Parts s above below) joins (Parts-once seam.vanished above below once-parted)

  -- how often a block is in the section
  times-whole : (b : ℕ) → times b whole + (left_out seam.vanished below Device b + left_out seam.vanished below Virtual b) ≡ times b above + times b below
  times-whole b =
      subst (λ s. times b s + (left_out seam.vanished below Device b + left_out seam.vanished below Virtual b) ≡ times b above + times b below) joins
      (times-joining seam.vanished above below b)

  counts : (b : ℕ) → (count Device q b + count Virtual q b) + (times b above + times b below) ≤ times b whole + 1
  counts b =
      omega (
        arith,
        after.distinct b,
        parted-count q i seam next Device b lt,
        parted-count q i seam next Virtual b lt,
      )

  pub from-at : ComesFrom below whole q.sections
  from-at b has =
      let some : 0 < times b below = ltb-true 0 (times b below) (sym (has-times b below) ∙ has) in
      elim (cases_lt 0 (times b whole)) [
        | inl here ↦ inl (has-times b whole ∙ lt-ltb 0 (times b whole) here)
        | inr le ↦ inr (absent-none q b (omega (arith, counts b)))
      ]

  -- no row's place is one that vanished
  remains : (p : ℕ) → 1 ≤ count Device q p + count Virtual q p → left_out seam.vanished below Device p + left_out seam.vanished below Virtual p ≡ 0
  remains p there = omega (arith, there, counts p, times-whole p, once-parted p)

  pub weight-parted : weight_in q.rows whole ≡ weight_in q.rows above + weight_in q.rows below
  weight-parted =
      bytes_where-two q.rows (λ b. has_block b whole) (λ b. has_block b above) (λ b. has_block b below)
      (λ k e lt'.
      let p : ℕ = (get_or (values_of q.rows) k e).place in
      let none = remains p (all-places q loose k e lt') in
      let sum = times-whole p in
      rw (has-times p whole, has-times p above, has-times p below)
      (either (times p whole) (times p above) (times p below) (omega (arith, sum, none))))
      (λ k e lt'.
      let p : ℕ = (get_or (values_of q.rows) k e).place in
      rw (has-times p above, has-times p below)
      (never (times p above) (times p below) (once-parted p)))

  -- the lower section holds the rows of the sealed blocks that it takes
  pub weight-lower : bytes_where q.rows (λ b. list_any (has_serial b) (drop seam.upper_sealed whole.sealed)) ≡ weight_in q.rows below
  weight-lower =
      bytes_where-same q.rows (λ b. list_any (has_serial b) (drop seam.upper_sealed whole.sealed)) (λ b. has_block b below)
      (λ k e lt'.
      let p : ℕ = (get_or (values_of q.rows) k e).place in
      let none = remains p (all-places q loose k e lt') in
      let gone : is_vanishing seam.vanished below p ≡ false = gone-times seam.vanished below p ∙ (ap (nat_lt 0) none ∙ le-ltb 0 0 (omega arith)) in
      ap (λ (es : List (ℕ × Kind)). list_any (has_serial p) es) tail ∙ all_blocks seam.vanished.device seam.vanished.virtual_block below.active_device below.active_virtual below.sealed p gone)
    where
      -- what is behind the upper part
      tail : drop seam.upper_sealed whole.sealed ≡ block_unless seam.vanished.device (below.active_device, Device) ++ (block_unless seam.vanished.virtual_block (below.active_virtual, Virtual) ++ below.sealed)
      tail =
          let long : length (take seam.upper_sealed whole.sealed) ≡ seam.upper_sealed = length-take-le seam.upper_sealed whole.sealed inside in
          ap (λ (s : SectionState). drop seam.upper_sealed s.sealed) (sym joins) ∙ drop_at (take seam.upper_sealed whole.sealed) _ seam.upper_sealed long

      all_blocks : (c f : Bool) (x y : ℕ) (es : List (ℕ × Kind)) (p : ℕ) → ((c && nat_eq x p) || (f && nat_eq y p)) ≡ false
          → list_any (has_serial p) (block_unless c (x, Device) ++ (block_unless f (y, Virtual) ++ es)) ≡ (nat_eq x p || (nat_eq y p || list_any (has_serial p) es))
      all_blocks true true x y es p h = let o = or_parts (nat_eq x p) (nat_eq y p) h in rw (o.0, o.1) refl
      all_blocks true false x y es p h = let o = or_parts (nat_eq x p) false h in rw o.0 refl
      all_blocks false true x y es p h = rw h refl
      all_blocks false false x y es p h = refl

-- ---- the bytes beside the sections
pub IsWeighed-part : (rows : List (ℕ × Place)) (ss : List SectionState) (bs : List ℕ) (i x y : ℕ) (u l : SectionState) → IsWeighed rows ss bs → i < length ss
    → y ≡ weight_in rows u → x ≡ weight_in rows l
    → IsWeighed rows (insert (set ss i u) (i + 1) l) (set (insert bs (i + 1) x) i y)
IsWeighed-part rows ss bs i x y u l old lt is-u is-l =
    let long : length bs ≡ length ss = old.long in
    let long-set : length (set ss i u) ≡ length ss = length-set ss i u in
    let more : length (insert (set ss i u) (i + 1) l) ≡ length (set ss i u) + 1 = length-insert (set ss i u) (i + 1) l (omega arith) in
    let more-bytes : length (insert bs (i + 1) x) ≡ length bs + 1 = length-insert bs (i + 1) x (omega arith) in
    let same : length (set (insert bs (i + 1) x) i y) ≡ length (insert bs (i + 1) x) = length-set (insert bs (i + 1) x) i y in
    record {
      long = omega arith;
      each = λ j lt'. elim (cases_eq i j) [
        | inl e ↦
            let P : ℕ → Type 0 = λ k. get_or (set (insert bs (i + 1) x) i y) k 0 ≡ weight_in rows (section_in (insert (set ss i u) (i + 1) l) k) in
            let there : section_in (insert (set ss i u) (i + 1) l) i ≡ u = get_or-insert_below (set ss i u) (i + 1) l no_section i (omega arith) (omega arith) ∙ get_or-set_same ss i u no_section lt in
            subst P e (get_or-set_same (insert bs (i + 1) x) i y 0 (omega arith) ∙ (is-u ∙ ap (weight_in rows) (sym there)))
        | inr a ↦ get_or-set_other (insert bs (i + 1) x) i j y 0 (λ e. a (sym e)) ∙ elim (cases_eq (i + 1) j) [
          | inl e ↦
              let P : ℕ → Type 0 = λ k. get_or (insert bs (i + 1) x) k 0 ≡ weight_in rows (section_in (insert (set ss i u) (i + 1) l) k) in
              subst P e (get_or-insert_at bs (i + 1) x 0 (omega arith) ∙ (is-l ∙ ap (weight_in rows) (sym (get_or-insert_at (set ss i u) (i + 1) l no_section (omega arith)))))
          | inr z ↦
              insert_old bs i j x 0 (omega arith) z
              ∙ (old.each (before_insert i j) (inside j lt' z)
              ∙ ap (weight_in rows) (sym (insert_old (set ss i u) i j l no_section (omega arith) z ∙ get_or-set_other ss i (before_insert i j) u no_section (apart j a z))))
        ]
      ];
    }
  where
    inside : (j : ℕ) → j < length (insert (set ss i u) (i + 1) l) → (i + 1 ≡ j → ⊥) → before_insert i j < length ss
    inside j lt' z =
        let long-set : length (set ss i u) ≡ length ss = length-set ss i u in
        let more : length (insert (set ss i u) (i + 1) l) ≡ length (set ss i u) + 1 = length-insert (set ss i u) (i + 1) l (omega arith) in
        elim (cases_lt i j) [
          | inl above ↦ (let e = high i j (j - 1) j above in omega (arith, e))
          | inr le ↦ (let e = low i j (j - 1) j le in omega (arith, e))
        ]

    apart : (j : ℕ) → (i ≡ j → ⊥) → (i + 1 ≡ j → ⊥) → before_insert i j ≡ i → ⊥
    apart j a z same =
        elim (cases_lt i j) [
          | inl above ↦ z (let e = high i j (j - 1) j above in omega (arith, e, same))
          | inr le ↦ a (let e = low i j (j - 1) j le in omega (arith, e, same))
        ]

pub IsWeighed-join : (rows : List (ℕ × Place)) (ss : List SectionState) (bs : List ℕ) (i y : ℕ) (s : SectionState) → IsWeighed rows ss bs → i + 1 < length ss
    → y ≡ weight_in rows s
    → IsWeighed rows (set (remove ss (i + 1)) i s) (set (remove bs (i + 1)) i y)
IsWeighed-join rows ss bs i y s old lt is =
    let long : length bs ≡ length ss = old.long in
    let xs : List SectionState = remove ss (i + 1) in
    let zs : List ℕ = remove bs (i + 1) in
    let less : length xs + 1 ≡ length ss = length-remove ss (i + 1) lt in
    let less-bytes : length zs + 1 ≡ length bs = length-remove bs (i + 1) (omega arith) in
    let same : length (set xs i s) ≡ length xs = length-set xs i s in
    let same-bytes : length (set zs i y) ≡ length zs = length-set zs i y in
    record {
      long = omega arith;
      each = λ j lt'. elim (cases_eq i j) [
        | inl e ↦
            let P : ℕ → Type 0 = λ k. get_or (set zs i y) k 0 ≡ weight_in rows (section_in (set xs i s) k) in
            subst P e (get_or-set_same zs i y 0 (omega arith) ∙ (is ∙ ap (weight_in rows) (sym (get_or-set_same xs i s no_section (omega arith)))))
        | inr a ↦
            get_or-set_other zs i j y 0 (λ e. a (sym e))
            ∙ (remove_old bs i j 0 (omega arith)
            ∙ (old.each (after_insert i j) (inside j (omega arith))
            ∙ ap (weight_in rows) (sym (get_or-set_other xs i j s no_section (λ e. a (sym e)) ∙ remove_old ss i j no_section lt))))
      ];
    }
  where
    inside : (j : ℕ) → j + 1 < length ss → after_insert i j < length ss
    inside j lt' =
        elim (cases_lt i j) [
          | inl above ↦ (let e = high i j (j + 1) j above in omega (arith, e))
          | inr le ↦ (let e = low i j (j + 1) j le in omega (arith, e))
        ]

-- ---- blocks of a list, each once
bytes_of-block : (rows : List (ℕ × Place)) (b : ℕ) → bytes_where rows (λ p. nat_eq b p) ≡ bytes_of place_of b rows
bytes_of-block rows b = bytes_where-same rows (λ p. nat_eq b p) (λ p. nat_eq p b) (λ k d lt. swapped b (get_or (values_of rows) k d).place)
  where
    swapped : (x y : ℕ) → nat_eq x y ≡ nat_eq y x
    swapped x y = by_test (nat_eq x y) (λ h. h ∙ sym (eq-eqb y x (sym (eqb-true x y h)))) (λ h. h ∙ sym (ne_eqb y x (λ e. let g : nat_eq x y ≡ true = eq-eqb x y (sym e) in let bad : true ≡ false = sym g ∙ h in absurd (cc))))

pub weight-blocks : (rows : List (ℕ × Place)) (es : List (ℕ × Kind)) → ((b : ℕ) → serials b es ≤ 1) → sum_by (λ e. bytes_of place_of e.0 rows) es ≡ bytes_where rows (λ b. list_any (has_serial b) es)
weight-blocks rows [] once = nothing (values_of rows)
  where
    nothing : (rs : List Place) → 0 ≡ sum_by (λ (r : Place). cond false r.size 0) rs
    nothing [] = refl
    nothing (r ∷ rs) = omega (arith, nothing rs, sum_by-cons (λ (x : Place). cond false x.size 0) r rs)
weight-blocks rows (e ∷ es) once =
    let rest = weight-blocks rows es (λ b. omega (arith, once b, serials-cons b e es)) in
    let two : bytes_where rows (λ b. list_any (has_serial b) (e ∷ es)) ≡ bytes_where rows (λ b. nat_eq e.0 b) + bytes_where rows (λ b. list_any (has_serial b) es) =
    bytes_where-two rows (λ b. list_any (has_serial b) (e ∷ es)) (λ b. nat_eq e.0 b) (λ b. list_any (has_serial b) es) (λ k d lt. refl)
    (λ k d lt. apart (get_or (values_of rows) k d).place (once (get_or (values_of rows) k d).place)) in
    omega (arith, sum_by-cons (λ (x : ℕ × Kind). bytes_of place_of x.0 rows) e es, rest, two, bytes_of-block rows e.0)
  where
    apart : (p : ℕ) → serials p (e ∷ es) ≤ 1 → (nat_eq e.0 p && list_any (has_serial p) es) ≡ false
    apart p le =
        by_test (nat_eq e.0 p)
        (λ h.
        let sum : serials p (e ∷ es) ≡ 1 + serials p es = serials-cons p e es ∙ ap (λ (b : Bool). cond {A = ℕ} b 1 0 + serials p es) h in
        let none : list_any (has_serial p) es ≡ false = any-count (has_serial p) es ∙ le-ltb 0 (serials p es) (omega (arith, sum, le)) in
        rw h none)
        (λ h. rw h refl)

-- the sealed blocks of a section, from one on, are there once
pub once-behind : (q : QueueState) (i n b : ℕ) → IsLoose q → i < length q.sections → serials b (drop n (section_in q.sections i).sealed) ≤ 1
once-behind q i n b loose lt =
    let s : SectionState = section_in q.sections i in
    omega (
      arith,
      once-in q i b loose lt,
      kinds b (blocks_of s),
      serials-cons b (s.active_device, Device) ((s.active_virtual, Virtual) ∷ s.sealed),
      serials-cons b (s.active_virtual, Virtual) s.sealed,
      sum_by-take-drop (λ e. cond {A = ℕ} (has_serial b e) 1 0) s.sealed n,
    )

pub next-weight : (rows : List (ℕ × Place)) (es : List (ℕ × Kind)) (i : ℕ) (e : ℕ × Kind) → i < length es → slice_get es i ≡ Some e
    → sum_by (λ x. bytes_of place_of x.0 rows) (drop i es) ≡ bytes_of place_of e.0 rows + sum_by (λ x. bytes_of place_of x.0 rows) (drop (i + 1) es)
next-weight rows es i e lt is =
    let same : Some (get_or es i e) ≡ Some e = sym (slice_get-get_or es i e lt) ∙ is in
    let here : get_or es i e ≡ e = cc in
    sum_by-drop_more (λ x. bytes_of place_of x.0 rows) es i e lt
    ∙ ap (λ (x : ℕ × Kind). bytes_of place_of x.0 rows + sum_by (λ x. bytes_of place_of x.0 rows) (drop (i + 1) es)) here

pub drop-past : {X : Type 0} (n : ℕ) (xs : List X) → length xs ≤ n → drop n xs ≡ []
drop-past zero [] le = refl
drop-past (suc n) [] le = refl
drop-past zero (x ∷ xs) le = absurd (omega arith)
drop-past (suc n) (x ∷ xs) le = drop-past n xs (omega arith)

-- a sealed block that is taken out is no more in its section
pub taken-once : (q : QueueState) (i p : ℕ) → IsLoose q → i < length q.sections → p < length (section_in q.sections i).sealed
    → has_block (get_or (section_in q.sections i).sealed p (0, Device)).0 (record (section_in q.sections i) { sealed = remove (section_in q.sections i).sealed p }) ≡ false
taken-once q i p loose lt inside =
    let s : SectionState = section_in q.sections i in
    let t : SectionState = record s { sealed = remove s.sealed p } in
    let e : ℕ × Kind = get_or s.sealed p (0, Device) in
    let here : at_block Device e.0 e + at_block Virtual e.0 e ≡ 1 = either_kind (nat_eq e.0 e.0) e.1 ∙ ap (λ b. cond {A = ℕ} b 1 0) (eq-eqb e.0 e.0 refl) in
    let absent : IsAbsent e.0 (set q.sections i t) =
    absent-none (after_take_out q i p) e.0 (omega (arith, here, loose.distinct e.0, count-after_take_out q i p Device e.0 lt inside, count-after_take_out q i p Virtual e.0 lt inside)) in
    ap (has_block e.0) (sym (get_or-set_same q.sections i t no_section lt)) ∙ absent i (omega (arith, length-set q.sections i t))

-- a block that is put into a section of a loose queue was in none
pub put-none : (q : QueueState) (i p b : ℕ) (kind : Kind) → IsLoose (record q { sections = sections_changing q.sections i (section_gaining p (b, kind)) }) → i < length q.sections
    → count Device q b + count Virtual q b ≡ 0
put-none q i p b kind after lt =
    let s : SectionState = section_in q.sections i in
    let t : SectionState = record s { sealed = insert s.sealed p (b, kind) } in
    let e : ℕ × Kind = (b, kind) in
    let here : at_block Device b e + at_block Virtual b e ≡ 1 = either_kind (nat_eq b b) kind ∙ ap (λ c. cond {A = ℕ} c 1 0) (eq-eqb b b refl) in
    omega (
      arith,
      here,
      after.distinct b,
      sum_by-set (count_in Device b) q.sections i t no_section lt,
      sum_by-set (count_in Virtual b) q.sections i t no_section lt,
      count_in-cons Device b s,
      count_in-cons Device b t,
      count_in-cons Virtual b s,
      count_in-cons Virtual b t,
      sum_by-insert (at_block Device b) s.sealed p e,
      sum_by-insert (at_block Virtual b) s.sealed p e,
    )
