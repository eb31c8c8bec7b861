-- How the bytes of the sections follow the rows and the sections.
use Rattle.std.proofs.Common.{◌≡◌, ℕ, zero, suc, ◌+◌, ◌≤◌, ◌<◌, List, [], ◌∷◌, refl, sym, ap, subst, ◌∙◌, arith, Bool, true, false, cond, inl, inr, length, set, get_or, length-set, get_or-set_same, get_or-set_other}
use Rattle.std.specs.Prelude.{Some, None, sum_by, ◌||◌, ◌&&◌, All, sum, drop}
use Rattle.std.specs.Ordering.{nat_cmp}
use Rattle.std.specs.Cmp.{nat_cmp_total}
use Rattle.std.specs.List.Sorted.{IsStrictlySortedBy}
use Rattle.std.specs.Map.{lookup, remove_entry, keys_of, values_of}
use Rattle.std.specs.BTreeMap.{insert_entry, is_at}
use Rattle.std.proofs.lemmas.Bool.{cases_eq}
use Rattle.std.proofs.lemmas.List.Sums.{sum_by-cons, sum_by-le-sum_by}
use Rattle.std.proofs.lemmas.List.Elements.{All-tail}
use Rattle.std.proofs.lemmas.Map.Entries.{sum_by-insert_entry, sum_by-remove_entry}
use Rattle.rw_blocks.specs.declared.Place.{Place}
use Rattle.rw_blocks.specs.Sections.{SectionState, no_section, section_in, has_block}
use Rattle.rw_blocks.specs.State.{QueueState}
use Rattle.rw_blocks.specs.Rows.{size_of}
use Rattle.rw_blocks.specs.Sums.{bytes_in, bytes_below}
use Rattle.rw_blocks.specs.Tags.{IsOnlyIn}
use Rattle.rw_blocks.specs.Weights.{bytes_where, weight_in, IsWeighed}
use Rattle.rw_blocks.proofs.Sums.{sum_by-filter}

pub bytes_in-weight : (q : QueueState) (s : SectionState) → bytes_in q s ≡ weight_in q.rows s
bytes_in-weight q s = sum_by-filter (λ r. r.size) (λ r. has_block r.place s) (values_of q.rows)

part_le : (t : Bool) (n : ℕ) → cond t n 0 ≤ n
part_le true n = omega arith
part_le false n = omega arith

pub bytes_where-le : (rows : List (ℕ × Place)) (f : ℕ → Bool) → bytes_where rows f ≤ size_of (values_of rows)
bytes_where-le rows f = sum_by-le-sum_by (λ r. cond (f r.place) r.size 0) (λ r. r.size) (values_of rows) (λ r. part_le (f r.place) r.size)

-- ---- tests that agree on the rows, and a test that is parted in two
same_sum : (f g : Place → ℕ) (rs : List Place) → All (λ r. f r ≡ g r) rs → sum_by f rs ≡ sum_by g rs
same_sum f g [] all = refl
same_sum f g (r ∷ rs) all =
    omega (arith, sum_by-cons f r rs, sum_by-cons g r rs, all 0 r (omega arith), same_sum f g rs (All-tail (λ r. f r ≡ g r) r rs all))

two_sums : (f g h : Place → ℕ) (rs : List Place) → All (λ r. f r ≡ g r + h r) rs → sum_by f rs ≡ sum_by g rs + sum_by h rs
two_sums f g h [] all = refl
two_sums f g h (r ∷ rs) all =
    omega (arith, sum_by-cons f r rs, sum_by-cons g r rs, sum_by-cons h r rs, all 0 r (omega arith), two_sums f g h rs (All-tail (λ r. f r ≡ g r + h r) r rs all))

pub bytes_where-same : (rows : List (ℕ × Place)) (f g : ℕ → Bool) → All (λ r. f r.place ≡ g r.place) (values_of rows) → bytes_where rows f ≡ bytes_where rows g
bytes_where-same rows f g all =
    same_sum (λ r. cond (f r.place) r.size 0) (λ r. cond (g r.place) r.size 0) (values_of rows)
    (λ k d lt. ap (λ c. cond c (get_or (values_of rows) k d).size 0) (all k d lt))

-- what passes f passes one of g and h, and never both
pub bytes_where-two : (rows : List (ℕ × Place)) (f g h : ℕ → Bool) → All (λ r. f r.place ≡ (g r.place || h r.place)) (values_of rows) → All (λ r. (g r.place && h r.place) ≡ false) (values_of rows) → bytes_where rows f ≡ bytes_where rows g + bytes_where rows h
bytes_where-two rows f g h either never =
    two_sums (λ r. cond (f r.place) r.size 0) (λ r. cond (g r.place) r.size 0) (λ r. cond (h r.place) r.size 0) (values_of rows)
    (λ k d lt. one (f (get_or (values_of rows) k d).place) (g (get_or (values_of rows) k d).place) (h (get_or (values_of rows) k d).place) (get_or (values_of rows) k d).size (either k d lt) (never k d lt))
  where
    one : (a b c : Bool) (n : ℕ) → a ≡ (b || c) → (b && c) ≡ false → cond a n 0 ≡ cond b n 0 + cond c n 0
    one a true true n e apart = absurd (cc)
    one a true false n e apart = rw e (omega arith)
    one a false true n e apart = rw e (omega arith)
    one a false false n e apart = rw e refl

-- ---- rows come and go
weight-insert : (rows : List (ℕ × Place)) (f : ℕ → Bool) (o : ℕ) (r : Place) → IsStrictlySortedBy nat_cmp (keys_of rows) → lookup (is_at (nat_cmp o)) rows ≡ None → bytes_where (insert_entry nat_cmp rows o r) f ≡ bytes_where rows f + cond (f r.place) r.size 0
weight-insert rows f o r s none =
    let sum = rw none at (sum_by-insert_entry (λ (x : Place). cond (f x.place) x.size 0) nat_cmp_total rows o r s) in
    omega (arith, sum)

weight-remove : (rows : List (ℕ × Place)) (f : ℕ → Bool) (o : ℕ) (r : Place) → lookup (is_at (nat_cmp o)) rows ≡ Some r → bytes_where (remove_entry (is_at (nat_cmp o)) rows) f + cond (f r.place) r.size 0 ≡ bytes_where rows f
weight-remove rows f o r is = rw is at (sum_by-remove_entry (λ (x : Place). cond (f x.place) x.size 0) (is_at (nat_cmp o)) rows)

pub IsWeighed-insert : (rows : List (ℕ × Place)) (ss : List SectionState) (bs : List ℕ) (o i n : ℕ) (r : Place) → IsWeighed rows ss bs → IsStrictlySortedBy nat_cmp (keys_of rows) → lookup (is_at (nat_cmp o)) rows ≡ None → i < length ss
    → has_block r.place (section_in ss i) ≡ true → IsOnlyIn i r.place ss → n ≡ get_or bs i 0 + r.size
    → IsWeighed (insert_entry nat_cmp rows o r) ss (set bs i n)
IsWeighed-insert rows ss bs o i n r w s none lt here only is =
    record {
      long = length-set bs i n ∙ w.long;
      each = λ j lt'.
          let sum = weight-insert rows (λ b. has_block b (section_in ss j)) o r s none in
          let old : get_or bs j 0 ≡ weight_in rows (section_in ss j) = w.each j lt' in
          let long : length bs ≡ length ss = w.long in
          elim (cases_eq i j) [
            | inl e ↦
                let P : ℕ → Type 0 = λ k. get_or (set bs i n) k 0 ≡ weight_in (insert_entry nat_cmp rows o r) (section_in ss k) in
                let sum-i = rw here at (weight-insert rows (λ b. has_block b (section_in ss i)) o r s none) in
                let old-i : get_or bs i 0 ≡ weight_in rows (section_in ss i) = w.each i lt in
                let same : get_or (set bs i n) i 0 ≡ n = get_or-set_same bs i n 0 (omega arith) in
                subst P e (omega (arith, same, sum-i, old-i, is))
            | inr a ↦
                let other : get_or (set bs i n) j 0 ≡ get_or bs j 0 = get_or-set_other bs i j n 0 (λ e. a (sym e)) in
                let out : has_block r.place (section_in ss j) ≡ false = only j lt' a in
                let sum-j = rw out at sum in
                omega (arith, other, sum-j, old)
          ];
    }

pub IsWeighed-remove : (rows : List (ℕ × Place)) (ss : List SectionState) (bs : List ℕ) (o i n : ℕ) (r : Place) → IsWeighed rows ss bs → lookup (is_at (nat_cmp o)) rows ≡ Some r → i < length ss
    → has_block r.place (section_in ss i) ≡ true → IsOnlyIn i r.place ss → n + r.size ≡ get_or bs i 0
    → IsWeighed (remove_entry (is_at (nat_cmp o)) rows) ss (set bs i n)
IsWeighed-remove rows ss bs o i n r w found lt here only is =
    record {
      long = length-set bs i n ∙ w.long;
      each = λ j lt'.
          let sum = weight-remove rows (λ b. has_block b (section_in ss j)) o r found in
          let old : get_or bs j 0 ≡ weight_in rows (section_in ss j) = w.each j lt' in
          let long : length bs ≡ length ss = w.long in
          elim (cases_eq i j) [
            | inl e ↦
                let P : ℕ → Type 0 = λ k. get_or (set bs i n) k 0 ≡ weight_in (remove_entry (is_at (nat_cmp o)) rows) (section_in ss k) in
                let sum-i = rw here at (weight-remove rows (λ b. has_block b (section_in ss i)) o r found) in
                let old-i : get_or bs i 0 ≡ weight_in rows (section_in ss i) = w.each i lt in
                let same : get_or (set bs i n) i 0 ≡ n = get_or-set_same bs i n 0 (omega arith) in
                subst P e (omega (arith, same, sum-i, old-i, is))
            | inr a ↦
                let other : get_or (set bs i n) j 0 ≡ get_or bs j 0 = get_or-set_other bs i j n 0 (λ e. a (sym e)) in
                let out : has_block r.place (section_in ss j) ≡ false = only j lt' a in
                let sum-j = rw out at sum in
                omega (arith, other, sum-j, old)
          ];
    }

pub row-le-weight : (rows : List (ℕ × Place)) (s : SectionState) (o : ℕ) (r : Place) → lookup (is_at (nat_cmp o)) rows ≡ Some r → has_block r.place s ≡ true → r.size ≤ weight_in rows s
row-le-weight rows s o r found here =
    let sum = rw here at (weight-remove rows (λ b. has_block b s) o r found) in
    omega (arith, sum)

-- ---- sections change
pub IsWeighed-set : (rows : List (ℕ × Place)) (ss : List SectionState) (bs : List ℕ) (i : ℕ) (s : SectionState) → IsWeighed rows ss bs → i < length ss
    → All (λ r. has_block r.place s ≡ has_block r.place (section_in ss i)) (values_of rows)
    → IsWeighed rows (set ss i s) bs
IsWeighed-set rows ss bs i s w lt same =
    let long : length (set ss i s) ≡ length ss = length-set ss i s in
    record {
      long = w.long ∙ sym long;
      each = λ j lt'. elim (cases_eq i j) [
        | inl e ↦
            let P : ℕ → Type 0 = λ k. get_or bs k 0 ≡ weight_in rows (section_in (set ss i s) k) in
            subst P e (w.each i lt ∙ (sym (bytes_where-same rows (λ b. has_block b s) (λ b. has_block b (section_in ss i)) same) ∙ ap (weight_in rows) (sym (get_or-set_same ss i s no_section lt))))
        | inr a ↦ w.each j (omega arith) ∙ ap (weight_in rows) (sym (get_or-set_other ss i j s no_section (λ e. a (sym e))))
      ];
    }

-- ---- sums of the bytes
pub weights_from : (f : SectionState → ℕ) (ss : List SectionState) (bs : List ℕ) (k : ℕ) → length bs ≡ length ss → ((i : ℕ) → i < length ss → get_or bs i 0 ≡ f (get_or ss i no_section)) → sum (drop k bs) ≡ sum_by f (drop k ss)
weights_from f [] [] zero long each = refl
weights_from f [] [] (suc k) long each = refl
weights_from f [] (b ∷ bs) k long each = absurd (omega arith)
weights_from f (s ∷ ss) [] k long each = absurd (omega arith)
weights_from f (s ∷ ss) (b ∷ bs) zero long each =
    omega (arith, sum_by-cons f s ss, sum_by-cons (λ (x : ℕ). x) b bs, each 0 (omega arith), weights_from f ss bs zero (omega arith) (λ i lt. each (suc i) (omega arith)))
weights_from f (s ∷ ss) (b ∷ bs) (suc k) long each = weights_from f ss bs k (omega arith) (λ i lt. each (suc i) (omega arith))

pub below-weights : (q : QueueState) (bs : List ℕ) (i : ℕ) → IsWeighed q.rows q.sections bs → sum (drop (i + 1) bs) ≡ bytes_below q i
below-weights q bs i w = weights_from (bytes_in q) q.sections bs (i + 1) w.long (λ j lt. w.each j lt ∙ sym (bytes_in-weight q (section_in q.sections j)))
