-- What one test of an ordering says of another, and of the ordering the other way round.
use Rattle.std.proofs.Common.{◌≡◌, true, false, refl, sym, true≢false}
use Rattle.std.specs.declared.cmp.Ordering.{Ordering}
use Rattle.std.specs.declared.cmp.Ordering.TheVariants.{Less, Equal, Greater}
use Rattle.std.specs.Ordering.{is_gt, is_eq, is_le, is_lt, is_ge, is_ne, ordering_reverse}

pub le_not_gt : (r : Ordering) → is_le r ≡ true → is_gt r ≡ false
le_not_gt Less h = refl
le_not_gt Equal h = refl
le_not_gt Greater h = absurd (true≢false (sym h))

pub not_gt_le : (r : Ordering) → is_gt r ≡ false → is_le r ≡ true
not_gt_le Less h = refl
not_gt_le Equal h = refl
not_gt_le Greater h = absurd (true≢false h)

pub gt_not_le : (r : Ordering) → is_gt r ≡ true → is_le r ≡ false
gt_not_le Less h = absurd (true≢false (sym h))
gt_not_le Equal h = absurd (true≢false (sym h))
gt_not_le Greater h = refl

pub not_le_not_eq : (r : Ordering) → is_le r ≡ false → is_eq r ≡ false
not_le_not_eq Less h = refl
not_le_not_eq Equal h = absurd (true≢false h)
not_le_not_eq Greater h = refl

pub ge_not_lt : (r : Ordering) → is_ge r ≡ true → is_lt r ≡ false
ge_not_lt Less h = absurd (true≢false (sym h))
ge_not_lt Equal h = refl
ge_not_lt Greater h = refl

pub not_ge_lt : (r : Ordering) → is_ge r ≡ false → is_lt r ≡ true
not_ge_lt Less h = refl
not_ge_lt Equal h = absurd (true≢false h)
not_ge_lt Greater h = absurd (true≢false h)

pub eq_if : (r : Ordering) → is_ne r ≡ false → is_eq r ≡ true
eq_if Less h = absurd (true≢false h)
eq_if Equal h = refl
eq_if Greater h = absurd (true≢false h)

pub not_eq_if : (r : Ordering) → is_ne r ≡ true → is_eq r ≡ false
not_eq_if Less h = refl
not_eq_if Equal h = absurd (true≢false (sym h))
not_eq_if Greater h = refl

pub lt_back : (r : Ordering) → is_lt r ≡ true → is_gt (ordering_reverse r) ≡ true
lt_back Less h = refl
lt_back Equal h = absurd (true≢false (sym h))
lt_back Greater h = absurd (true≢false (sym h))

pub not_lt_back : (r : Ordering) → is_lt r ≡ false → is_gt (ordering_reverse r) ≡ false
not_lt_back Less h = absurd (true≢false h)
not_lt_back Equal h = refl
not_lt_back Greater h = refl

pub ge_back : (r : Ordering) → is_ge r ≡ true → is_gt (ordering_reverse r) ≡ false
ge_back Less h = absurd (true≢false (sym h))
ge_back Equal h = refl
ge_back Greater h = refl

pub not_gt_back : (r : Ordering) → is_gt r ≡ false → is_ge (ordering_reverse r) ≡ true
not_gt_back Less h = refl
not_gt_back Equal h = refl
not_gt_back Greater h = absurd (true≢false h)
