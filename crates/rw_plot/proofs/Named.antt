-- Where a name first stands in a header.
use Rattle.std.proofs.Common.{◌≡◌, ◌<◌, ℕ, List, [], ◌∷◌, true, false, Some, None, length, zero, suc, refl, arith}
use Rattle.std.specs.Prelude.{nat_eq, nat_lt, slice_index_or}
use Rattle.std.specs.Cmp.Lexicographic.{pointwise}
use Rattle.std.specs.List.{position_or_len}
use Rattle.std.proofs.lemmas.Grind.{common_steps}
use Rattle.std.proofs.lemmas.List.Sums.{position_or_len_is}
use Rattle.csv.specs.Records.{field_at}
use Rattle.rw_trace.specs.Trace.{is_text, is_text_at}
use Rattle.rw_trace.specs.Words.{Text}
use Rattle.rw_plot.specs.Layouts.{column_named}

-- whether a field is this text, where there is one
text-there : (fields : List Text) (n : ℕ) (name : Text) → n < length fields → is_text name (field_at fields n) ≡ pointwise nat_eq (slice_index_or fields n []) name
unfolding field_at
text-there [] n name h = absurd (omega (arith, h))
text-there (f ∷ fs) zero name h = refl
text-there (f ∷ fs) (suc n) name h = text-there fs n name (omega (arith, h))

-- whether the field of a place has a name is whether the field at it is this text
pub named-there : (fields : List Text) (n : ℕ) (name : Text) → n < length fields → is_text_at n name fields ≡ pointwise nat_eq (slice_index_or fields n []) name
unfolding is_text_at
named-there fields n name h = text-there fields n name h

-- a name stands first where it does and did not before
pub place-here : (fields : List Text) (name : Text) (i : ℕ) → i < length fields → ((k : ℕ) → k < i → pointwise nat_eq (slice_index_or fields k []) name ≡ false)
    → pointwise nat_eq (slice_index_or fields i []) name ≡ true → column_named name fields ≡ Some i
unfolding column_named
place-here fields name i less before here =
    let p = λ (field : Text). pointwise nat_eq field name in
    let at : position_or_len p fields ≡ i = position_or_len_is p fields i [] (omega arith) before (λ _. here) in
    let there : nat_lt i (length fields) ≡ true = grind (arith, common_steps) in
    rw (at, there) refl

-- and nowhere where it never does
pub place-nowhere : (fields : List Text) (name : Text) → ((k : ℕ) → k < length fields → pointwise nat_eq (slice_index_or fields k []) name ≡ false) → column_named name fields ≡ None
unfolding column_named
place-nowhere fields name never =
    let p = λ (field : Text). pointwise nat_eq field name in
    let at : position_or_len p fields ≡ length fields = position_or_len_is p fields (length fields) [] (omega arith) never (λ less. absurd (omega arith)) in
    let past : nat_lt (length fields) (length fields) ≡ false = grind (arith, common_steps) in
    rw (at, past) refl
