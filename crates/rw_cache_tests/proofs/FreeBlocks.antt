-- A block that is no row's home and no row's place is free.
use Rattle.std.proofs.Common.{◌≡◌, ℕ, ◌<◌, List, [], ◌∷◌, refl, arith, Bool, true, false, cond, nat_eq, get_or, length, zero, suc}
use Rattle.std.proofs.lemmas.Bool.{eq-eqb, eqb-true}
use Rattle.std.proofs.lemmas.List.{nil_from_length}
use Rattle.std.specs.Prelude.{filter, All, not}
use Rattle.std.specs.Map.{values_of, keys_of}
use Rattle.rw_blocks.specs.declared.Place.{Place}
use Rattle.rw_blocks.specs.Index.{objects_of}
use Rattle.rw_blocks.specs.State.{QueueState}
use Rattle.rw_blocks.specs.Questions.{is_placed}
use Rattle.rw_blocks.specs.Sums.{rows_homed, rows_placed}
use Rattle.rw_blocks.specs.Loose.{IsFree}

-- no element passes a test that keeps none
kept_none : (b : Bool) (r : Place) (rs : List Place) → cond b (r ∷ rs) rs ≡ [] → (b ≡ false) × (rs ≡ [])
kept_none true r rs none = absurd (cc)
kept_none false r rs none = (refl, none)

none_pass : (p : Place → Bool) (rs : List Place) → filter p rs ≡ [] → All (λ r. p r ≡ false) rs
none_pass p [] none = λ k d lt. absurd (omega arith)
none_pass p (r ∷ rs) none =
    let parts = kept_none (p r) r (filter p rs) none in
    λ k d lt. elim k as (λ k. k < length (r ∷ rs) → p (get_or (r ∷ rs) k d) ≡ false) [
      | zero ↦ λ lt. parts.0
      | suc k ↦ λ lt. none_pass p rs parts.1 k d (omega arith)
    ] lt

not_equal : (a b : ℕ) → nat_eq a b ≡ false → a ≡ b → ⊥
not_equal a b other same = let equal : nat_eq a b ≡ true = eq-eqb a b same in cc

pub IsFree-none : (q : QueueState) (b : ℕ) → rows_homed q b ≡ [] → rows_placed q b ≡ [] → IsFree q b
IsFree-none q b homes places =
    λ k d lt.
    let r : Place = get_or (values_of q.rows) k d in
    (not_equal r.home b (none_pass (λ r. nat_eq r.home b) (values_of q.rows) homes k d lt), not_equal r.place b (none_pass (λ r. nat_eq r.place b) (values_of q.rows) places k d lt))

-- a block without objects has no row
pub no_rows : (key : Place → ℕ) (b : ℕ) (rows : List (ℕ × Place)) → objects_of key b rows ≡ [] → filter (λ r. nat_eq (key r) b) (values_of rows) ≡ []
no_rows key b [] none = refl
no_rows key b (e ∷ es) none = go (nat_eq (key e.1) b) none (no_rows key b es)
  where
    go : (t : Bool) → keys_of (cond t (e ∷ filter (λ x. nat_eq (key x.1) b) es) (filter (λ x. nat_eq (key x.1) b) es)) ≡ [] → (objects_of key b es ≡ [] → filter (λ r. nat_eq (key r) b) (values_of es) ≡ [])
        → cond t (e.1 ∷ filter (λ r. nat_eq (key r) b) (values_of es)) (filter (λ r. nat_eq (key r) b) (values_of es)) ≡ []
    go true h rest = absurd (cc)
    go false h rest = rest h

-- a block that is no row's place
pub none_placed : (q : QueueState) (b : ℕ) → is_placed q b ≡ false → rows_placed q b ≡ []
none_placed q b h = nil_from_length (rows_placed q b) (eqb-true (length (rows_placed q b)) 0 (zero_is (nat_eq (length (rows_placed q b)) 0) h))
  where
    zero_is : (t : Bool) → not t ≡ false → t ≡ true
    zero_is true h = refl
    zero_is false h = absurd (cc)
