-- What an entry at a place of a map says of the map, and what the map has once it is written.
use Rattle.std.proofs.Common.{◌≡◌, ℕ, Bool, true, false, true≢false, cond, refl, sym, ap, ◌∙◌, slice_get}
use Rattle.std.specs.Prelude.{Option, Some, None, IsSome, nat_eq}
use Rattle.std.specs.Option.{option_map}
use Rattle.std.specs.Cmp.{nat_eq_equiv}
use Rattle.std.specs.HashMap.{get, get_key, values, IsUnique}
use Rattle.std.proofs.lemmas.Option.{slice_get-map}
use Rattle.std.proofs.lemmas.Bool.{eqb-true}
use Rattle.std.proofs.lemmas.Map.Made.{lookup_key_passes}
use Rattle.indexmap.specs.IndexMap.{IndexMap, with_value_at}
use Rattle.indexmap.proofs.CallerLemmas.{updates-with_value_at}
use Rattle.rw_blocks.specs.Maps.{Sets}
use Rattle.rw_blocks.proofs.Entries.{by_test}

module _ {X S : Type 0} (m : IndexMap ℕ X S) (i k : ℕ) where
  -- the stored key is the one that was asked for
  pub own-entry : (found : ℕ) (v : X) → Some found ≡ get_key nat_eq m k → Some v ≡ get nat_eq m k → slice_get m.entries i ≡ Some (found, v) → slice_get m.entries i ≡ option_map (λ x. (k, x)) (get nat_eq m k)
  own-entry found v key value at =
      let same : k ≡ found = eqb-true k found (lookup_key_passes (nat_eq k) m.entries found (sym key)) in
      at ∙ (ap (λ q. Some (q, v)) (sym same) ∙ ap (option_map (λ x. (k, x))) value)

  values-at : (g : Option X) → slice_get m.entries i ≡ option_map (λ x. (k, x)) g → slice_get (values m) i ≡ g
  values-at None at = slice_get-map (λ e. e.1) m.entries i ∙ ap (option_map (λ e. e.1)) at
  values-at (Some x) at = slice_get-map (λ e. e.1) m.entries i ∙ ap (option_map (λ e. e.1)) at

  -- the value at the key's place is the key's
  pub value-at : slice_get m.entries i ≡ option_map (λ x. (k, x)) (get nat_eq m k) → slice_get (values m) i ≡ get nat_eq m k
  value-at at = values-at (get nat_eq m k) at

  written-some : (w : X) (g : Option X) → IsUnique nat_eq m → slice_get m.entries i ≡ option_map (λ x. (k, x)) g → IsSome g → Sets (get nat_eq m) (get nat_eq (with_value_at m i w)) k (Some w)
  written-some w None unique at some = absurd (true≢false (sym some))
  written-some w (Some v) unique at some = (updates-with_value_at m i w nat_eq_equiv unique k v at).0

  -- a value that is written there is the key's, and the other keys keep theirs
  pub written : (w : X) → IsUnique nat_eq m → slice_get m.entries i ≡ option_map (λ x. (k, x)) (get nat_eq m k) → IsSome (get nat_eq m k) → Sets (get nat_eq m) (get nat_eq (with_value_at m i w)) k (Some w)
  written w unique at some = written-some w (get nat_eq m k) unique at some

-- nothing is taken out where there was nothing
pub nothing-taken : {X : Type 0} (f : ℕ → Option X) (k : ℕ) → f k ≡ None → Sets f f k None
nothing-taken f k none c =
    by_test (nat_eq k c)
    (λ h. rw h (ap f (sym (eqb-true k c h)) ∙ none))
    (λ h. rw h refl)
