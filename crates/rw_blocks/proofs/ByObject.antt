-- A map by object as the list of its entries in the order of the objects: what is found in it settles the list.
use Rattle.std.proofs.Common.{◌≡◌, ℕ, List, [], ◌∷◌, Bool, true, false, cond, nat_eq, refl, sym, ap, ◌∙◌}
use Rattle.std.specs.Prelude.{Some, None}
use Rattle.std.specs.Ordering.{nat_cmp, is_eq, ordering_reverse}
use Rattle.std.specs.declared.cmp.Ordering.TheVariants.{Less, Equal, Greater}
use Rattle.std.specs.Cmp.{nat_cmp_total, eq_by_cmp_equiv}
use Rattle.std.specs.List.Sorted.{IsStrictlySortedBy}
use Rattle.std.specs.Map.{lookup, remove_entry, keys_of}
use Rattle.std.specs.BTreeMap.{insert_entry, is_at}
use Rattle.std.proofs.lemmas.Map as maps
use Rattle.std.proofs.lemmas.Map.Keys.{IsDistinct-from_sorted, sorted_tail}
use Rattle.std.proofs.lemmas.Map.Entries.{lookup_head, lookup_tail, none_past_head, none_below_head}
use Rattle.std.proofs.lemmas.Map.Lookups.{exact_unsigned}
use Rattle.std.proofs.lemmas.Bool.{eq-eqb, ne_eqb, eqb-true}
use Rattle.rw_blocks.proofs.Entries.{by_cases, by_test, nat_cmp-self, sorted-insert_entry, sorted-remove_entry}
use Rattle.rw_blocks.specs.RowMap.{by_object}

less_tied : Less ≡ Equal → ⊥
less_tied e = cc

greater_tied : Greater ≡ Equal → ⊥
greater_tied e = cc

-- the two tests of a key are one
at-eq : (q k : ℕ) → is_at (nat_cmp q) k ≡ nat_eq q k
at-eq q k =
    by_cases (nat_cmp q k)
    (λ h. rw h (sym (ne_eqb q k (λ e. less_tied (sym h ∙ (ap (λ x. nat_cmp x k) e ∙ nat_cmp-self k))))))
    (λ h. rw h (sym (eq-eqb q k (exact_unsigned q k h))))
    (λ h. rw h (sym (ne_eqb q k (λ e. greater_tied (sym h ∙ (ap (λ x. nat_cmp x k) e ∙ nat_cmp-self k))))))

eq-sym : (q k : ℕ) → nat_eq q k ≡ nat_eq k q
eq-sym q k =
    by_test (nat_eq q k)
    (λ h. h ∙ sym (eq-eqb k q (sym (eqb-true q k h))))
    (λ h. by_test (nat_eq k q)
    (λ t. let no : true ≡ false = sym (eq-eqb q k (sym (eqb-true k q t))) ∙ h in absurd (cc))
    (λ t. h ∙ sym t))

module _ {X : Type 0} where
  none_is_some : {v : X} → None ≡ Some v → ⊥
  none_is_some e = cc

  at_head : (e : ℕ × X) (es : List (ℕ × X)) → lookup (is_at (nat_cmp e.0)) (e ∷ es) ≡ Some e.1
  at_head e es = lookup_head (is_at (nat_cmp e.0)) e es (ap is_eq (nat_cmp-self e.0))

  past_head : (q : ℕ) (e : ℕ × X) (es : List (ℕ × X)) → IsStrictlySortedBy nat_cmp (keys_of (e ∷ es)) → is_at (nat_cmp q) e.0 ≡ true → lookup (is_at (nat_cmp q)) es ≡ None
  past_head q e es s h = maps.lookup-none (is_at (nat_cmp q)) es (none_past_head (eq_by_cmp_equiv nat_cmp_total) q e es (IsDistinct-from_sorted nat_cmp (keys_of (e ∷ es)) s) h)

  below_head : (q : ℕ) (e : ℕ × X) (es : List (ℕ × X)) → IsStrictlySortedBy nat_cmp (keys_of (e ∷ es)) → nat_cmp q e.0 ≡ Less → lookup (is_at (nat_cmp q)) (e ∷ es) ≡ None
  below_head q e es s h = maps.lookup-none (is_at (nat_cmp q)) (e ∷ es) (none_below_head nat_cmp_total q e es s h)

  -- two lists in order in which the same is found are one
  same_list : (es fs : List (ℕ × X)) → IsStrictlySortedBy nat_cmp (keys_of es) → IsStrictlySortedBy nat_cmp (keys_of fs) → ((q : ℕ) → lookup (is_at (nat_cmp q)) es ≡ lookup (is_at (nat_cmp q)) fs) → es ≡ fs
  same_list [] [] s t h = refl
  same_list [] (f ∷ fs) s t h = absurd (none_is_some (h f.0 ∙ at_head f fs))
  same_list (e ∷ es) [] s t h = absurd (none_is_some (sym (h e.0) ∙ at_head e es))
  same_list (e ∷ es) (f ∷ fs) s t h =
      by_cases (nat_cmp e.0 f.0)
      (λ p. absurd (none_is_some (sym (below_head e.0 f fs t p) ∙ (sym (h e.0) ∙ at_head e es))))
      (λ p.
      let key : e.0 ≡ f.0 = exact_unsigned e.0 f.0 p in
      let value : e.1 ≡ f.1 = same_some (sym (at_head e es) ∙ (h e.0 ∙ lookup_head (is_at (nat_cmp e.0)) f fs (ap is_eq p))) in
      let rest : es ≡ fs = same_list es fs (sorted_tail nat_cmp e.0 (keys_of es) s) (sorted_tail nat_cmp f.0 (keys_of fs) t)
      (λ q. by_test (is_at (nat_cmp q) e.0)
      (λ b. past_head q e es s b ∙ sym (past_head q f fs t (ap (λ k. is_at (nat_cmp q) k) (sym key) ∙ b)))
      (λ b. sym (lookup_tail (is_at (nat_cmp q)) e es b) ∙ (h q ∙ lookup_tail (is_at (nat_cmp q)) f fs (ap (λ k. is_at (nat_cmp q) k) (sym key) ∙ b)))) in
      λ i. (key i, value i) ∷ rest i)
      (λ p. absurd (none_is_some (sym (below_head f.0 e es s (nat_cmp_total.antisymm f.0 e.0 ∙ ap ordering_reverse p)) ∙ (h f.0 ∙ at_head f fs))))
    where
      same_some : {v w : X} → Some v ≡ Some w → v ≡ w
      same_some e = cc

  pub sorted-by_object : (es : List (ℕ × X)) → IsStrictlySortedBy nat_cmp (keys_of (by_object es))
  unfolding by_object IsStrictlySortedBy
  sorted-by_object [] = tt
  sorted-by_object (e ∷ es) = sorted-insert_entry (by_object es) e.0 e.1 (sorted-by_object es)

  -- one entry more is found at its key alone
  pub find-insert : (es : List (ℕ × X)) (k : ℕ) (v : X) (q : ℕ) → lookup (is_at (nat_cmp q)) (insert_entry nat_cmp es k v) ≡ cond (nat_eq q k) (Some v) (lookup (is_at (nat_cmp q)) es)
  find-insert [] k v q = ap (λ b. cond b (Some v) None) (at-eq q k)
  find-insert (e ∷ es) k v q =
      by_cases (nat_cmp k e.0)
      (λ h. rw h (ap (λ b. cond b (Some v) (lookup (is_at (nat_cmp q)) (e ∷ es))) (at-eq q k)))
      (λ h. let same : k ≡ e.0 = exact_unsigned k e.0 h in
      rw h (ap (λ b. cond b (Some v) (lookup (is_at (nat_cmp q)) es)) (at-eq q e.0 ∙ ap (λ x. nat_eq q x) (sym same)) ∙ sym (drop_inner (nat_eq q k) (is_at (nat_cmp q) e.0) (at-eq q e.0 ∙ ap (λ x. nat_eq q x) (sym same)))))
      (λ h. rw h (ap (λ o. cond (is_at (nat_cmp q) e.0) (Some e.1) o) (find-insert es k v q) ∙ swapped (is_at (nat_cmp q) e.0) (nat_eq q k) (λ a b. greater_tied (sym h ∙ (ap (λ x. nat_cmp x e.0) (sym (eqb-true q k b)) ∙ (ap (λ x. nat_cmp q x) (sym (eqb-true q e.0 (sym (at-eq q e.0) ∙ a))) ∙ nat_cmp-self q))))))
    where
      drop_inner : (a b : Bool) → b ≡ a → cond a (Some v) (cond b (Some e.1) (lookup (is_at (nat_cmp q)) es)) ≡ cond a (Some v) (lookup (is_at (nat_cmp q)) es)
      drop_inner true b h = refl
      drop_inner false b h = rw h refl

      swapped : (a b : Bool) → (a ≡ true → b ≡ true → ⊥) → cond a (Some e.1) (cond b (Some v) (lookup (is_at (nat_cmp q)) es)) ≡ cond b (Some v) (cond a (Some e.1) (lookup (is_at (nat_cmp q)) es))
      swapped true true apart = absurd (apart refl refl)
      swapped true false apart = refl
      swapped false b apart = refl

  -- what is found is what the map has
  pub find-by_object : (es : List (ℕ × X)) (q : ℕ) → lookup (is_at (nat_cmp q)) (by_object es) ≡ lookup (nat_eq q) es
  unfolding by_object
  find-by_object [] q = refl
  find-by_object (e ∷ es) q = find-insert (by_object es) e.0 e.1 q ∙ ap (λ o. cond (nat_eq q e.0) (Some e.1) o) (find-by_object es q)

  pub find-remove : (es : List (ℕ × X)) (k q : ℕ) → IsStrictlySortedBy nat_cmp (keys_of es) → lookup (is_at (nat_cmp q)) (remove_entry (is_at (nat_cmp k)) es) ≡ cond (is_at (nat_cmp k) q) None (lookup (is_at (nat_cmp q)) es)
  find-remove es k q s =
      maps.lookup-remove_entry (eq_by_cmp_equiv nat_cmp_total) (is_at (nat_cmp k)) one q es (IsDistinct-from_sorted nat_cmp (keys_of es) s)
    where
      one : (x y : ℕ) → is_at (nat_cmp k) x ≡ true → is_at (nat_cmp k) y ≡ is_at (nat_cmp x) y
      one x y h = ap (λ z. is_at (nat_cmp z) y) (eqb-true k x (sym (at-eq k x) ∙ h))

  -- a map that has an entry more, or another one at a key, is the list with that entry put in
  pub by_object-insert : (es fs : List (ℕ × X)) (k : ℕ) (v : X) → ((q : ℕ) → lookup (nat_eq q) fs ≡ cond (nat_eq k q) (Some v) (lookup (nat_eq q) es)) → by_object fs ≡ insert_entry nat_cmp (by_object es) k v
  by_object-insert es fs k v updates =
      same_list (by_object fs) (insert_entry nat_cmp (by_object es) k v) (sorted-by_object fs) (sorted-insert_entry (by_object es) k v (sorted-by_object es))
      (λ q. find-by_object fs q ∙ (updates q ∙ (ap (λ b. cond b (Some v) (lookup (nat_eq q) es)) (eq-sym k q) ∙ (ap (λ o. cond (nat_eq q k) (Some v) o) (sym (find-by_object es q)) ∙ sym (find-insert (by_object es) k v q)))))

  pub by_object-remove : (es fs : List (ℕ × X)) (k : ℕ) → ((q : ℕ) → lookup (nat_eq q) fs ≡ cond (nat_eq k q) None (lookup (nat_eq q) es)) → by_object fs ≡ remove_entry (is_at (nat_cmp k)) (by_object es)
  by_object-remove es fs k updates =
      same_list (by_object fs) (remove_entry (is_at (nat_cmp k)) (by_object es)) (sorted-by_object fs) (sorted-remove_entry (by_object es) k (sorted-by_object es))
      (λ q. find-by_object fs q ∙ (updates q ∙ (ap (λ b. cond b None (lookup (nat_eq q) es)) (sym (at-eq k q)) ∙ (ap (λ o. cond (is_at (nat_cmp k) q) None o) (sym (find-by_object es q)) ∙ sym (find-remove (by_object es) k q (sorted-by_object es))))))
