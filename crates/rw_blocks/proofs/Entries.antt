-- The entries of an ordered map at numbers: what an insertion and a removal at one key undo, and what they keep.
use Rattle.std.proofs.Common.{◌≡◌, ℕ, List, [], ◌∷◌, Bool, true, false, refl, sym, ap, ◌∙◌, subst}
use Rattle.std.specs.Prelude.{Some, None, All}
use Rattle.std.specs.Ordering.{nat_cmp, ordering_reverse}
use Rattle.std.specs.declared.cmp.Ordering.{Ordering}
use Rattle.std.specs.declared.cmp.Ordering.TheVariants.{Less, Equal, Greater}
use Rattle.std.specs.Cmp.{nat_cmp_total, tied_itself, ranked}
use Rattle.std.specs.List.{AllByRecursion}
use Rattle.std.specs.List.Sorted.{IsStrictlySortedBy}
use Rattle.std.specs.Map.{lookup, remove_entry, keys_of, values_of}
use Rattle.std.specs.BTreeMap.{insert_entry, is_at}
use Rattle.std.proofs.lemmas.Map.{lookup-none}
use Rattle.std.proofs.lemmas.Map.Keys.{sorted_head, sorted_tail}
use Rattle.std.proofs.lemmas.Map.Entries.{none_below_head}
use Rattle.std.proofs.lemmas.Map.Views.{All-values-insert_entry, All-map-remove_entry}
use Rattle.std.proofs.lemmas.List.Elements.{All-head, All-tail}

pub by_cases : {P : Type 0} (r : Ordering) → (r ≡ Less → P) → (r ≡ Equal → P) → (r ≡ Greater → P) → P
by_cases Less a b c = a refl
by_cases Equal a b c = b refl
by_cases Greater a b c = c refl

pub by_test : {P : Type 0} (b : Bool) → (b ≡ true → P) → (b ≡ false → P) → P
by_test true hit miss = hit refl
by_test false hit miss = miss refl

pub nat_cmp-self : (k : ℕ) → nat_cmp k k ≡ Equal
nat_cmp-self k = tied_itself nat_cmp_total k

above : (e k : ℕ) → nat_cmp k e ≡ Greater → nat_cmp e k ≡ Less
above e k h = nat_cmp_total.antisymm e k ∙ ap ordering_reverse h

all_above : (k : ℕ) (e : ℕ) (ks : List ℕ) → nat_cmp k e ≡ Less → AllByRecursion (λ y. nat_cmp e y ≡ Less) ks → AllByRecursion (λ y. nat_cmp k y ≡ Less) ks
all_above k e [] h all = tt
all_above k e (x ∷ xs) h all = (nat_cmp_total.trans k e x h all.0, all_above k e xs h all.1)

some_not_none : {X : Type 0} {v : X} → Some v ≡ None → ⊥
some_not_none e = cc

module _ {X : Type 0} where
  pub lookup-insert_entry : (es : List (ℕ × X)) (k : ℕ) (v : X) → lookup (is_at (nat_cmp k)) (insert_entry nat_cmp es k v) ≡ Some v
  lookup-insert_entry [] k v = rw nat_cmp-self refl
  lookup-insert_entry (e ∷ es) k v =
      by_cases (nat_cmp k e.0)
      (λ h. rw h (rw nat_cmp-self refl))
      (λ h. rw h (rw h refl))
      (λ h. rw h (rw h (lookup-insert_entry es k v)))

  pub remove_entry-insert_entry : (es : List (ℕ × X)) (k : ℕ) (v : X) → lookup (is_at (nat_cmp k)) es ≡ None → remove_entry (is_at (nat_cmp k)) (insert_entry nat_cmp es k v) ≡ es
  remove_entry-insert_entry [] k v none = rw nat_cmp-self refl
  remove_entry-insert_entry (e ∷ es) k v none =
      by_cases (nat_cmp k e.0)
      (λ h. rw h (rw nat_cmp-self refl))
      (λ h. absurd (some_not_none (rw h at none)))
      (λ h. rw h (rw h (ap (λ r. e ∷ r) (remove_entry-insert_entry es k v (rw h at none)))))

  -- an entry that is not there is removed without a change
  pub remove_entry-none : (es : List (ℕ × X)) (k : ℕ) → lookup (is_at (nat_cmp k)) es ≡ None → remove_entry (is_at (nat_cmp k)) es ≡ es
  remove_entry-none [] k none = refl
  remove_entry-none (e ∷ es) k none =
      by_cases (nat_cmp k e.0)
      (λ h. rw h (ap (λ r. e ∷ r) (remove_entry-none es k (rw h at none))))
      (λ h. absurd (some_not_none (rw h at none)))
      (λ h. rw h (ap (λ r. e ∷ r) (remove_entry-none es k (rw h at none))))

  pub insert_entry-insert_entry : (es : List (ℕ × X)) (k : ℕ) (v w : X) → insert_entry nat_cmp (insert_entry nat_cmp es k v) k w ≡ insert_entry nat_cmp es k w
  insert_entry-insert_entry [] k v w = rw nat_cmp-self refl
  insert_entry-insert_entry (e ∷ es) k v w =
      by_cases (nat_cmp k e.0)
      (λ h. rw h (rw nat_cmp-self refl))
      (λ h. rw h (rw h refl))
      (λ h. rw h (rw h (ap (λ r. e ∷ r) (insert_entry-insert_entry es k v w))))

  -- a key below the first is not there
  below_first : (e : ℕ × X) (es : List (ℕ × X)) (k : ℕ) → IsStrictlySortedBy nat_cmp (keys_of (e ∷ es)) → nat_cmp k e.0 ≡ Less → lookup (is_at (nat_cmp k)) (e ∷ es) ≡ None
  below_first e es k s h = lookup-none _ (e ∷ es) (none_below_head nat_cmp_total k e es s h)

  pub insert_entry-same : (es : List (ℕ × X)) (k : ℕ) (v : X) → IsStrictlySortedBy nat_cmp (keys_of es) → lookup (is_at (nat_cmp k)) es ≡ Some v → insert_entry nat_cmp es k v ≡ es
  insert_entry-same [] k v s is = absurd (some_not_none (sym is))
  insert_entry-same (e ∷ es) k v s is =
      by_cases (nat_cmp k e.0)
      (λ h. absurd (some_not_none (sym is ∙ below_first e es k s h)))
      (λ h. rw h (let same : Some e.1 ≡ Some v = rw h at is in let x : e.1 ≡ v = cc in rw x refl))
      (λ h. rw h (ap (λ r. e ∷ r) (insert_entry-same es k v (sorted_tail nat_cmp e.0 (keys_of es) s) (rw h at is))))

  -- an entry goes before those that are above it
  first_of_sorted : (es : List (ℕ × X)) (k : ℕ) (v : X) → AllByRecursion (λ y. nat_cmp k y ≡ Less) (keys_of es) → insert_entry nat_cmp es k v ≡ (k, v) ∷ es
  first_of_sorted [] k v all = refl
  first_of_sorted (e ∷ es) k v all = rw all.0 refl

  pub insert_entry-remove_entry : (es : List (ℕ × X)) (k : ℕ) (v : X) → IsStrictlySortedBy nat_cmp (keys_of es) → lookup (is_at (nat_cmp k)) es ≡ Some v → insert_entry nat_cmp (remove_entry (is_at (nat_cmp k)) es) k v ≡ es
  insert_entry-remove_entry [] k v s is = absurd (some_not_none (sym is))
  insert_entry-remove_entry (e ∷ es) k v s is =
      by_cases (nat_cmp k e.0)
      (λ h. absurd (some_not_none (sym is ∙ below_first e es k s h)))
      (λ h. rw h (
      let same : Some e.1 ≡ Some v = rw h at is in
      let key : k ≡ e.0 = ranked k e.0 Equal (sym h) in
      let value : e.1 ≡ v = cc in
      rw (key, ← value) (first_of_sorted es e.0 e.1 (sorted_head nat_cmp e.0 (keys_of es) s))))
      (λ h. rw h (rw h (ap (λ r. e ∷ r) (insert_entry-remove_entry es k v (sorted_tail nat_cmp e.0 (keys_of es) s) (rw h at is)))))

  all-insert_entry : (P : ℕ → Type 0) (es : List (ℕ × X)) (k : ℕ) (v : X) → AllByRecursion P (keys_of es) → P k → AllByRecursion P (keys_of (insert_entry nat_cmp es k v))
  all-insert_entry P [] k v all p = (p, tt)
  all-insert_entry P (e ∷ es) k v all p =
      by_cases (nat_cmp k e.0)
      (λ h. rw h (p, all))
      (λ h. rw h all)
      (λ h. rw h (all.0, all-insert_entry P es k v all.1 p))

  pub sorted-insert_entry : (es : List (ℕ × X)) (k : ℕ) (v : X) → IsStrictlySortedBy nat_cmp (keys_of es) → IsStrictlySortedBy nat_cmp (keys_of (insert_entry nat_cmp es k v))
  unfolding IsStrictlySortedBy
  sorted-insert_entry [] k v s = (tt, tt)
  sorted-insert_entry (e ∷ es) k v s =
      by_cases (nat_cmp k e.0)
      (λ h. rw h ((h, all_above k e.0 (keys_of es) h s.0), s))
      (λ h. rw h s)
      (λ h. rw h (all-insert_entry (λ y. nat_cmp e.0 y ≡ Less) es k v s.0 (above e.0 k h), sorted-insert_entry es k v s.1))

  all-remove_entry : (P : ℕ → Type 0) (es : List (ℕ × X)) (k : ℕ) → AllByRecursion P (keys_of es) → AllByRecursion P (keys_of (remove_entry (is_at (nat_cmp k)) es))
  all-remove_entry P [] k all = tt
  all-remove_entry P (e ∷ es) k all =
      by_cases (nat_cmp k e.0)
      (λ h. rw h (all.0, all-remove_entry P es k all.1))
      (λ h. rw h all.1)
      (λ h. rw h (all.0, all-remove_entry P es k all.1))

  pub sorted-remove_entry : (es : List (ℕ × X)) (k : ℕ) → IsStrictlySortedBy nat_cmp (keys_of es) → IsStrictlySortedBy nat_cmp (keys_of (remove_entry (is_at (nat_cmp k)) es))
  unfolding IsStrictlySortedBy
  sorted-remove_entry [] k s = tt
  sorted-remove_entry (e ∷ es) k s =
      by_cases (nat_cmp k e.0)
      (λ h. rw h (all-remove_entry (λ y. nat_cmp e.0 y ≡ Less) es k s.0, sorted-remove_entry es k s.1))
      (λ h. rw h s.1)
      (λ h. rw h (all-remove_entry (λ y. nat_cmp e.0 y ≡ Less) es k s.0, sorted-remove_entry es k s.1))

  -- nothing is at a key that is before all others
  lookup_before : (es : List (ℕ × X)) (k : ℕ) → AllByRecursion (λ y. nat_cmp k y ≡ Less) (keys_of es) → lookup (is_at (nat_cmp k)) es ≡ None
  lookup_before [] k all = refl
  lookup_before (e ∷ es) k all = rw all.0 (lookup_before es k all.1)

  pub lookup-remove_entry : (es : List (ℕ × X)) (k : ℕ) → IsStrictlySortedBy nat_cmp (keys_of es) → lookup (is_at (nat_cmp k)) (remove_entry (is_at (nat_cmp k)) es) ≡ None
  lookup-remove_entry [] k s = refl
  lookup-remove_entry (e ∷ es) k s =
      by_cases (nat_cmp k e.0)
      (λ h. rw h (rw h (lookup-remove_entry es k (sorted_tail nat_cmp e.0 (keys_of es) s))))
      (λ h. rw h (let key : k ≡ e.0 = ranked k e.0 Equal (sym h) in rw key (lookup_before es e.0 (sorted_head nat_cmp e.0 (keys_of es) s))))
      (λ h. rw h (rw h (lookup-remove_entry es k (sorted_tail nat_cmp e.0 (keys_of es) s))))

  pub values-insert_entry : (P : X → Type 0) (es : List (ℕ × X)) (k : ℕ) (v : X) → All P (values_of es) → P v → All P (values_of (insert_entry nat_cmp es k v))
  values-insert_entry P es k v all here = All-values-insert_entry nat_cmp k v P es all here

  pub values-remove_entry : (P : X → Type 0) (es : List (ℕ × X)) (k : ℕ) → All P (values_of es) → All P (values_of (remove_entry (is_at (nat_cmp k)) es))
  values-remove_entry P es k all = All-map-remove_entry (is_at (nat_cmp k)) (λ e. e.1) P es all

  -- what is found is among the values
  pub found-value : (P : X → Type 0) (es : List (ℕ × X)) (k : ℕ) (v : X) → All P (values_of es) → lookup (is_at (nat_cmp k)) es ≡ Some v → P v
  found-value P [] k v all is = absurd (some_not_none (sym is))
  found-value P (e ∷ es) k v all is =
      by_cases (nat_cmp k e.0)
      (λ h. found-value P es k v (All-tail P e.1 (values_of es) all) (rw h at is))
      (λ h. let same : Some e.1 ≡ Some v = rw h at is in let x : e.1 ≡ v = cc in subst P x (All-head P e.1 (values_of es) all))
      (λ h. found-value P es k v (All-tail P e.1 (values_of es) all) (rw h at is))

  -- a row goes and another one comes
  pub write-again : (es : List (ℕ × X)) (o : ℕ) (r w : X) → IsStrictlySortedBy nat_cmp (keys_of es) → lookup (is_at (nat_cmp o)) es ≡ Some r → insert_entry nat_cmp (remove_entry (is_at (nat_cmp o)) es) o w ≡ insert_entry nat_cmp es o w
  write-again es o r w s is = sym (insert_entry-insert_entry (remove_entry (is_at (nat_cmp o)) es) o r w) ∙ ap (λ zs. insert_entry nat_cmp zs o w) (insert_entry-remove_entry es o r s is)
