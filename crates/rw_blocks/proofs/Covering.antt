-- Lists that cover blocks: what changes of the rows and of the lists keep of them, and that what counts in such a list,
-- sorted and without doubles, is the block's objects.
use Rattle.std.proofs.Common.{◌≡◌, ◌⊎◌, ℕ, zero, suc, ◌<◌, List, [], ◌∷◌, ◌++◌, length, get_or, Bool, true, false, cond, nat_eq, refl, sym, ap, ◌∙◌, subst, arith, inl, inr}
use Rattle.std.specs.Prelude.{Option, Some, None, filter}
use Rattle.std.specs.Ordering.{nat_cmp}
use Rattle.std.specs.declared.cmp.Ordering.TheVariants.{Less, Equal}
use Rattle.std.specs.Cmp.{nat_cmp_total, ranked}
use Rattle.std.specs.List.{AllByRecursion, Contains, dedup}
use Rattle.std.specs.List.Sorted.{IsStrictlySortedBy, IsPermutation, IsSorted}
use Rattle.std.specs.Map.{lookup, remove_entry, keys_of}
use Rattle.std.specs.BTreeMap.{insert_entry, is_at}
use Rattle.std.proofs.lemmas.Bool.{eq-eqb, eqb-true}
use Rattle.std.proofs.lemmas.List.Elements.{Contains-append_left, Contains-push}
use Rattle.std.proofs.lemmas.List.Kept.{Contains-dedup_nat, Contains-from_dedup}
use Rattle.std.proofs.lemmas.List.Sorted.{Contains-permutation, IsPermutation-sym}
use Rattle.std.proofs.lemmas.Map.Keys.{sorted_head, sorted_tail, sorted_from_strictly_increasing, IsStrictlyIncreasing-dedup}
use Rattle.rw_blocks.specs.declared.Place.{Place}
use Rattle.rw_blocks.specs.Index.{objects_of}
use Rattle.rw_blocks.specs.Covering.{is_of, names_block, counts, counted, Covers, appended}
use Rattle.rw_blocks.proofs.Entries.{by_cases, by_test, nat_cmp-self}
use Rattle.rw_blocks.proofs.ByObject.{find-insert, find-remove}

less_tied : Less ≡ Equal → ⊥
less_tied e = cc

none_is_some : {X : Type 0} {v : X} → None ≡ Some v → ⊥
none_is_some e = cc

same_some : {X : Type 0} {v w : X} → Some v ≡ Some w → v ≡ w
same_some e = cc

true_false : true ≡ false → ⊥
true_false e = cc

not_below_self : (x : ℕ) → nat_cmp x x ≡ Less → ⊥
not_below_self x h = less_tied (sym h ∙ nat_cmp-self x)

-- ---- membership by recursion
abbrev Has : List ℕ → ℕ → Type 0
Has [] x = ⊥
Has (y ∷ ys) x = (x ≡ y) ⊎ Has ys x

has_at : (xs : List ℕ) (at : ℕ) (x : ℕ) → at < length xs → x ≡ get_or xs at x → Has xs x
has_at [] at x within is = absurd (omega arith)
has_at (y ∷ xs) zero x within is = inl is
has_at (y ∷ xs) (suc at) x within is = inr (has_at xs at x (omega arith) is)

has_contained : (xs : List ℕ) (x : ℕ) → Contains xs x → Has xs x
has_contained xs x h = has_at xs h.0 x h.1 (sym h.2)

contains_had : (xs : List ℕ) (x : ℕ) → Has xs x → Contains xs x
contains_had [] x h = absurd h
contains_had (y ∷ xs) x (inl same) = (0, omega arith, sym same)
contains_had (y ∷ xs) x (inr later) = let k = contains_had xs x later in (suc k.0, omega (arith, k.1), k.2)

all_has : (P : ℕ → Type 0) (xs : List ℕ) (x : ℕ) → AllByRecursion P xs → Has xs x → P x
all_has P [] x all h = absurd h
all_has P (y ∷ xs) x all (inl same) = subst P (sym same) all.0
all_has P (y ∷ xs) x all (inr later) = all_has P xs x all.1 later

-- what a filter keeps
has_filter : (p : ℕ → Bool) (xs : List ℕ) (x : ℕ) → Has xs x → p x ≡ true → Has (filter p xs) x
has_filter p [] x h passes = absurd h
has_filter p (y ∷ xs) x (inl same) passes =
    let hit : p y ≡ true = ap p (sym same) ∙ passes in
    rw hit (inl same)
has_filter p (y ∷ xs) x (inr later) passes =
    let rest = has_filter p xs x later passes in
    elim (p y) as (λ b. Has (cond b (y ∷ filter p xs) (filter p xs)) x) [ true ↦ inr rest | false ↦ rest ]

filter_has : (p : ℕ → Bool) (xs : List ℕ) (x : ℕ) → Has (filter p xs) x → Has xs x × (p x ≡ true)
filter_has p [] x h = absurd h
filter_has p (y ∷ xs) x h = go (p y) refl h (filter_has p xs x)
  where
    go : (b : Bool) → p y ≡ b → Has (cond b (y ∷ filter p xs) (filter p xs)) x → (Has (filter p xs) x → Has xs x × (p x ≡ true)) → Has (y ∷ xs) x × (p x ≡ true)
    go true is (inl same) more = (inl same, ap p same ∙ is)
    go true is (inr later) more = (inr (more later).0, (more later).1)
    go false is later more = (inr (more later).0, (more later).1)

contains_filter : (p : ℕ → Bool) (xs : List ℕ) (x : ℕ) → Contains xs x → p x ≡ true → Contains (filter p xs) x
contains_filter p xs x h passes = contains_had (filter p xs) x (has_filter p xs x (has_contained xs x h) passes)

filter_contains : (p : ℕ → Bool) (xs : List ℕ) (x : ℕ) → Contains (filter p xs) x → Contains xs x × (p x ≡ true)
filter_contains p xs x h = let both = filter_has p xs x (has_contained (filter p xs) x h) in (contains_had xs x both.0, both.1)

-- ---- two lists in order that have the same objects are one
same_rising : (xs ys : List ℕ) → IsStrictlySortedBy nat_cmp xs → IsStrictlySortedBy nat_cmp ys → ((q : ℕ) → Has xs q → Has ys q) → ((q : ℕ) → Has ys q → Has xs q) → xs ≡ ys
same_rising [] [] s t f g = refl
same_rising [] (y ∷ ys) s t f g = absurd (g y (inl refl))
same_rising (x ∷ xs) [] s t f g = absurd (f x (inl refl))
same_rising (x ∷ xs) (y ∷ ys) s t f g =
    let below : AllByRecursion (λ z. nat_cmp x z ≡ Less) xs = sorted_head nat_cmp x xs s in
    let below' : AllByRecursion (λ z. nat_cmp y z ≡ Less) ys = sorted_head nat_cmp y ys t in
    let head : x ≡ y = first below below' (f x (inl refl)) (g y (inl refl)) in
    let rest : xs ≡ ys = same_rising xs ys (sorted_tail nat_cmp x xs s) (sorted_tail nat_cmp y ys t)
    (λ q h. later q x y ys (all_has (λ z. nat_cmp x z ≡ Less) xs q below h) head (f q (inr h)))
    (λ q h. later q y x xs (all_has (λ z. nat_cmp y z ≡ Less) ys q below' h) (sym head) (g q (inr h))) in
    λ i. head i ∷ rest i
  where
    first : AllByRecursion (λ z. nat_cmp x z ≡ Less) xs → AllByRecursion (λ z. nat_cmp y z ≡ Less) ys → Has (y ∷ ys) x → Has (x ∷ xs) y → x ≡ y
    first below below' (inl same) h = same
    first below below' (inr h) (inl same) = sym same
    first below below' (inr h) (inr k) = absurd (not_below_self x (nat_cmp_total.trans x y x (all_has (λ z. nat_cmp x z ≡ Less) xs y below k) (all_has (λ z. nat_cmp y z ≡ Less) ys x below' h)))

    later : (q a b : ℕ) (bs : List ℕ) → nat_cmp a q ≡ Less → a ≡ b → Has (b ∷ bs) q → Has bs q
    later q a b bs below same (inl is) = absurd (not_below_self a (ap (λ z. nat_cmp a z) (same ∙ sym is) ∙ below))
    later q a b bs below same (inr h) = h

-- ---- the objects of the entries that pass a test
all_kept : (P : ℕ → Type 0) (p : Place → Bool) (es : List (ℕ × Place)) → AllByRecursion P (keys_of es) → AllByRecursion P (keys_of (filter (λ e. p e.1) es))
all_kept P p [] all = tt
all_kept P p (e ∷ es) all =
    elim (p e.1) as (λ b. AllByRecursion P (keys_of (cond b (e ∷ filter (λ x. p x.1) es) (filter (λ x. p x.1) es)))) [
      | true ↦ (all.0, all_kept P p es all.1)
      | false ↦ all_kept P p es all.1
    ]

sorted_kept : (p : Place → Bool) (es : List (ℕ × Place)) → IsStrictlySortedBy nat_cmp (keys_of es) → IsStrictlySortedBy nat_cmp (keys_of (filter (λ e. p e.1) es))
unfolding IsStrictlySortedBy
sorted_kept p [] s = tt
sorted_kept p (e ∷ es) s =
    elim (p e.1) as (λ b. IsStrictlySortedBy nat_cmp (keys_of (cond b (e ∷ filter (λ x. p x.1) es) (filter (λ x. p x.1) es)))) [
      | true ↦ (all_kept (λ y. nat_cmp e.0 y ≡ Less) p es s.0, sorted_kept p es s.1)
      | false ↦ sorted_kept p es s.1
    ]

found_kept : (p : Place → Bool) (es : List (ℕ × Place)) (o : ℕ) (r : Place) → lookup (is_at (nat_cmp o)) es ≡ Some r → p r ≡ true → Has (keys_of (filter (λ e. p e.1) es)) o
found_kept p [] o r is passes = absurd (none_is_some is)
found_kept p (e ∷ es) o r is passes =
    by_test (is_at (nat_cmp o) e.0)
    (λ h.
    let found : e.1 ≡ r = same_some (rw h at is) in
    let hit : p e.1 ≡ true = ap p found ∙ passes in
    rw hit (inl (at_same o e.0 h)))
    (λ h.
    let rest = found_kept p es o r (rw h at is) passes in
    elim (p e.1) as (λ b. Has (keys_of (cond b (e ∷ filter (λ x. p x.1) es) (filter (λ x. p x.1) es))) o) [ true ↦ inr rest | false ↦ rest ])
  where
    at_same : (o k : ℕ) → is_at (nat_cmp o) k ≡ true → o ≡ k
    at_same o k h = by_cases (nat_cmp o k) (λ c. absurd (true_false (sym h ∙ rw c refl))) (λ c. ranked o k Equal (sym c)) (λ c. absurd (true_false (sym h ∙ rw c refl)))

kept_key : (p : Place → Bool) (es : List (ℕ × Place)) (o : ℕ) → Has (keys_of (filter (λ e. p e.1) es)) o → Has (keys_of es) o
kept_key p [] o h = absurd h
kept_key p (e ∷ es) o h = go (p e.1) h (kept_key p es o)
  where
    go : (b : Bool) → Has (keys_of (cond b (e ∷ filter (λ x. p x.1) es) (filter (λ x. p x.1) es))) o → (Has (keys_of (filter (λ x. p x.1) es)) o → Has (keys_of es) o) → Has (e.0 ∷ keys_of es) o
    go true (inl same) more = inl same
    go true (inr later) more = inr (more later)
    go false later more = inr (more later)

kept_found : (p : Place → Bool) (es : List (ℕ × Place)) (o : ℕ) → IsStrictlySortedBy nat_cmp (keys_of es) → Has (keys_of (filter (λ e. p e.1) es)) o → (r : Place) × (lookup (is_at (nat_cmp o)) es ≡ Some r) × (p r ≡ true)
kept_found p [] o s h = absurd h
kept_found p (e ∷ es) o s h = go (p e.1) refl h (kept_found p es o (sorted_tail nat_cmp e.0 (keys_of es) s))
  where
    below : AllByRecursion (λ y. nat_cmp e.0 y ≡ Less) (keys_of es)
    below = sorted_head nat_cmp e.0 (keys_of es) s

    past : ((r : Place) × (lookup (is_at (nat_cmp o)) es ≡ Some r) × (p r ≡ true)) → Has (keys_of (filter (λ x. p x.1) es)) o → (r : Place) × (lookup (is_at (nat_cmp o)) (e ∷ es) ≡ Some r) × (p r ≡ true)
    past rest later =
        let above : nat_cmp e.0 o ≡ Less = all_has (λ y. nat_cmp e.0 y ≡ Less) (keys_of es) o below (kept_key p es o later) in
        by_test (is_at (nat_cmp o) e.0)
        (λ hit. by_cases (nat_cmp o e.0)
        (λ c. absurd (not_below_self o (nat_cmp_total.trans o e.0 o c above)))
        (λ c. absurd (not_below_self o (ap (λ z. nat_cmp z o) (ranked o e.0 Equal (sym c)) ∙ above)))
        (λ c. absurd (true_false (sym hit ∙ rw c refl))))
        (λ miss. (rest.0, rw miss rest.1, rest.2))

    go : (b : Bool) → p e.1 ≡ b → Has (keys_of (cond b (e ∷ filter (λ x. p x.1) es) (filter (λ x. p x.1) es))) o → (Has (keys_of (filter (λ x. p x.1) es)) o → (r : Place) × (lookup (is_at (nat_cmp o)) es ≡ Some r) × (p r ≡ true)) → (r : Place) × (lookup (is_at (nat_cmp o)) (e ∷ es) ≡ Some r) × (p r ≡ true)
    go true is (inl same) more = (e.1, rw same (rw nat_cmp-self refl), is)
    go true is (inr later) more = past (more later) later
    go false is later more = past (more later) later

-- ---- what counts
is_of-row : (key : Place → ℕ) (b : ℕ) (row : Option Place) → is_of key b row ≡ true → (r : Place) × (row ≡ Some r) × (key r ≡ b)
is_of-row key b None h = absurd (true_false (sym h))
is_of-row key b (Some r) h = (r, refl, eqb-true (key r) b h)

row-counts : (key : Place → ℕ) (b : ℕ) (rows : List (ℕ × Place)) (o : ℕ) (r : Place) → lookup (is_at (nat_cmp o)) rows ≡ Some r → key r ≡ b → counts key b rows o ≡ true
row-counts key b rows o r is same = ap (is_of key b) is ∙ eq-eqb (key r) b same

-- an entry counts just where the object is the block's
counts-object : (key : Place → ℕ) (b : ℕ) (rows : List (ℕ × Place)) (o : ℕ) → counts key b rows o ≡ true → Has (objects_of key b rows) o
counts-object key b rows o h =
    let row = is_of-row key b (lookup (is_at (nat_cmp o)) rows) h in
    found_kept (λ r. nat_eq (key r) b) rows o row.0 row.1 (eq-eqb (key row.0) b row.2)

object-row : (key : Place → ℕ) (b : ℕ) (rows : List (ℕ × Place)) (o : ℕ) → IsStrictlySortedBy nat_cmp (keys_of rows) → Has (objects_of key b rows) o → (r : Place) × (lookup (is_at (nat_cmp o)) rows ≡ Some r) × (key r ≡ b)
object-row key b rows o s h =
    let found = kept_found (λ r. nat_eq (key r) b) rows o s h in
    (found.0, found.1, eqb-true (key found.0) b found.2)

-- a list in order that has what counts in a covering list, and nothing else, is the block's objects
objects-covered : (key : Place → ℕ) (b : ℕ) (rows : List (ℕ × Place)) (list os : List ℕ) → IsStrictlySortedBy nat_cmp (keys_of rows) → Covers key b list rows
    → IsStrictlySortedBy nat_cmp os
    → ((o : ℕ) → Contains (counted key b rows list) o → Contains os o)
    → ((o : ℕ) → Contains os o → Contains (counted key b rows list) o)
    → os ≡ objects_of key b rows
objects-covered key b rows list os s covers rises has only =
    same_rising os (objects_of key b rows) rises (sorted_kept (λ r. nat_eq (key r) b) rows s)
    (λ q h. counts-object key b rows q (filter_contains (counts key b rows) list q (only q (contains_had os q h))).1)
    (λ q h.
    let row = object-row key b rows q s h in
    has_contained os q (has q (contains_filter (counts key b rows) list q (covers q row.0 row.1 row.2) (row-counts key b rows q row.0 row.1 row.2))))

-- filtered, sorted by object and without doubles, a covering list is the block's objects in rising order
pub objects-sorted : (key : Place → ℕ) (b : ℕ) (rows : List (ℕ × Place)) (list sorted : List ℕ) → IsStrictlySortedBy nat_cmp (keys_of rows) → Covers key b list rows
    → IsPermutation (counted key b rows list) sorted → IsSorted nat_cmp sorted
    → dedup nat_eq sorted ≡ objects_of key b rows
objects-sorted key b rows list sorted s covers moved up =
    objects-covered key b rows list (dedup nat_eq sorted) s covers
    (sorted_from_strictly_increasing (dedup nat_eq sorted) (IsStrictlyIncreasing-dedup sorted up))
    (λ o h. Contains-dedup_nat sorted o (Contains-permutation (counted key b rows list) sorted o moved h))
    (λ o h. Contains-permutation sorted (counted key b rows list) o (IsPermutation-sym (counted key b rows list) sorted moved) (Contains-from_dedup nat_eq sorted o h))

-- ---- what keeps a list covering
pub contains-appended : (c b : ℕ) (list : List ℕ) (o q : ℕ) → Contains list q → Contains (appended c b list o) q
contains-appended c b list o q h = elim (nat_eq c b) as (λ t. Contains (cond t (list ++ o ∷ []) list) q) [ true ↦ Contains-append_left list (o ∷ []) q h | false ↦ h ]

pub appended-contains : (c b : ℕ) (list : List ℕ) (o : ℕ) → c ≡ b → Contains (appended c b list o) o
appended-contains c b list o same = rw (eq-eqb c b same) (Contains-push list o)

has_pushed : (list : List ℕ) (o q : ℕ) → Has (list ++ o ∷ []) q → Has list q ⊎ (q ≡ o)
has_pushed [] o q (inl same) = inr same
has_pushed [] o q (inr none) = absurd none
has_pushed (x ∷ xs) o q (inl same) = inl (inl same)
has_pushed (x ∷ xs) o q (inr later) = elim (has_pushed xs o q later) [ inl h ↦ inl (inr h) | inr e ↦ inr e ]

-- what an appended list has, if the list has it and the object that was appended
pub appended-within : (c b : ℕ) (list wider : List ℕ) (o : ℕ) → ((q : ℕ) → Contains list q → Contains wider q) → (c ≡ b → Contains wider o)
    → (q : ℕ) → Contains (appended c b list o) q → Contains wider q
appended-within c b list wider o kept has q h =
    by_test (nat_eq c b)
    (λ t. elim (has_pushed list o q (has_contained (list ++ o ∷ []) q (rw t at h))) [
      | inl old ↦ kept q (contains_had list q old)
      | inr same ↦ subst (λ x. Contains wider x) (sym same) (has (eqb-true c b t))
    ])
    (λ t. kept q (rw t at h))

-- a list that has all that a covering one has; so doubles and what no longer counts are harmless
pub covers-wider : (key : Place → ℕ) (b : ℕ) (rows : List (ℕ × Place)) (list wider : List ℕ) → ((o : ℕ) → Contains list o → Contains wider o) → Covers key b list rows → Covers key b wider rows
covers-wider key b rows list wider has covers o r is same = has o (covers o r is same)

-- rows that were there before, as they were
covers-fewer : (key : Place → ℕ) (b : ℕ) (before after : List (ℕ × Place)) (list : List ℕ) → ((o : ℕ) (r : Place) → lookup (is_at (nat_cmp o)) after ≡ Some r → lookup (is_at (nat_cmp o)) before ≡ Some r) → Covers key b list before → Covers key b list after
covers-fewer key b before after list old covers o r is same = covers o r (old o r is) same

-- the same, but for one object, which is appended to the list of the block that its row names now
covers-but_one : (key : Place → ℕ) (b : ℕ) (before after : List (ℕ × Place)) (list : List ℕ) (o : ℕ) (w : Place) → ((q : ℕ) (r : Place) → lookup (is_at (nat_cmp q)) after ≡ Some r → (lookup (is_at (nat_cmp q)) before ≡ Some r) ⊎ ((q ≡ o) × (r ≡ w))) → Covers key b list before → Covers key b (appended (key w) b list o) after
covers-but_one key b before after list o w old covers q r is same = go (old q r is)
  where
    go : (lookup (is_at (nat_cmp q)) before ≡ Some r) ⊎ ((q ≡ o) × (r ≡ w)) → Contains (appended (key w) b list o) q
    go (inl was) = contains-appended (key w) b list o q (covers q r was same)
    go (inr new) = subst (λ x. Contains (appended (key w) b list o) x) (sym new.0) (appended-contains (key w) b list o (ap key (sym new.1) ∙ same))

-- what is found after a write was there before, or is what was written
found-written : (rows : List (ℕ × Place)) (o : ℕ) (w : Place) (q : ℕ) (r : Place) → lookup (is_at (nat_cmp q)) (insert_entry nat_cmp rows o w) ≡ Some r → (lookup (is_at (nat_cmp q)) rows ≡ Some r) ⊎ ((q ≡ o) × (r ≡ w))
found-written rows o w q r is = go (nat_eq q o) refl (sym (find-insert rows o w q) ∙ is)
  where
    go : (t : Bool) → nat_eq q o ≡ t → cond t (Some w) (lookup (is_at (nat_cmp q)) rows) ≡ Some r → (lookup (is_at (nat_cmp q)) rows ≡ Some r) ⊎ ((q ≡ o) × (r ≡ w))
    go true at found = inr (eqb-true q o at, sym (same_some found))
    go false at found = inl found

-- what is found after a removal was there before
found-left : (rows : List (ℕ × Place)) (o q : ℕ) (r : Place) → IsStrictlySortedBy nat_cmp (keys_of rows) → lookup (is_at (nat_cmp q)) (remove_entry (is_at (nat_cmp o)) rows) ≡ Some r → lookup (is_at (nat_cmp q)) rows ≡ Some r
found-left rows o q r s is = go (is_at (nat_cmp o) q) (sym (find-remove rows o q s) ∙ is)
  where
    go : (t : Bool) → cond t None (lookup (is_at (nat_cmp q)) rows) ≡ Some r → lookup (is_at (nat_cmp q)) rows ≡ Some r
    go true found = absurd (none_is_some found)
    go false found = found

-- no row: any list
pub covers-none : (key : Place → ℕ) (b : ℕ) (list : List ℕ) → Covers key b list []
covers-none key b list o r is same = absurd (none_is_some is)

-- a block that has no object: any list, so that its own may be dropped
pub covers-empty : (key : Place → ℕ) (b : ℕ) (rows : List (ℕ × Place)) (list : List ℕ) → objects_of key b rows ≡ [] → Covers key b list rows
covers-empty key b rows list none o r is same =
    absurd (subst (λ os. Has os o) none (counts-object key b rows o (row-counts key b rows o r is same)))

-- a row comes, or changes: its object is appended to the list of the block that the row names, and nothing is done at the
-- block that an older row named
pub covers-with : (key : Place → ℕ) (b : ℕ) (rows : List (ℕ × Place)) (list : List ℕ) (o : ℕ) (w : Place) → Covers key b list rows → Covers key b (appended (key w) b list o) (insert_entry nat_cmp rows o w)
covers-with key b rows list o w covers = covers-but_one key b rows (insert_entry nat_cmp rows o w) list o w (found-written rows o w) covers

-- a row changes, and names the block that it named: nothing is appended
pub covers-kept : (key : Place → ℕ) (b : ℕ) (rows : List (ℕ × Place)) (list : List ℕ) (o : ℕ) (r w : Place) → lookup (is_at (nat_cmp o)) rows ≡ Some r → key w ≡ key r → Covers key b list rows → Covers key b list (insert_entry nat_cmp rows o w)
covers-kept key b rows list o r w was kept covers q x is same = go (found-written rows o w q x is)
  where
    go : (lookup (is_at (nat_cmp q)) rows ≡ Some x) ⊎ ((q ≡ o) × (x ≡ w)) → Contains list q
    go (inl old) = covers q x old same
    go (inr new) = subst (λ z. Contains list z) (sym new.0) (covers o r was (sym kept ∙ (ap key (sym new.1) ∙ same)))

-- a row leaves: nothing is done
pub covers-without : (key : Place → ℕ) (b : ℕ) (rows : List (ℕ × Place)) (list : List ℕ) (o : ℕ) → IsStrictlySortedBy nat_cmp (keys_of rows) → Covers key b list rows → Covers key b list (remove_entry (is_at (nat_cmp o)) rows)
covers-without key b rows list o s = covers-fewer key b rows (remove_entry (is_at (nat_cmp o)) rows) list (λ q r is. found-left rows o q r s is)

pub home-named : (b : ℕ) (r : Place) → r.home ≡ b → names_block b (Some r) ≡ true
home-named b r same = rw (eq-eqb r.home b same) refl

pub place-named : (b : ℕ) (r : Place) → r.place ≡ b → names_block b (Some r) ≡ true
place-named b r same = by_test (nat_eq r.home b) (λ h. rw h refl) (λ h. rw (h, eq-eqb r.place b same) refl)

-- a list whose entries are those that a test keeps, sorted and without doubles, where the test keeps what counts
pub covers-settled : (key : Place → ℕ) (b : ℕ) (rows : List (ℕ × Place)) (list sorted : List ℕ) (test : Option Place → Bool) → ((r : Place) → key r ≡ b → test (Some r) ≡ true)
    → IsPermutation (filter (λ o. test (lookup (is_at (nat_cmp o)) rows)) list) sorted → Covers key b list rows → Covers key b (dedup nat_eq sorted) rows
covers-settled key b rows list sorted test keeps moved covers o r is same =
    let p : ℕ → Bool = λ o. test (lookup (is_at (nat_cmp o)) rows) in
    let kept : Contains (filter p list) o = contains_filter p list o (covers o r is same) (ap test is ∙ keeps r same) in
    Contains-dedup_nat sorted o (Contains-permutation (filter p list) sorted o moved kept)

nothing_rises : IsStrictlySortedBy nat_cmp []
unfolding IsStrictlySortedBy
nothing_rises = tt

-- a block that an empty list covers has no object
pub objects-nothing : (key : Place → ℕ) (b : ℕ) (rows : List (ℕ × Place)) → IsStrictlySortedBy nat_cmp (keys_of rows) → Covers key b [] rows → objects_of key b rows ≡ []
objects-nothing key b rows s covers = sym (objects-covered key b rows [] [] s covers nothing_rises (λ o h. h) (λ o h. h))
