-- How the bytes and the lists of the blocks follow the rows.
use Rattle.std.proofs.Common.{◌≡◌, ℕ, zero, suc, ◌+◌, ◌≤◌, List, [], ◌∷◌, length, refl, sym, ap, ◌∙◌, arith, Bool, true, false, cond, nat_eq, subst}
use Rattle.std.specs.Prelude.{Some, None, filter, All}
use Rattle.std.specs.Ordering.{nat_cmp}
use Rattle.std.specs.Cmp.{nat_cmp_total}
use Rattle.std.specs.List.{Contains}
use Rattle.std.specs.List.Sorted.{IsStrictlySortedBy}
use Rattle.std.specs.Map.{lookup, remove_entry, keys_of, values_of}
use Rattle.std.specs.BTreeMap.{insert_entry, is_at}
use Rattle.std.proofs.lemmas.Map.Entries.{sum_by-insert_entry, sum_by-remove_entry}
use Rattle.std.proofs.lemmas.List.{nil_from_length}
use Rattle.std.proofs.lemmas.List.Sums.{sum_by-cons}
use Rattle.std.proofs.lemmas.List.Elements.{All-head, All-tail}
use Rattle.std.proofs.lemmas.Bool.{eq-eqb, ne_eqb, eqb-true}
use Rattle.rw_blocks.specs.declared.Place.{Place}
use Rattle.rw_blocks.specs.declared.lists.Lists.{Lists}
use Rattle.rw_blocks.specs.Index.{weight_of, bytes_of, objects_of, home_of, place_of}
use Rattle.rw_blocks.specs.Covering.{Covers, appended}
use Rattle.rw_blocks.specs.Lists.{list_in, homed_in, placed_in, Gains, Loses, SameBytes, Same, Appends, HasCome, Stays, Grows, StaysCovered, IsFiled, IsListed, SameRows}
use Rattle.rw_blocks.proofs.Entries.{by_test, lookup-insert_entry, remove_entry-insert_entry, sorted-insert_entry}
use Rattle.rw_blocks.proofs.Covering.{covers-with, covers-without, covers-kept, covers-empty, covers-wider, appended-within, contains-appended, appended-contains}

-- where each row has some bytes, a block has no more objects than bytes
pub length-le-bytes : (key : Place → ℕ) (b : ℕ) (rows : List (ℕ × Place)) → All (λ r. 1 ≤ r.size) (values_of rows) → length (objects_of key b rows) ≤ bytes_of key b rows
length-le-bytes key b [] all = omega arith
length-le-bytes key b (e ∷ es) all =
    let here : 1 ≤ e.1.size = All-head (λ r. 1 ≤ r.size) e.1 (values_of es) all in
    let rest = length-le-bytes key b es (All-tail (λ r. 1 ≤ r.size) e.1 (values_of es) all) in
    let weights = sum_by-cons (weight_of key b) e.1 (values_of es) in
    let one : length (objects_of key b (e ∷ es)) ≤ weight_of key b e.1 + length (objects_of key b es) = part (nat_eq (key e.1) b) e.1.size here in
    omega (arith, rest, weights, one)
  where
    part : (t : Bool) (n : ℕ) → 1 ≤ n → length (keys_of (cond t (e ∷ filter (λ x. nat_eq (key x.1) b) es) (filter (λ x. nat_eq (key x.1) b) es))) ≤ cond t n 0 + length (objects_of key b es)
    part true n h = omega (arith, h)
    part false n h = omega arith

none-there : (key : Place → ℕ) (b : ℕ) (rows : List (ℕ × Place)) → All (λ r. 1 ≤ r.size) (values_of rows) → bytes_of key b rows ≡ 0 → objects_of key b rows ≡ []
none-there key b rows all none = nil_from_length (objects_of key b rows) (omega (arith, length-le-bytes key b rows all, none))

-- a block's list has what it had, or the block has no row
grown-or-none : (key : Place → ℕ) (b : ℕ) (rows : List (ℕ × Place)) (list old : List ℕ) (n : ℕ) → All (λ r. 1 ≤ r.size) (values_of rows) → n ≡ bytes_of key b rows
    → (1 ≤ n → (o : ℕ) → Contains old o → Contains list o) → Covers key b old rows → Covers key b list rows
grown-or-none key b rows list old n all is kept covers = go n is kept
  where
    go : (k : ℕ) → k ≡ bytes_of key b rows → (1 ≤ k → (o : ℕ) → Contains old o → Contains list o) → Covers key b list rows
    go zero is has = covers-empty key b rows list (none-there key b rows all (sym is))
    go (suc k) is has = covers-wider key b rows old list (has (omega arith)) covers

pub stays-grows : (f : ℕ → ℕ) (m n : Lists) → Stays f m n → Grows f m n
stays-grows f m n stays c some o h = subst (λ l. Contains l o) (sym (stays c some)) h

-- the rows are the same
pub Follows-same : (key : Place → ℕ) (rows : List (ℕ × Place)) (f g : ℕ → ℕ) (m n : Lists) → All (λ r. 1 ≤ r.size) (values_of rows) → IsFiled key rows f m → SameBytes f g → Grows g m n → IsFiled key rows g n
Follows-same key rows f g m n all h same grows =
    let bytes : (b : ℕ) → g b ≡ bytes_of key b rows = λ b. same b ∙ h.bytes b in
    record {
      bytes = bytes;
      covers = λ b. grown-or-none key b rows (list_in n b) (list_in m b) (g b) all (bytes b) (grows b) (h.covers b);
    }

pub Follows-covered : (key : Place → ℕ) (rows : List (ℕ × Place)) (f g : ℕ → ℕ) (m n : Lists) → IsFiled key rows f m → SameBytes f g → StaysCovered key rows m n → IsFiled key rows g n
Follows-covered key rows f g m n h same covered = record { bytes = λ b. same b ∙ h.bytes b; covers = λ b. covered b (h.covers b) }

-- a row comes
pub Follows-insert : (key : Place → ℕ) (rows : List (ℕ × Place)) (f g : ℕ → ℕ) (m n : Lists) (o : ℕ) (r : Place) → IsStrictlySortedBy nat_cmp (keys_of rows) → lookup (is_at (nat_cmp o)) rows ≡ None
    → IsFiled key rows f m
    → Gains f g (key r) r.size
    → ((c q : ℕ) → Contains (list_in m c) q → Contains (list_in n c) q)
    → Contains (list_in n (key r)) o
    → IsFiled key (insert_entry nat_cmp rows o r) g n
Follows-insert key rows f g m n o r s none h bytes kept has =
    record {
      bytes = λ b.
          let sum = rw none at (sum_by-insert_entry (weight_of key b) nat_cmp_total rows o r s) in
          omega (arith, bytes b, h.bytes b, sum);
      covers = λ b.
          covers-wider key b (insert_entry nat_cmp rows o r) (appended (key r) b (list_in m b) o) (list_in n b)
          (appended-within (key r) b (list_in m b) (list_in n b) o (kept b) (λ same. subst (λ x. Contains (list_in n x) o) same has))
          (covers-with key b rows (list_in m b) o r (h.covers b));
    }

-- a row leaves
pub Follows-remove : (key : Place → ℕ) (rows : List (ℕ × Place)) (f g : ℕ → ℕ) (m n : Lists) (o : ℕ) (r : Place) → IsStrictlySortedBy nat_cmp (keys_of rows) → lookup (is_at (nat_cmp o)) rows ≡ Some r
    → All (λ r. 1 ≤ r.size) (values_of (remove_entry (is_at (nat_cmp o)) rows))
    → IsFiled key rows f m
    → Loses f g (key r) r.size
    → Stays g m n
    → IsFiled key (remove_entry (is_at (nat_cmp o)) rows) g n
Follows-remove key rows f g m n o r s is all h loses stays =
    let bytes : (b : ℕ) → g b ≡ bytes_of key b (remove_entry (is_at (nat_cmp o)) rows) = λ b.
    let sum = rw is at (sum_by-remove_entry (weight_of key b) (is_at (nat_cmp o)) rows) in
    omega (arith, loses b, h.bytes b, sum) in
    record {
      bytes = bytes;
      covers = λ b. grown-or-none key b (remove_entry (is_at (nat_cmp o)) rows) (list_in n b) (list_in m b) (g b) all (bytes b) (stays-grows g m n stays b) (covers-without key b rows (list_in m b) o s (h.covers b));
    }

-- what came is taken back
pub Follows-back : (key : Place → ℕ) (rows : List (ℕ × Place)) (f g : ℕ → ℕ) (m n : Lists) (o : ℕ) (r : Place) → IsStrictlySortedBy nat_cmp (keys_of rows) → lookup (is_at (nat_cmp o)) rows ≡ None
    → All (λ r. 1 ≤ r.size) (values_of rows)
    → IsFiled key (insert_entry nat_cmp rows o r) f m
    → Loses f g (key r) r.size
    → Stays g m n
    → IsFiled key rows g n
Follows-back key rows f g m n o r s none all h loses stays =
    let same = remove_entry-insert_entry rows o r none in
    let all' : All (λ r. 1 ≤ r.size) (values_of (remove_entry (is_at (nat_cmp o)) (insert_entry nat_cmp rows o r))) = subst (λ (rs : List (ℕ × Place)). All (λ r. 1 ≤ r.size) (values_of rs)) (sym same) all in
    subst (λ (rs : List (ℕ × Place)). IsFiled key rs g n) same (Follows-remove key (insert_entry nat_cmp rows o r) f g m n o r (sorted-insert_entry rows o r s) (lookup-insert_entry rows o r) all' h loses stays)

-- a row changes, and its key does not
pub Follows-kept : (key : Place → ℕ) (rows : List (ℕ × Place)) (f : ℕ → ℕ) (m : Lists) (o : ℕ) (r w : Place) → IsStrictlySortedBy nat_cmp (keys_of rows) → lookup (is_at (nat_cmp o)) rows ≡ Some r → key w ≡ key r → w.size ≡ r.size
    → IsFiled key rows f m → IsFiled key (insert_entry nat_cmp rows o w) f m
Follows-kept key rows f m o r w s is same size h =
    record {
      bytes = λ b.
          let sum = rw is at (sum_by-insert_entry (weight_of key b) nat_cmp_total rows o w s) in
          let weight : weight_of key b w ≡ weight_of key b r = ap (λ k. cond (nat_eq k b) w.size 0) same ∙ ap (λ n. cond (nat_eq (key r) b) n 0) size in
          omega (arith, h.bytes b, sum, weight);
      covers = λ b. covers-kept key b rows (list_in m b) o r w is same (h.covers b);
    }

-- a row changes, and so does its key
pub Follows-moved : (key : Place → ℕ) (rows : List (ℕ × Place)) (f g k : ℕ → ℕ) (m n l : Lists) (o : ℕ) (r w : Place) → IsStrictlySortedBy nat_cmp (keys_of rows) → lookup (is_at (nat_cmp o)) rows ≡ Some r → w.size ≡ r.size
    → All (λ r. 1 ≤ r.size) (values_of (insert_entry nat_cmp rows o w))
    → IsFiled key rows f m
    → Gains f g (key w) r.size
    → Appends m n (key w) o
    → Loses g k (key r) r.size
    → Stays k n l
    → IsFiled key (insert_entry nat_cmp rows o w) k l
Follows-moved key rows f g k m n l o r w s is size all h gains appends loses stays =
    let bytes : (b : ℕ) → k b ≡ bytes_of key b (insert_entry nat_cmp rows o w) = λ b.
    let sum = rw is at (sum_by-insert_entry (weight_of key b) nat_cmp_total rows o w s) in
    let weight : weight_of key b w ≡ cond (nat_eq (key w) b) r.size 0 = ap (λ n. cond (nat_eq (key w) b) n 0) size in
    omega (arith, h.bytes b, gains b, loses b, sum, weight) in
    record {
      bytes = bytes;
      covers = λ b.
          grown-or-none key b (insert_entry nat_cmp rows o w) (list_in l b) (appended (key w) b (list_in m b) o) (k b) all (bytes b)
          (λ some q had. subst (λ x. Contains x q) (sym (stays b some ∙ appends b)) had)
          (covers-with key b rows (list_in m b) o w (h.covers b));
    }

-- ---- a row comes to the lists of its home and of its place
pub come-once : (m n : Lists) (o : ℕ) (r : Place) → r.home ≡ r.place → Appends m n r.home o → HasCome m n o r
come-once m n o r same a =
    let here : Contains (list_in n r.home) o = subst (λ l. Contains l o) (sym (a r.home)) (appended-contains r.home r.home (list_in m r.home) o refl) in
    record {
      kept = λ c q h. subst (λ l. Contains l q) (sym (a c)) (contains-appended r.home c (list_in m c) o q h);
      home = here;
      place = subst (λ x. Contains (list_in n x) o) same here;
    }

pub come-twice : (m n k : Lists) (o : ℕ) (r : Place) → Appends m n r.home o → Appends n k r.place o → HasCome m k o r
come-twice m n k o r a b =
    record {
      kept = λ c q h. subst (λ l. Contains l q) (sym (b c)) (contains-appended r.place c (list_in n c) o q (subst (λ l. Contains l q) (sym (a c)) (contains-appended r.home c (list_in m c) o q h)));
      home = subst (λ l. Contains l o) (sym (b r.home)) (contains-appended r.place r.home (list_in n r.home) o o (subst (λ l. Contains l o) (sym (a r.home)) (appended-contains r.home r.home (list_in m r.home) o refl)));
      place = subst (λ l. Contains l o) (sym (b r.place)) (appended-contains r.place r.place (list_in n r.place) o refl);
    }

pub part-le : (t : Bool) (n : ℕ) → cond t n 0 ≤ n
part-le true n = omega arith
part-le false n = omega arith

-- ---- no bytes are no row
nothing-weighs : (key : Place → ℕ) (b : ℕ) (rows : List (ℕ × Place)) → length (objects_of key b rows) ≡ 0 → bytes_of key b rows ≡ 0
nothing-weighs key b [] none = refl
nothing-weighs key b (e ∷ es) none = go (nat_eq (key e.1) b) refl none (nothing-weighs key b es)
  where
    go : (t : Bool) → nat_eq (key e.1) b ≡ t → length (keys_of (cond t (e ∷ filter (λ x. nat_eq (key x.1) b) es) (filter (λ x. nat_eq (key x.1) b) es))) ≡ 0 → (length (objects_of key b es) ≡ 0 → bytes_of key b es ≡ 0) → bytes_of key b (e ∷ es) ≡ 0
    go true is h rest = absurd (omega (arith, h))
    go false is h rest =
        let one : weight_of key b e.1 ≡ 0 = rw is refl in
        omega (arith, sum_by-cons (weight_of key b) e.1 (values_of es), one, rest h)

pub none-weighs : (key : Place → ℕ) (b : ℕ) (rows : List (ℕ × Place)) → All (λ r. 1 ≤ r.size) (values_of rows) → nat_eq (bytes_of key b rows) 0 ≡ nat_eq (length (objects_of key b rows)) 0
none-weighs key b rows all =
    by_test (nat_eq (length (objects_of key b rows)) 0)
    (λ h. eq-eqb (bytes_of key b rows) 0 (nothing-weighs key b rows (eqb-true (length (objects_of key b rows)) 0 h)) ∙ sym h)
    (λ h. ne_eqb (bytes_of key b rows) 0 (λ e. some (nat_eq (length (objects_of key b rows)) 0) h (eq-eqb (length (objects_of key b rows)) 0 (omega (arith, e, length-le-bytes key b rows all)))) ∙ sym h)
  where
    some : (t : Bool) → t ≡ false → t ≡ true → ⊥
    some t false_is true_is = cc

-- ---- a row that moves leaves its home as it was
pub same-grows : (f : ℕ → ℕ) (m n : Lists) → ((c : ℕ) → list_in n c ≡ list_in m c) → Grows f m n
same-grows f m n same c some q h = subst (λ l. Contains l q) (sym (same c)) h

pub moved-grows : (f : ℕ → ℕ) (m n k : Lists) (b o : ℕ) → Appends m n b o → Stays f n k → Grows f m k
moved-grows f m n k b o appends stays c some q h = subst (λ l. Contains l q) (sym (stays c some ∙ appends c)) (contains-appended b c (list_in m c) o q h)

nothing-more : (t : Bool) (n : ℕ) → n ≡ 0 → cond t n 0 ≡ 0
nothing-more true n is = is
nothing-more false n is = refl

pub same-bytes : (f g h : ℕ → ℕ) (a b : ℕ) → Gains f g a 0 → Loses g h b 0 → SameBytes f h
same-bytes f g h a b gains loses c = omega (arith, gains c, loses c, nothing-more (nat_eq a c) 0 refl, nothing-more (nat_eq b c) 0 refl)

pub Gains-own : (f g : ℕ → ℕ) (b z : ℕ) → Gains f g b z → g b ≡ f b + z
Gains-own f g b z gains = gains b ∙ ap (λ t. f b + cond t z 0) (eq-eqb b b refl)

-- ---- nothing changes
pub IsListed-same : (rows : List (ℕ × Place)) (m n : Lists) (t : ℕ) → IsListed rows m t → Same m n → IsListed rows n t
IsListed-same rows m n t h same =
    record {
      homed = Follows-same home_of rows (homed_in m) (homed_in n) m n h.sized h.homed same.homed (same-grows (homed_in n) m n same.list);
      placed = Follows-same place_of rows (placed_in m) (placed_in n) m n h.sized h.placed same.placed (same-grows (placed_in n) m n same.list);
      whole = h.whole;
      ordered = h.ordered;
      sized = h.sized;
    }

-- a row that came half-way and left again: its bytes are gone, and each list has all that it had
pub taken-back : (m n k l : Lists) (b o z : ℕ)
    → Gains (homed_in m) (homed_in n) b z → Gains (placed_in m) (placed_in n) b 0 → Appends m n b o
    → Same n k
    → Loses (homed_in k) (homed_in l) b z → Loses (placed_in k) (placed_in l) b 0 → Stays (homed_in l) k l → Stays (placed_in l) k l
    → SameRows m l
taken-back m n k l b o z homed placed list same homed_left placed_left homes places =
    record {
      homed = λ c. omega (arith, homed c, same.homed c, homed_left c);
      placed = λ c. omega (arith, placed c, same.placed c, placed_left c);
      homes_list = λ c some q h. subst (λ xs. Contains xs q) (sym (homes c some ∙ (same.list c ∙ list c))) (contains-appended b c (list_in m c) o q h);
      places_list = λ c some q h. subst (λ xs. Contains xs q) (sym (places c some ∙ (same.list c ∙ list c))) (contains-appended b c (list_in m c) o q h);
    }
