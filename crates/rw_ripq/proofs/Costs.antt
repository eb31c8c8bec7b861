-- What the rows of the old state cost: four marks for one that left, three for one put again.
use Rattle.std.proofs.Common.{◌≡◌, ℕ, ◌+◌, ◌*◌, ◌≤◌, List, [], ◌∷◌, refl, sym, ap, subst, ◌∙◌, arith, Bool, true, false, cond, nat_eq, ◌⊎◌, inl, inr}
use Rattle.std.specs.Prelude.{Option, Some, None, sum_by, count_by, not}
use Rattle.std.specs.Ordering.{nat_cmp}
use Rattle.std.specs.FinMap.{nat_cmp-IsAntisymmetric}
use Rattle.std.specs.Map.{lookup, keys_of}
use Rattle.std.specs.BTreeMap.{insert_entry, is_at as is_key}
use Rattle.std.proofs.lemmas.Bool.{eq-eqb, ne_eqb, eqb-true, eqb-false}
use Rattle.std.proofs.lemmas.List.Sums.{sum_by-cons}
use Rattle.rw_blocks.specs.Loose.{IsLoose}
use Rattle.rw_blocks.specs.Primitives.{after_remove}
use Rattle.rw_blocks.specs.State.{QueueState, row_at}
use Rattle.rw_blocks.specs.declared.Place.{Place}
use Rattle.rw_blocks.proofs.Entries.{by_cases, lookup-insert_entry, lookup-remove_entry}
use Rattle.rw_ripq.proofs.Basics.{by_bool, none_some, some_is}
use Rattle.rw_ripq.proofs.Falls.{sum-le}
use Rattle.rw_ripq.proofs.Folds.{Reput, reinsert-row}
use Rattle.rw_ripq.proofs.Lookups.{lookup-insert_other, lookup-remove_other}
use Rattle.rw_ripq.proofs.Walks.{Keeps, left_one}
use Rattle.rw_ripq.specs.Evict.{objects_homed, reinsert}
use Rattle.rw_ripq.specs.Victim.{IsVictim}
use Rattle.rw_ripq.specs.Weight.{has_left_home, moved_rows}
use Rattle.rw_ripq.specs.Work.{Work}

abbrev pub price : Option Place → Option Place → ℕ
price None now = 0
price (Some r) None = 4
price (Some r) (Some s) = cond (nat_eq r.home s.home) 0 3

abbrev pub cost : QueueState → QueueState → ℕ
cost old now = sum_by (λ o. price (row_at old o) (row_at now o)) (keys_of old.rows)

abbrev pub absent : Option Place → ℕ
absent None = 1
absent (Some r) = 0

three : (t : Bool) → cond t 0 3 ≤ 3
three true = omega arith
three false = omega arith

pub price-none : (a b : Option Place) → price a b ≤ price a None
price-none None b = omega arith
price-none (Some r) None = omega arith
price-none (Some r) (Some s) = omega (arith, three (nat_eq r.home s.home))

moved-three : (t : Bool) → cond t 0 3 ≤ 4 * cond (not t) 1 0
moved-three true = omega arith
moved-three false = omega arith

price-moved : (a b : Option Place) → price a b ≤ 4 * cond (has_left_home a b) 1 0
price-moved None b = omega arith
price-moved (Some r) None = omega arith
price-moved (Some r) (Some s) = moved-three (nat_eq r.home s.home)

sum-four : (f : ℕ → ℕ) (p : ℕ → Bool) (xs : List ℕ) → ((x : ℕ) → f x ≤ 4 * cond (p x) 1 0) → sum_by f xs ≤ 4 * count_by p xs
sum-four f p [] le = omega arith
sum-four f p (x ∷ xs) le = omega (arith, sum_by-cons f x xs, sum_by-cons (λ x. cond (p x) 1 0) x xs, le x, sum-four f p xs le)

pub cost-moved : (old now : QueueState) → cost old now ≤ 4 * moved_rows old now
cost-moved old now = sum-four (λ o. price (row_at old o) (row_at now o)) (λ o. has_left_home (row_at old o) (row_at now o)) (keys_of old.rows) (λ o. price-moved (row_at old o) (row_at now o))

-- a sum over the keys that rises at a key that is there
pub key-sum : (f g : ℕ → ℕ) (es : List (ℕ × Place)) (o : ℕ) (p : Place) (d : ℕ) → lookup (is_key (nat_cmp o)) es ≡ Some p → ((x : ℕ) → f x ≤ g x) → f o + d ≤ g o → sum_by f (keys_of es) + d ≤ sum_by g (keys_of es)
key-sum f g [] o p d is le up = absurd (none is)
  where
    none : None ≡ Some p → ⊥
    none e = cc
key-sum f g (e ∷ es) o p d is le up =
    by_cases (nat_cmp o e.0)
    (λ h. omega (arith, sum_by-cons f e.0 (keys_of es), sum_by-cons g e.0 (keys_of es), le e.0, key-sum f g es o p d (rw h at is) le up))
    (λ h. (let up' : f e.0 + d ≤ g e.0 = rw (nat_cmp-IsAntisymmetric o e.0 h) at up in omega (arith, sum_by-cons f e.0 (keys_of es), sum_by-cons g e.0 (keys_of es), up', sum-le f g (keys_of es) le)))
    (λ h. omega (arith, sum_by-cons f e.0 (keys_of es), sum_by-cons g e.0 (keys_of es), le e.0, key-sum f g es o p d (rw h at is) le up))

-- ---- the rows after a write and after a removal
pub look-put : (q q' : QueueState) (o : ℕ) (new : Place) → q'.rows ≡ insert_entry nat_cmp q.rows o new → (x : ℕ) → ((o ≡ x) × (row_at q' x ≡ Some new)) ⊎ ((o ≡ x → ⊥) × (row_at q' x ≡ row_at q x))
look-put q q' o new rows x =
    by_bool (nat_eq o x)
    (λ t. (let e : o ≡ x = eqb-true o x t in inl (e, ap (lookup (is_key (nat_cmp x))) rows ∙ subst (λ y. lookup (is_key (nat_cmp y)) (insert_entry nat_cmp q.rows o new) ≡ Some new) e (lookup-insert_entry q.rows o new))))
    (λ f. (let ne : o ≡ x → ⊥ = eqb-false o x f in inr (ne, ap (lookup (is_key (nat_cmp x))) rows ∙ lookup-insert_other q.rows o x new ne)))

pub look-out : (q : QueueState) (o : ℕ) → IsLoose q → (x : ℕ) → ((o ≡ x) × (row_at (after_remove q o) x ≡ None)) ⊎ ((o ≡ x → ⊥) × (row_at (after_remove q o) x ≡ row_at q x))
look-out q o loose x =
    by_bool (nat_eq o x)
    (λ t. (let e : o ≡ x = eqb-true o x t in inl (e, subst (λ y. row_at (after_remove q o) y ≡ None) e (lookup-remove_entry q.rows o loose.ordered))))
    (λ f. (let ne : o ≡ x → ⊥ = eqb-false o x f in inr (ne, lookup-remove_other q.rows o x ne)))

-- ---- what the counts so far are paid by
-- k is the object that the insertion puts
pub record IsPaid (old : QueueState) (k : ℕ) (w : Work) : Type 0 where
  pub known : (o : ℕ) (r : Place) → row_at w.queue o ≡ Some r → (o ≡ k) ⊎ ((p : Place) × (row_at old o ≡ Some p))
  pub settled : (o : ℕ) (r : Place) → row_at w.queue o ≡ Some r → (r.place ≡ r.home) ⊎ ((p : Place) × (row_at old o ≡ Some p) × (p.home ≡ r.home))
  pub paid : w.tally.evicted + 3 * w.tally.reinserted ≤ cost old w.queue + absent (row_at w.queue k)

absent-some : (a : Option Place) (r : Place) → a ≡ Some r → absent a ≡ 0
absent-some a r e = rw e refl

absent-none : (a : Option Place) → a ≡ None → absent a ≡ 1
absent-none a e = rw e refl

pub absent-top : (a : Option Place) → absent a ≤ 1
absent-top None = omega arith
absent-top (Some r) = omega arith

price-same : (a b c : Option Place) → b ≡ c → price a b ≤ price a c
price-same a b c e = rw e (omega arith)

leaves-paid : (old : QueueState) (k : ℕ) (w : Work) (o : ℕ) (r : Place) → IsLoose w.queue → row_at w.queue o ≡ Some r → IsPaid old k w → IsPaid old k (left_one w o)
leaves-paid old k w o r loose is g =
    let q : QueueState = w.queue in
    let q' : QueueState = after_remove q o in
    let look = look-out q o loose in
    let back : (x : ℕ) (s : Place) → row_at q' x ≡ Some s → row_at q x ≡ Some s = λ x s h. elim (look x) [ inl e ↦ absurd (none_some (sym e.1 ∙ h)) | inr e ↦ sym e.1 ∙ h ] in
    let f : ℕ → ℕ = λ x. price (row_at old x) (row_at q x) in
    let f' : ℕ → ℕ = λ x. price (row_at old x) (row_at q' x) in
    let le : (x : ℕ) → f x ≤ f' x = λ x. elim (look x) [
      | inl e ↦ subst (λ a. price (row_at old x) (row_at q x) ≤ price (row_at old x) a) (sym e.1) (price-none (row_at old x) (row_at q x))
      | inr e ↦ price-same (row_at old x) (row_at q x) (row_at q' x) (sym e.1)
    ] in
    let gone : row_at q' o ≡ None = lookup-remove_entry q.rows o loose.ordered in
    let more : absent (row_at q k) ≤ absent (row_at q' k) = elim (look k) [
      | inl e ↦ omega (arith, absent-top (row_at q k), absent-none (row_at q' k) e.1)
      | inr e ↦ rw e.1 (omega arith)
    ] in
    record {
      known = λ x s h. g.known x s (back x s h);
      settled = λ x s h. g.settled x s (back x s h);
      paid = elim (g.known o r is) [
        | inl e ↦ (
            let now : absent (row_at q k) ≡ 0 = subst (λ y. absent (row_at q y) ≡ 0) e (absent-some (row_at q o) r is) in
            let then : absent (row_at q' k) ≡ 1 = subst (λ y. absent (row_at q' y) ≡ 1) e (absent-none (row_at q' o) gone) in
            omega (arith, g.paid, now, then, sum-le f f' (keys_of old.rows) le))
        | inr p ↦ (
            let a : f o ≤ 3 = rw (p.1, is) (three (nat_eq p.0.home r.home)) in
            let b : f' o ≡ 4 = rw (p.1, gone) refl in
            omega (arith, g.paid, more, key-sum f f' old.rows o p.0 1 p.1 le (omega (arith, a, b))))
      ];
    }

reputs-paid : (old : QueueState) (k : ℕ) (w : Work) (b o : ℕ) (r : Place) (os : List ℕ) → IsVictim b w.queue → objects_homed w.queue b ≡ o ∷ os → row_at w.queue o ≡ Some r → r.home ≡ b → IsPaid old k w → IsPaid old k (reinsert w o)
reputs-paid old k w b o r os v homed is home g =
    let q : QueueState = w.queue in
    let q' : QueueState = (reinsert w o).queue in
    let c : Reput b q q' o r = reinsert-row q b o r os v homed is home in
    let look = look-put q q' o c.new c.rows in
    let apart : r.place ≡ r.home → ⊥ = c.apart in
    let p : (p : Place) × (row_at old o ≡ Some p) × (p.home ≡ r.home) = elim (g.settled o r is) [ inl e ↦ absurd (apart e) | inr p ↦ p ] in
    let f : ℕ → ℕ = λ x. price (row_at old x) (row_at q x) in
    let f' : ℕ → ℕ = λ x. price (row_at old x) (row_at q' x) in
    let zero-o : f o ≡ 0 = rw (p.1, is, eq-eqb p.0.home r.home p.2) refl in
    let now : row_at q' o ≡ Some c.new = elim (look o) [ inl e ↦ e.1 | inr e ↦ absurd (e.0 refl) ] in
    let away : p.0.home ≡ c.new.home → ⊥ = λ e. c.away (sym e ∙ p.2 ∙ home) in
    let three-o : f' o ≡ 3 = rw (p.1, now, ne_eqb p.0.home c.new.home away) refl in
    let le : (x : ℕ) → f x ≤ f' x = λ x. elim (look x) [
      | inl e ↦ subst (λ y. f y ≤ f' y) e.0 (omega (arith, zero-o))
      | inr e ↦ price-same (row_at old x) (row_at q x) (row_at q' x) (sym e.1)
    ] in
    let more : absent (row_at q k) ≤ absent (row_at q' k) = elim (look k) [
      | inl e ↦ (let z : absent (row_at q k) ≡ 0 = subst (λ y. absent (row_at q y) ≡ 0) e.0 (absent-some (row_at q o) r is) in omega (arith, z))
      | inr e ↦ rw e.1 (omega arith)
    ] in
    record {
      known = λ x s h. elim (look x) [
        | inl e ↦ subst (λ y. (y ≡ k) ⊎ ((p : Place) × (row_at old y ≡ Some p))) e.0 (g.known o r is)
        | inr e ↦ g.known x s (sym e.1 ∙ h)
      ];
      settled = λ x s h. elim (look x) [
        | inl e ↦ (let same : c.new ≡ s = some_is (sym e.1 ∙ h) in inl (subst (λ y. y.place ≡ y.home) same c.settled))
        | inr e ↦ g.settled x s (sym e.1 ∙ h)
      ];
      paid = omega (arith, g.paid, more, key-sum f f' old.rows o p.0 3 p.1 le (omega (arith, zero-o, three-o)));
    }

pub keeps-paid : (old : QueueState) (k : ℕ) → Keeps (IsPaid old k)
keeps-paid old k =
    record {
      leaves = λ w e o r loose last is at g. leaves-paid old k w o r loose is g;
      reputs = λ w b o r os v homed is home g. reputs-paid old k w b o r os v homed is home g;
      outs = λ w b loose some free g. record { known = g.known; settled = g.settled; paid = g.paid };
    }
