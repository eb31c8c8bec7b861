-- Each turn of the eviction keeps a loose queue and lowers the measure.
use Rattle.std.proofs.Common.{◌≡◌, ℕ, ◌≤◌, ◌<◌, List, [], ◌∷◌, refl, sym, ap, subst, ◌∙◌, arith, Bool, true, false, cond, get_or, nat_eq, ◌⊎◌, inl, inr}
use Rattle.std.specs.Prelude.{Option, Some, None, All, ◌&&◌, fold, filter, sum_by, count_by}
use Rattle.std.specs.List.{AllByRecursion}
use Rattle.std.specs.List.Sorted.{IsStrictlySortedBy}
use Rattle.std.specs.Ordering.{nat_cmp, ordering_reverse}
use Rattle.std.specs.declared.cmp.Ordering.TheVariants.{Greater}
use Rattle.std.specs.Cmp.{nat_cmp_total, tied_itself}
use Rattle.std.specs.Map.{values_of, keys_of, remove_entry}
use Rattle.std.specs.BTreeMap.{is_at as is_key}
use Rattle.std.proofs.lemmas.Bool.{eq-eqb, eqb-false, ltb-true}
use Rattle.std.proofs.lemmas.Map.Keys.{sorted_head, sorted_tail}
use Rattle.std.proofs.lemmas.List.Sums.{sum_by-cons}
use Rattle.std.proofs.lemmas.List.Elements.{All-from_recursion}
use Rattle.rw_blocks.proofs.Cited.{IsLoose-after_remove, IsLoose-after_take_out, at_block, count_in-cons}
use Rattle.rw_blocks.specs.Loose.{IsFree, IsLoose, count, count_in, sealed_devices}
use Rattle.rw_blocks.specs.Primitives.{after_remove}
use Rattle.rw_blocks.specs.Questions.{last_block, last_from, last_or}
use Rattle.rw_blocks.specs.Sections.{SectionState, has_serial, is_kind}
use Rattle.rw_blocks.specs.State.{QueueState}
use Rattle.rw_blocks.specs.declared.Kind.{Kind}
use Rattle.rw_blocks.specs.declared.Kind.TheVariants.{Device, Virtual}
use Rattle.rw_blocks.specs.declared.Place.{Place}
use Rattle.rw_ripq.proofs.Basics.{by_bool}
use Rattle.rw_ripq.proofs.Evictions.{Falls}
use Rattle.rw_ripq.proofs.Folds.{Steps, fold-steps, measure}
use Rattle.rw_ripq.proofs.Measures.{displaced-without_rows, sealed-there, sealed_blocks-without_block, sealed_blocks-without_rows}
use Rattle.rw_ripq.proofs.Turns.{first_above, sealed_count-there}
use Rattle.rw_ripq.specs.Evict.{displaced_rows, evict_block, evict_if_some, is_over, leave, objects_homed, objects_placed, reinsert, without_rows}
use Rattle.rw_ripq.specs.Sealed.{sealed_position, sealed_section, without_block}
use Rattle.rw_ripq.specs.Victim.{IsVictim, in_sealed, sealed_count}
use Rattle.rw_ripq.specs.Work.{Work}

-- ---- the rows that leave
abbrev Test : Type 0
Test = ℕ × Place → Bool

pub others-after_remove : (p : Test) (es : List (ℕ × Place)) (o : ℕ) (os : List ℕ) → IsStrictlySortedBy nat_cmp (keys_of es) → keys_of (filter p es) ≡ o ∷ os
    → keys_of (filter p (remove_entry (is_key (nat_cmp o)) es)) ≡ os
others-after_remove p [] o os s is = absurd (cc)
others-after_remove p (e ∷ es) o os s is =
    by_bool (p e)
    (λ h.
    let same : e.0 ∷ keys_of (filter p es) ≡ o ∷ os = rw h at is in
    let x : o ≡ e.0 = cc in
    let y : keys_of (filter p es) ≡ os = cc in
    rw (x, tied_itself nat_cmp_total e.0) y)
    (λ h.
    let later : keys_of (filter p es) ≡ o ∷ os = rw h at is in
    let above : nat_cmp o e.0 ≡ Greater = nat_cmp_total.antisymm o e.0 ∙ ap ordering_reverse (first_above p es e.0 o os (sorted_head nat_cmp e.0 (keys_of es) s) later) in
    rw (above, h) (others-after_remove p es o os (sorted_tail nat_cmp e.0 (keys_of es) s) later))

pub record Left (b : ℕ) (q : QueueState) (ss : List SectionState) : Type 0 where
  pub loose : IsLoose q
  pub none : objects_placed q b ≡ []
  pub same : q.sections ≡ ss

pub left-without : (os : List ℕ) (q : QueueState) (b : ℕ) → IsLoose q → objects_placed q b ≡ os → Left b (without_rows q os) q.sections
left-without [] q b loose is = record { loose = loose; none = is; same = refl }
left-without (o ∷ os) q b loose is =
    left-without os (after_remove q o) b (IsLoose-after_remove q o loose) (others-after_remove (λ e. nat_eq e.1.place b) q.rows o os loose.ordered is)

none-passes : (t : Place → Bool) (es : List (ℕ × Place)) → keys_of (filter (λ e. t e.1) es) ≡ [] → AllByRecursion (λ r. t r ≡ false) (values_of es)
none-passes t [] is = tt
none-passes t (e ∷ es) is =
    by_bool (t e.1)
    (λ h. let same : e.0 ∷ keys_of (filter (λ e. t e.1) es) ≡ [] = rw h at is in absurd (cc))
    (λ h. (h, none-passes t es (rw h at is)))

pub none-placed : (q : QueueState) (b : ℕ) → objects_placed q b ≡ [] → All (λ r. r.place ≡ b → ⊥) (values_of q.rows)
none-placed q b is k d lt = eqb-false _ b (All-from_recursion (λ (r : Place). nat_eq r.place b ≡ false) (values_of q.rows) (none-passes (λ r. nat_eq r.place b) q.rows is) k d lt)

pub none-homed : (q : QueueState) (b : ℕ) → objects_homed q b ≡ [] → All (λ r. r.home ≡ b → ⊥) (values_of q.rows)
none-homed q b is k d lt = eqb-false _ b (All-from_recursion (λ (r : Place). nat_eq r.home b ≡ false) (values_of q.rows) (none-passes (λ r. nat_eq r.home b) q.rows is) k d lt)

-- ---- the last sealed block is there
is_kind-self : (K : Kind) → is_kind K K ≡ true
is_kind-self Device = refl
is_kind-self Virtual = refl

here : (e : ℕ × Kind) → 1 ≤ at_block e.1 e.0 e
here e = rw (eq-eqb e.0 e.0 refl, is_kind-self e.1) (omega arith)

last_or-there : (o : Option (ℕ × Kind)) (xs : List (ℕ × Kind)) (e : ℕ × Kind) → last_or o xs ≡ Some e → (o ≡ Some e) ⊎ (1 ≤ sum_by (at_block e.1 e.0) xs)
last_or-there o [] e is = inl is
last_or-there o (x ∷ xs) e is = elim (last_or-there (Some x) xs e is) [
  | inl s ↦ (let y : e ≡ x = cc in let z : at_block e.1 e.0 e ≡ at_block e.1 e.0 x = ap (at_block e.1 e.0) y in inr (omega (arith, sum_by-cons (at_block e.1 e.0) x xs, here e, z)))
  | inr c ↦ inr (omega (arith, sum_by-cons (at_block e.1 e.0) x xs, c))
]

abbrev pub sealed_at : ℕ × Kind → SectionState → ℕ
sealed_at e s = sum_by (at_block e.1 e.0) s.sealed

pub last-there : (o : Option (ℕ × Kind)) (ss : List SectionState) (e : ℕ × Kind) → last_from o ss ≡ Some e → (o ≡ Some e) ⊎ (1 ≤ sum_by (sealed_at e) ss)
last-there o [] e is = inl is
last-there o (s ∷ ss) e is = elim (last-there (last_or o s.sealed) ss e is) [
  | inl l ↦ elim (last_or-there o s.sealed e l) [
    | inl x ↦ inl x
    | inr c ↦ inr (omega (arith, sum_by-cons (sealed_at e) s ss, c))
  ]
  | inr c ↦ inr (omega (arith, sum_by-cons (sealed_at e) s ss, c))
]

last_or-none : (o : Option (ℕ × Kind)) (xs : List (ℕ × Kind)) → last_or o xs ≡ None → (o ≡ None) × (xs ≡ [])
last_or-none o [] is = (is, refl)
last_or-none o (x ∷ xs) is = let h = last_or-none (Some x) xs is in let bad : Some x ≡ None = h.0 in absurd (cc)

abbrev devices : SectionState → ℕ
devices s = count_by (λ e. is_kind Device e.1) s.sealed

pub last-none : (o : Option (ℕ × Kind)) (ss : List SectionState) → last_from o ss ≡ None → (o ≡ None) × (sum_by devices ss ≡ 0)
last-none o [] is = (is, refl)
last-none o (s ∷ ss) is =
    let h = last-none (last_or o s.sealed) ss is in
    let k = last_or-none o s.sealed h.0 in
    let z : devices s ≡ 0 = ap (λ bs. count_by (λ (e : ℕ × Kind). is_kind Device e.1) bs) k.1 in
    (k.0, omega (arith, sum_by-cons devices s ss, h.1, z))

-- ---- pointwise
pub sum-le : {X : Type 0} (f g : X → ℕ) (xs : List X) → ((x : X) → f x ≤ g x) → sum_by f xs ≤ sum_by g xs
sum-le f g [] le = omega arith
sum-le f g (x ∷ xs) le = omega (arith, sum_by-cons f x xs, sum_by-cons g x xs, le x, sum-le f g xs le)

pub narrow : (t u : Bool) → cond (t && u) 1 0 ≤ cond t 1 0
narrow true true = omega arith
narrow true false = omega arith
narrow false u = omega arith

pub counted : (q : QueueState) (e : ℕ × Kind) → 1 ≤ sum_by (sealed_at e) q.sections → (1 ≤ sealed_count e.0 q) × (1 ≤ count e.1 q e.0)
counted q e some = (
  omega (arith, some, sum-le (sealed_at e) (in_sealed e.0) q.sections (λ s. sum-le (at_block e.1 e.0) (λ x. cond (has_serial e.0 x) 1 0) s.sealed (λ x. narrow (nat_eq x.0 e.0) (is_kind e.1 x.1)))),
  omega (arith, some, sum-le (sealed_at e) (count_in e.1 e.0) q.sections (λ s. omega (arith, count_in-cons e.1 e.0 s))),
)

-- ---- a free sealed block goes
pub record Goes (q q' : QueueState) : Type 0 where
  pub loose : IsLoose q'
  pub lower : measure q' < measure q

pub block-goes_out : (q : QueueState) (b : ℕ) → IsLoose q → 1 ≤ sealed_count b q → IsFree q b → Goes q (without_block q b)
block-goes_out q b loose some free =
    let h = sealed_count-there q b some in
    let s = sealed-there q b h in
    record {
      loose = IsLoose-after_take_out q (sealed_section q b) (sealed_position q b) loose s.0 s.1 (subst (λ n. IsFree q n) (sym s.2) free);
      lower = let d : displaced_rows (without_block q b) ≡ displaced_rows q = refl in omega (arith, sealed_blocks-without_block q b h, d);
    }

block-goes : (K : Kind) (b : ℕ) (w : Work) → IsLoose w.queue → 1 ≤ sealed_count b w.queue → 1 ≤ count K w.queue b → Goes w.queue (evict_block K b w).queue
block-goes Virtual b w loose some there =
    let q : QueueState = w.queue in
    let os : List ℕ = objects_placed q b in
    let l = left-without os q b loose refl in
    let q1 : QueueState = without_rows q os in
    let still : sealed_count b q1 ≡ sealed_count b q = ap (sum_by (in_sealed b)) l.same in
    let counts : count Virtual q1 b ≡ count Virtual q b = ap (sum_by (count_in Virtual b)) l.same in
    let g = block-goes_out q1 b l.loose (omega (arith, still, some)) (λ k d lt. (
      (λ e. (let h : count Device q1 (get_or (values_of q1.rows) k d).home ≡ 1 = l.loose.homes k d lt in let f : count Device q1 (get_or (values_of q1.rows) k d).home ≡ count Device q1 b = ap (count Device q1) e in absurd (omega (arith, h, f, counts, there, l.loose.distinct b)))),
      none-placed q1 b l.none k d lt,
    )) in
    record { loose = g.loose; lower = omega (arith, g.lower, displaced-without_rows q os, sealed_blocks-without_rows q os) }
block-goes Device b w loose some there =
    let q : QueueState = w.queue in
    let os : List ℕ = objects_placed q b in
    let l = left-without os q b loose refl in
    let left : Work = leave w os in
    let q1 : QueueState = without_rows q os in
    let still : sealed_count b q1 ≡ sealed_count b q = ap (sum_by (in_sealed b)) l.same in
    let v : IsVictim b q1 = record { loose = l.loose; sealed = omega (arith, still, some); apart = none-placed q1 b l.none } in
    let s : Steps b q1 (fold reinsert left (objects_homed q1 b)).queue [] = fold-steps (objects_homed q1 b) left b v refl in
    let q2 : QueueState = (fold reinsert left (objects_homed q1 b)).queue in
    let g = block-goes_out q2 b s.victim.loose s.victim.sealed (λ k d lt. (none-homed q2 b s.rest k d lt, s.victim.apart k d lt)) in
    record { loose = g.loose; lower = omega (arith, g.lower, s.lower, displaced-without_rows q os, sealed_blocks-without_rows q os) }

last-goes : (o : Option (ℕ × Kind)) (w : Work) → last_block w.queue ≡ o → IsLoose w.queue → is_over w.queue ≡ true → Goes w.queue (evict_if_some o w).queue
last-goes None w is loose over =
    let h = last-none None w.queue.sections is in
    absurd (omega (arith, h.1, ltb-true w.queue.shape.blocks (sealed_devices w.queue) over))
last-goes (Some e) w is loose over = elim (last-there None w.queue.sections e is) [
  | inl bad ↦ absurd (none_not_some bad)
  | inr some ↦ (let c = counted w.queue e some in block-goes e.1 e.0 w loose c.0 c.1)
]
  where
    none_not_some : None ≡ Some e → ⊥
    none_not_some bad = cc

pub turn-falls : Falls (λ w. IsLoose w.queue)
turn-falls =
    record {
      good = λ w loose over. (last-goes (last_block w.queue) w refl loose over).loose;
      lower = λ w loose over. (last-goes (last_block w.queue) w refl loose over).lower;
    }
