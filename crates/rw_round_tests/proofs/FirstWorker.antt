-- A worker that has one of two processes: that with number 0, which has done nothing yet.
use Rattle.std.proofs.Common.{rules, ◌≡◌, ℕ, zero, suc, ◌<◌, List, [], ◌∷◌, Some, sym, ap, subst, arith}
use Rattle.std.specs.Prelude.{◌/◌, ◌%◌, slice_get}
use Rattle.std.proofs.lemmas.Option.{none-some, same_Some}
use Rattle.std.specs.declared.cmp.Ordering.{Ordering}
use Rattle.rw_vt.specs.Order.{event_cmp}
use Rattle.rw_vt.specs.declared.event.Event.{Event}
use Rattle.rw_lp.specs.Calls.{LogicalProcess, new_process}
use Rattle.rw_lp.specs.Sound.{HasCollected}
use Rattle.rw_rounds.specs.Turns.{IsInPlace, Role}

-- what has done nothing yet has collected up to time 0
new_has_collected : {S B : Type 0} (cmp : Event B → Event B → Ordering) (s : S) (initial : List (Event B)) → HasCollected cmp 0 (new_process cmp s initial)
new_has_collected cmp s initial = record {
  committed = λ e has. search rules;
  processed = λ e has. omega arith;
  pending = λ e has. omega arith;
  debts = λ e has. omega arith;
}

-- it is in the place of number 0
new_in_place : {M S B : Type 0} (order : B → B → Ordering) (m : M) (r : Role) → r.number ≡ 0 → r.collected ≡ 0 → (x : LogicalProcess M S B) (s : S) (initial : List (Event B))
    → x ≡ record { model = m; number = 0; process = new_process (event_cmp order) s initial } → IsInPlace order m r 0 x
new_in_place order m r first none x s initial is = record {
  model_is = ap (λ l. l.model) is;
  number = rw (ap (λ l. l.number) is) (omega arith);
  collected = subst (λ g. HasCollected (event_cmp order) g x.process) (sym none) (subst (HasCollected (event_cmp order) 0) (sym (ap (λ l. l.process) is)) (new_has_collected (event_cmp order) s initial));
}

-- where it is the only one, each is in its place
pub all_in_place : {M S B : Type 0} (order : B → B → Ordering) (m : M) {r : Role} → r.number ≡ 0 → r.collected ≡ 0 → (x : LogicalProcess M S B) (s : S) (initial : List (Event B))
    → x ≡ record { model = m; number = 0; process = new_process (event_cmp order) s initial } → {xs : List (LogicalProcess M S B)} → xs ≡ x ∷ []
    → (place : ℕ) (l : LogicalProcess M S B) → slice_get xs place ≡ Some l → IsInPlace order m r place l
all_in_place order m {r} first none x s initial is {xs} one zero l there = subst (IsInPlace order m r 0) (same_Some x l (subst (λ ys. slice_get ys 0 ≡ Some l) one there)) (new_in_place order m r first none x s initial is)
all_in_place order m {r} first none x s initial is {xs} one (suc place) l there = absurd (none-some l (subst (λ ys. slice_get ys (suc place) ≡ Some l) one there))

-- of two processes, it is the only one with an even number
pub only_even : (q : ℕ) → q < 2 → q % 2 ≡ 0 → q / 2 < 1
only_even q less even = omega arith
