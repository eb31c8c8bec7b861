-- Parts of a run put together, and a run midway whose pending events stand in another order.
use Rattle.std.proofs.Common.{◌≡◌, ℕ, zero, suc, ◌+◌, ◌<◌, ◌≤◌, List, [], ◌++◌, refl, ◌∙◌, ap, arith, inl, inr, ◌⊎◌}
use Rattle.std.specs.Prelude.{◌%◌}
use Rattle.std.proofs.lemmas.Bool.{cases_eq}
use Rattle.rw_vt.specs.declared.event.Event.{Event}
use Rattle.rw_vt.specs.Order.{copies, Has, one_if_same}
use Rattle.rw_vt.specs.System.{Rules, System, sends_of, map_from, flatten, all_sent}
use Rattle.rw_vt.specs.Partway.{IsPartway}
use Rattle.rw_vt.proofs.Sorting.{Has-append}
use Rattle.rw_vt.proofs.Runs.{AreLawful}
use Rattle.rw_vt.proofs.Complete.{IsMidway}
use Rattle.rw_vt.proofs.Rest.{none_joined}
use Rattle.rw_vt.proofs.Partway.{parts_joined}
use Rattle.rw_windows.proofs.Sums.{joined, joined_none, weigh-append, Has-joined}

-- a part stays one when what it began with stands in another order
pub part_same_initial : {S B : Type 0} (y : System S B) {J : ℕ → List (Event B)} {P out : List (Event B)} (xs ys : List (Event B))
    → IsPartway (record y { initial = xs }) J P out → ((e : Event B) → copies y.rules.order e xs ≡ copies y.rules.order e ys) → IsPartway (record y { initial = ys }) J P out
part_same_initial {S} {B} y {J = J} {P = P} {out = out} xs ys part same = record { fit = part.fit; up = part.up; sound = part.sound; ahead = part.ahead; balance = balance }
  where
    balance : (e : Event B) → copies y.rules.order e (all_sent (record y { initial = ys }) J) ≡ copies y.rules.order e (J e.to) + (copies y.rules.order e P + copies y.rules.order e out)
    balance e =
        let sent = flatten (map_from 0 (λ p s. sends_of (y.rules.step p) s (J p)) y.starts) in
        let h = one_if_same y.rules.order e in
        weigh-append h ys sent ∙ omega (arith, same e, part.balance e, weigh-append h xs sent)

-- what is pending midway may stand in any order
pub midway_reordered : {S B : Type 0} {y : System S B} {J : ℕ → List (Event B)} {P P' : List (Event B)} → IsMidway y J P → ((e : Event B) → copies y.rules.order e P' ≡ copies y.rules.order e P) → IsMidway y J P'
midway_reordered mid same = record {
  story = mid.story;
  sound = λ a h. mid.sound a (omega (arith, same a));
  balance = λ e. omega (arith, mid.balance e, same e);
  ahead = λ p a b h k. mid.ahead p a b h (omega (arith, same b));
}

-- Parts of n workers, each at processes of its own, of which all that is done is before t and all that waits is not
module _ {S B : Type 0} (y : Rules S B) {WellFormed : ℕ → S → Type 0} (law : AreLawful y WellFormed) (starts : List S) (t n : ℕ) (first P out : ℕ → List (Event B)) (J : ℕ → ℕ → List (Event B))
    (parts : (i : ℕ) → i < n → IsPartway (record { rules = y; starts = starts; initial = first i }) (J i) (P i) (out i))
    (idle : (i q : ℕ) → i < n → (q % n ≡ i → ⊥) → J i q ≡ [])
    (done : (i q : ℕ) (a : Event B) → i < n → Has y.order (J i q) a → a.time < t)
    (late : (i : ℕ) (a : Event B) → i < n → Has y.order (P i) a → t ≤ a.time) where
  abbrev bare : List (Event B) → System S B
  bare xs = record { rules = y; starts = starts; initial = xs }

  part_none : IsPartway (bare []) (λ q. []) [] []
  part_none = record { fit = λ p a h. absurd (omega arith); up = λ p. tt; sound = λ a h. absurd (omega arith); ahead = λ p a b h k. absurd (omega arith); balance = λ e. ap (copies y.order e) nothing }
    where
      nothing : flatten (map_from 0 (λ p s. sends_of (y.step p) s []) starts) ≡ []
      nothing = none_joined 0 (λ p s. sends_of (y.step p) s []) starts (λ q c. refl)

  apart : (k : ℕ) → k < n → (q : ℕ) → (joined k (λ i. J i q) ≡ []) ⊎ (J k q ≡ [])
  apart k l q = elim (cases_eq (q % n) k) [
    | inl e ↦ inl (joined_none k (λ i. J i q) (λ i m. idle i q (omega (arith, m, l)) (λ z. omega (arith, m, e, z))))
    | inr ne ↦ inr (idle k q l ne)
  ]

  done_both : (k : ℕ) → k < n → (q : ℕ) (a : Event B) → Has y.order (joined k (λ i. J i q) ++ J k q) a → a.time < t
  done_both k l q a h = elim (Has-append law.exact a (joined k (λ i. J i q)) (J k q) h) [
    | inl m ↦ let r = Has-joined law.exact k (λ i. J i q) a m in done r.0 q a (omega (arith, r.1, l)) r.2
    | inr m ↦ done k q a l m
  ]

  late_both : (k : ℕ) → k < n → (a : Event B) → Has y.order (joined k P ++ P k) a → t ≤ a.time
  late_both k l a h = elim (Has-append law.exact a (joined k P) (P k) h) [
    | inl m ↦ let r = Has-joined law.exact k P a m in late r.0 a (omega (arith, r.1, l)) r.2
    | inr m ↦ late k a l m
  ]

  pub all_joined : (k : ℕ) → k ≤ n → IsPartway (record { rules = y; starts = starts; initial = joined k first }) (λ q. joined k (λ i. J i q)) (joined k P) (joined k out)
  all_joined zero l = part_none
  all_joined (suc k) l = parts_joined (bare []) law t (all_joined k (omega arith)) (parts k (omega arith)) (apart k (omega arith)) (done_both k (omega arith)) (late_both k (omega arith))
