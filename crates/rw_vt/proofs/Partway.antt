-- Parts of a run: one event more at a process, more that comes, and parts put together to a run midway.
use Rattle.std.proofs.Common.{◌≡◌, ◌≢◌, ℕ, ◌+◌, ◌<◌, ◌≤◌, Bool, true, false, cond, ◌==◌, List, [], ◌∷◌, ◌++◌, refl, sym, ◌∙◌, ap, subst, arith, Some, inl, inr, ◌⊎◌, zero-add, append-nil}
use Rattle.std.proofs.lemmas.Bool.Decides.{nat_tests}
use Rattle.std.specs.List.{slice_get}
use Rattle.rw_vt.specs.declared.event.Event.{Event}
use Rattle.rw_vt.specs.Valid.{IsSentBy}
use Rattle.rw_vt.specs.Order.{AtMost, copies, Has, IsAscending}
use Rattle.rw_vt.specs.System.{System, state_after, sends_of, map_from, flatten, all_sent}
use Rattle.rw_vt.specs.Partway.{IsPartway, with_next}
use Rattle.rw_vt.proofs.Sorting.{IsAscending-append, copies-append, absent, Has-append, Has-cons, Has-head, each_of_all, at_most_chain}
use Rattle.rw_vt.proofs.Runs.{AreLawful, IsLawful, Fits_at, earlier_at_most, outs-append, well_formed_after, copies_joined_but_one}
use Rattle.rw_vt.proofs.Complete.{IsMidway}
use Rattle.rw_vt.proofs.Rest.{copies_in_parts, none_joined}

same_or_other : (p q : ℕ) → (p ≡ q) ⊎ (p ≢ q)
same_or_other p q = by_test (p == q) refl
  where
    by_test : (b : Bool) → (p == q) ≡ b → (p ≡ q) ⊎ (p ≢ q)
    by_test true h = inl (grind (arith, nat_tests))
    by_test false h = inr (λ e. grind (arith, nat_tests))

module _ {B : Type 0} (J : ℕ → List (Event B)) (x : Event B) where
  pub next_here : with_next J x x.to ≡ J x.to ++ x ∷ []
  next_here = by (x.to == x.to) refl
    where
      by : (b : Bool) → (x.to == x.to) ≡ b → cond b (J x.to ++ x ∷ []) (J x.to) ≡ J x.to ++ x ∷ []
      by true h = refl
      by false h = absurd (grind (arith, nat_tests))

  pub next_other : (q : ℕ) → q ≢ x.to → with_next J x q ≡ J q
  next_other q ne = by (q == x.to) refl
    where
      by : (b : Bool) → (q == x.to) ≡ b → cond b (J q ++ x ∷ []) (J q) ≡ J q
      by true h = absurd (ne (grind (arith, nat_tests)))
      by false h = refl

-- a part in which x is the least that waits: what waits besides is R
module _ {S B : Type 0} (y : System S B) {WellFormed : ℕ → S → Type 0} (law : IsLawful y WellFormed) {J : ℕ → List (Event B)} {P out : List (Event B)} (part : IsPartway y J P out)
    (x : Event B) (R : List (Event B)) (taken : (e : Event B) → copies y.rules.order e P ≡ copies y.rules.order e (x ∷ R)) (least : (b : Event B) → Has y.rules.order P b → AtMost y.rules.order x b) where
  there : Has y.rules.order P x
  there = let h = Has-head law.rules.exact x R in omega (arith, taken x, h)

  pub next_sound : y.rules.valid x ≡ true
  next_sound = part.sound x there

  module _ (s0 : S) (start : slice_get y.starts x.to ≡ Some s0) where
    abbrev now : S
    now = state_after (y.rules.step x.to) s0 (J x.to)

    pub next_fine : WellFormed x.to now
    next_fine = well_formed_after law.rules x.to s0 (J x.to) (law.starts x.to s0 start) (part.fit x.to)

    abbrev sent : List (Event B)
    sent = (y.rules.step x.to now x).1

    each_sent : (b : Event B) → Has y.rules.order sent b → IsSentBy x.to x b × (y.rules.valid b ≡ true)
    each_sent b h = each_of_all law.rules.exact (λ f. IsSentBy x.to x f × (y.rules.valid f ≡ true)) sent (law.rules.future x.to now x next_fine next_sound refl) b h

    is_x : (a : Event B) → Has y.rules.order (x ∷ []) a → a ≡ x
    is_x a h = elim (Has-cons law.rules.exact a x [] h) [ inl e ↦ e | inr m ↦ absurd (omega arith) ]

    done_before : (q : ℕ) (a : Event B) → Has y.rules.order (with_next J x q) a → Has y.rules.order (J q) a ⊎ ((a ≡ x) × (q ≡ x.to))
    done_before q a h = elim (same_or_other q x.to) [
      | inl e ↦ elim (Has-append law.rules.exact a (J x.to) (x ∷ []) (subst (λ l. Has y.rules.order l a) (ap (with_next J x) e ∙ next_here J x) h)) [
        | inl m ↦ inl (subst (λ p. Has y.rules.order (J p) a) (sym e) m)
        | inr m ↦ inr (is_x a m, e)
      ]
      | inr ne ↦ inl (subst (λ l. Has y.rules.order l a) (next_other J x q ne) h)
    ]

    -- Q waits then, and `out'` is out
    module _ (Q out' : List (Event B)) (moved : (e : Event B) → copies y.rules.order e Q + copies y.rules.order e out' ≡ copies y.rules.order e R + (copies y.rules.order e out + copies y.rules.order e sent))
        (from : (b : Event B) → Has y.rules.order Q b → Has y.rules.order R b ⊎ Has y.rules.order sent b) where
      fit : (q : ℕ) → Fits_at y.rules q (with_next J x q)
      fit q a h = elim (done_before q a h) [
        | inl m ↦ part.fit q a m
        | inr e ↦ (ap (λ (w : Event B). w.to) e.0 ∙ sym e.1, ap y.rules.valid e.0 ∙ next_sound)
      ]

      up_here : IsAscending y.rules.order (J x.to ++ x ∷ [])
      up_here = IsAscending-append law.rules.exact (J x.to) (x ∷ []) (part.up x.to) ((λ a h. absurd (omega arith)), tt) (λ a b h k. subst (λ w. AtMost y.rules.order a w) (sym (is_x b k)) (part.ahead x.to a x h there))

      up : (q : ℕ) → IsAscending y.rules.order (with_next J x q)
      up q = elim (same_or_other q x.to) [
        | inl e ↦ subst (IsAscending y.rules.order) (sym (ap (with_next J x) e ∙ next_here J x)) up_here
        | inr ne ↦ subst (IsAscending y.rules.order) (sym (next_other J x q ne)) (part.up q)
      ]

      was_there : (b : Event B) → Has y.rules.order R b → Has y.rules.order P b
      was_there b h = omega (arith, taken b)

      sound : (b : Event B) → Has y.rules.order Q b → y.rules.valid b ≡ true
      sound b h = elim (from b h) [ inl m ↦ part.sound b (was_there b m) | inr m ↦ (each_sent b m).1 ]

      after_x : (b : Event B) → Has y.rules.order Q b → AtMost y.rules.order x b
      after_x b h = elim (from b h) [ inl m ↦ least b (was_there b m) | inr m ↦ earlier_at_most law.rules x b (each_sent b m).0.later ]

      ahead : (q : ℕ) (a b : Event B) → Has y.rules.order (with_next J x q) a → Has y.rules.order Q b → AtMost y.rules.order a b
      ahead q a b h k = elim (done_before q a h) [
        | inl m ↦ at_most_chain law.rules.exact a x b (part.ahead q a x m there) (after_x b k)
        | inr e ↦ subst (λ w. AtMost y.rules.order w b) (sym e.0) (after_x b k)
      ]

      done_counts : (e : Event B) → copies y.rules.order e (with_next J x e.to) ≡ copies y.rules.order e (J e.to) + copies y.rules.order e (x ∷ [])
      done_counts e = elim (same_or_other e.to x.to) [
        | inl q ↦ ap (λ p. copies y.rules.order e (with_next J x p)) q ∙ ap (copies y.rules.order e) (next_here J x) ∙ copies-append law.rules.exact e (J x.to) (x ∷ []) ∙ ap (λ p. copies y.rules.order e (J p) + copies y.rules.order e (x ∷ [])) (sym q)
        | inr ne ↦
            let none : copies y.rules.order e (x ∷ []) ≡ 0 = absent law.rules.exact e (x ∷ []) (λ h. ne (ap (λ (w : Event B). w.to) (is_x e h))) in
            let same = ap (copies y.rules.order e) (next_other J x e.to ne) in
            omega arith
      ]

      sends_here : sends_of (y.rules.step x.to) s0 (with_next J x x.to) ≡ sends_of (y.rules.step x.to) s0 (J x.to) ++ sent
      sends_here =
          ap (sends_of (y.rules.step x.to) s0) (next_here J x) ∙ outs-append (y.rules.step x.to) s0 (J x.to) (x ∷ [])
          ∙ ap (λ l. sends_of (y.rules.step x.to) s0 (J x.to) ++ l) (append-nil sent)

      sent_counts : (e : Event B) → copies y.rules.order e (all_sent y (with_next J x)) ≡ copies y.rules.order e (all_sent y J) + copies y.rules.order e sent
      sent_counts e =
          let o = law.rules.exact in
          let before : ℕ → S → List (Event B) = λ q c. sends_of (y.rules.step q) c (J q) in
          let after : ℕ → S → List (Event B) = λ q c. sends_of (y.rules.step q) c (with_next J x q) in
          let here = ap (copies y.rules.order e) sends_here ∙ copies-append o e (sends_of (y.rules.step x.to) s0 (J x.to)) sent in
          let joined = copies_joined_but_one o e before after 0 x.to x.to y.starts s0 start (sym (zero-add x.to)) (λ j c ne. ap (sends_of (y.rules.step j) c) (sym (next_other J x j ne))) in
          copies-append o e y.initial (flatten (map_from 0 after y.starts))
          ∙ omega (arith, joined, here, copies-append o e y.initial (flatten (map_from 0 before y.starts)))

      x_counts : (e : Event B) → copies y.rules.order e (x ∷ R) ≡ copies y.rules.order e (x ∷ []) + copies y.rules.order e R
      x_counts e = copies-append law.rules.exact e (x ∷ []) R

      balance : (e : Event B) → copies y.rules.order e (all_sent y (with_next J x)) ≡ copies y.rules.order e (with_next J x e.to) + (copies y.rules.order e Q + copies y.rules.order e out')
      balance e = omega (arith, moved e, taken e, x_counts e, done_counts e, part.balance e, sent_counts e)

      -- the part, once x is executed
      pub part_next : IsPartway y (with_next J x) Q out'
      part_next = record { fit = fit; up = up; sound = sound; ahead = ahead; balance = balance }

-- more comes, none of it before what is done
module _ {S B : Type 0} (y : System S B) {WellFormed : ℕ → S → Type 0} (law : IsLawful y WellFormed) where
  pub part_more : (J : ℕ → List (Event B)) (P out more P' : List (Event B)) → IsPartway y J P out
      → ((e : Event B) → copies y.rules.order e P' ≡ copies y.rules.order e P + copies y.rules.order e more)
      → ((a : Event B) → Has y.rules.order more a → y.rules.valid a ≡ true)
      → ((q : ℕ) (a b : Event B) → Has y.rules.order (J q) a → Has y.rules.order more b → AtMost y.rules.order a b)
      → IsPartway (record y { initial = y.initial ++ more }) J P' out
  part_more J P out more P' part joined valid later = record { fit = part.fit; up = part.up; sound = sound; ahead = ahead; balance = balance }
    where
      either : (a : Event B) → Has y.rules.order P' a → Has y.rules.order P a ⊎ Has y.rules.order more a
      either a h = Has-append law.rules.exact a P more (omega (arith, joined a, copies-append law.rules.exact a P more))

      sound : (a : Event B) → Has y.rules.order P' a → y.rules.valid a ≡ true
      sound a h = elim (either a h) [ inl m ↦ part.sound a m | inr m ↦ valid a m ]

      ahead : (p : ℕ) (a b : Event B) → Has y.rules.order (J p) a → Has y.rules.order P' b → AtMost y.rules.order a b
      ahead p a b h k = elim (either b k) [ inl m ↦ part.ahead p a b h m | inr m ↦ later p a b h m ]

      balance : (e : Event B) → copies y.rules.order e (all_sent (record y { initial = y.initial ++ more }) J) ≡ copies y.rules.order e (J e.to) + (copies y.rules.order e P' + copies y.rules.order e out)
      balance e =
          let o = law.rules.exact in
          let sent = flatten (map_from 0 (λ p s. sends_of (y.rules.step p) s (J p)) y.starts) in
          copies-append o e (y.initial ++ more) sent
          ∙ omega (arith, joined e, copies-append o e y.initial more, copies-append o e y.initial sent, part.balance e)

-- the same journals, with what waits and what is out in another order
pub part_reordered : {S B : Type 0} {y : System S B} {J : ℕ → List (Event B)} {P out P' out' : List (Event B)} → IsPartway y J P out
    → ((e : Event B) → copies y.rules.order e P' ≡ copies y.rules.order e P) → ((e : Event B) → copies y.rules.order e out' ≡ copies y.rules.order e out)
    → IsPartway y J P' out'
part_reordered part waiting outs = record {
  fit = part.fit;
  up = part.up;
  sound = λ a h. part.sound a (omega (arith, waiting a));
  ahead = λ p a b h k. part.ahead p a b h (omega (arith, waiting b));
  balance = λ e. omega (arith, part.balance e, waiting e, outs e);
}

-- nothing is done yet
module _ {S B : Type 0} (y : System S B) {WellFormed : ℕ → S → Type 0} (law : IsLawful y WellFormed) where
  pub part_begins : (P : List (Event B)) → ((e : Event B) → copies y.rules.order e P ≡ copies y.rules.order e y.initial) → IsPartway y (λ _. []) P []
  part_begins P same = record {
    fit = λ p a h. absurd (omega arith);
    up = λ p. tt;
    sound = λ a h. law.initial a (omega (arith, same a));
    ahead = λ p a b h k. absurd (omega arith);
    balance = balance;
  }
    where
      none : flatten (map_from 0 (λ p s. sends_of (y.rules.step p) s []) y.starts) ≡ []
      none = none_joined 0 (λ p s. sends_of (y.rules.step p) s []) y.starts (λ q c. refl)

      balance : (e : Event B) → copies y.rules.order e (all_sent y (λ _. [])) ≡ 0 + (copies y.rules.order e P + 0)
      balance e = ap (λ l. copies y.rules.order e (y.initial ++ l)) none ∙ omega (arith, same e, copies-append law.rules.exact e y.initial [])

-- two parts of the same run, each at processes of its own, of which all that is done is before t and all that waits is not
module _ {S B : Type 0} (y : System S B) {WellFormed : ℕ → S → Type 0} (law : AreLawful y.rules WellFormed) (t : ℕ) {first second : List (Event B)} {J K : ℕ → List (Event B)} {P out Q outs : List (Event B)}
    (one : IsPartway (record y { initial = first }) J P out) (other : IsPartway (record y { initial = second }) K Q outs)
    (apart : (q : ℕ) → (J q ≡ []) ⊎ (K q ≡ []))
    (done : (q : ℕ) (a : Event B) → Has y.rules.order (J q ++ K q) a → a.time < t) (late : (a : Event B) → Has y.rules.order (P ++ Q) a → t ≤ a.time) where
  abbrev both : ℕ → List (Event B)
  both q = J q ++ K q

  fit_both : (p : ℕ) → Fits_at y.rules p (both p)
  fit_both p a h = elim (Has-append law.exact a (J p) (K p) h) [ inl m ↦ one.fit p a m | inr m ↦ other.fit p a m ]

  up_both : (p : ℕ) → IsAscending y.rules.order (both p)
  up_both p = elim (apart p) [
    | inl none ↦ subst (IsAscending y.rules.order) (sym (ap (λ l. l ++ K p) none)) (other.up p)
    | inr none ↦ subst (IsAscending y.rules.order) (sym (ap (λ l. J p ++ l) none ∙ append-nil (J p))) (one.up p)
  ]

  sound_both : (a : Event B) → Has y.rules.order (P ++ Q) a → y.rules.valid a ≡ true
  sound_both a h = elim (Has-append law.exact a P Q h) [ inl m ↦ one.sound a m | inr m ↦ other.sound a m ]

  ahead_both : (p : ℕ) (a b : Event B) → Has y.rules.order (both p) a → Has y.rules.order (P ++ Q) b → AtMost y.rules.order a b
  ahead_both p a b h k = let l = done p a h in let m = late b k in earlier_at_most law a b (omega arith)

  sends_apart : (q : ℕ) (c : S) → sends_of (y.rules.step q) c (both q) ≡ sends_of (y.rules.step q) c (J q) ++ sends_of (y.rules.step q) c (K q)
  sends_apart q c = elim (apart q) [
    | inl none ↦ ap (λ l. sends_of (y.rules.step q) c (l ++ K q)) none ∙ sym (ap (λ l. sends_of (y.rules.step q) c l ++ sends_of (y.rules.step q) c (K q)) none)
    | inr none ↦
        ap (λ l. sends_of (y.rules.step q) c (J q ++ l)) none ∙ ap (sends_of (y.rules.step q) c) (append-nil (J q))
        ∙ sym (ap (λ l. sends_of (y.rules.step q) c (J q) ++ sends_of (y.rules.step q) c l) none ∙ append-nil (sends_of (y.rules.step q) c (J q)))
  ]

  balance_both : (e : Event B) → copies y.rules.order e (all_sent (record y { initial = first ++ second }) both) ≡ copies y.rules.order e (both e.to) + (copies y.rules.order e (P ++ Q) + copies y.rules.order e (out ++ outs))
  balance_both e =
      let o = law.exact in
      let by_one : ℕ → S → List (Event B) = λ q c. sends_of (y.rules.step q) c (J q) in
      let by_other : ℕ → S → List (Event B) = λ q c. sends_of (y.rules.step q) c (K q) in
      let by_both : ℕ → S → List (Event B) = λ q c. sends_of (y.rules.step q) c (both q) in
      let parts = copies_in_parts o e 0 by_both by_one by_other y.starts sends_apart in
      copies-append o e (first ++ second) (flatten (map_from 0 by_both y.starts))
      ∙ omega (
        arith,
        parts,
        one.balance e,
        other.balance e,
        copies-append o e first second,
        copies-append o e first (flatten (map_from 0 by_one y.starts)),
        copies-append o e second (flatten (map_from 0 by_other y.starts)),
        copies-append o e (J e.to) (K e.to),
        copies-append o e P Q,
        copies-append o e out outs,
      )

  pub parts_joined : IsPartway (record y { initial = first ++ second }) (λ q. J q ++ K q) (P ++ Q) (out ++ outs)
  parts_joined = record { fit = fit_both; up = up_both; sound = sound_both; ahead = ahead_both; balance = balance_both }

-- all parts together: of what they sent to one another some has come, and the rest is on its way
module _ {S B : Type 0} (y : System S B) {WellFormed : ℕ → S → Type 0} (law : IsLawful y WellFormed) (t : ℕ) (came : List (Event B)) {J : ℕ → List (Event B)} {P out : List (Event B)}
    (whole : IsPartway (record y { initial = y.initial ++ came }) J P out) (way : List (Event B)) (handed : (e : Event B) → copies y.rules.order e out ≡ copies y.rules.order e came + copies y.rules.order e way)
    (valid : (a : Event B) → Has y.rules.order way a → y.rules.valid a ≡ true)
    (done : (q : ℕ) (a : Event B) → Has y.rules.order (J q) a → a.time < t) (late : (a : Event B) → Has y.rules.order way a → t ≤ a.time) where
  pub parts_midway : IsMidway y J (P ++ way)
  parts_midway = record { story = record { fit = whole.fit; up = whole.up }; sound = sound; balance = balance; ahead = ahead }
    where
      sound : (a : Event B) → Has y.rules.order (P ++ way) a → y.rules.valid a ≡ true
      sound a h = elim (Has-append law.rules.exact a P way h) [ inl m ↦ whole.sound a m | inr m ↦ valid a m ]

      ahead : (p : ℕ) (a b : Event B) → Has y.rules.order (J p) a → Has y.rules.order (P ++ way) b → AtMost y.rules.order a b
      ahead p a b h k = elim (Has-append law.rules.exact b P way k) [
        | inl m ↦ whole.ahead p a b h m
        | inr m ↦ let l = done p a h in let r = late b m in earlier_at_most law.rules a b (omega arith)
      ]

      balance : (e : Event B) → copies y.rules.order e (all_sent y J) ≡ copies y.rules.order e (J e.to) + copies y.rules.order e (P ++ way)
      balance e =
          let o = law.rules.exact in
          let sent = flatten (map_from 0 (λ p s. sends_of (y.rules.step p) s (J p)) y.starts) in
          copies-append o e y.initial sent
          ∙ omega (arith, handed e, whole.balance e, copies-append o e (y.initial ++ came) sent, copies-append o e y.initial came, copies-append o e P way)
