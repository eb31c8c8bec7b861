-- A sound world in which one process took a turn is sound.
use Rattle.std.proofs.Common.{◌≡◌, ℕ, zero, suc, ◌+◌, ◌<◌, List, [], ◌∷◌, ◌++◌, sym, ap, ◌∙◌, subst, arith, ⊎_elim, inl, inr, Some}
use Rattle.std.specs.Prelude.{◌⊎◌, slice_get, slice_set}
use Rattle.std.proofs.lemmas.Bool.{cases_eq}
use Rattle.rw_vt.specs.declared.event.Event.{Event}
use Rattle.rw_vt.specs.declared.event.Letter.{Letter}
use Rattle.rw_vt.specs.Order.{copies}
use Rattle.rw_vt.specs.Letters.{messages, antis}
use Rattle.rw_vt.specs.System.{System, sends_of, map_from, flatten, all_sent}
use Rattle.rw_vt.proofs.Sorting.{copies-append}
use Rattle.rw_vt.proofs.Bags.{none_if}
use Rattle.rw_vt.proofs.Letters.{messages-append, antis-append}
use Rattle.rw_vt.proofs.Runs.{IsLawful, copies_joined_but_one}
use Rattle.rw_lp.specs.HeldMessages.{held_messages}
use Rattle.rw_lp.specs.Process.{ProcessState, Turn, Turned, Stays, done}
use Rattle.rw_lp.specs.Sound.{SoundAt, SoundLetters, Kept, Keeps}
use Rattle.rw_lp.proofs.Cited.{letters_join}
use Rattle.rw_world.specs.WorldState.{WorldState}
use Rattle.rw_world.specs.Steps.{world_after}
use Rattle.rw_world.specs.Sound.{held_in, Sound, Balanced, list_at, done_of, pending_of, debts_of}
use Rattle.rw_world.proofs.Starts.{start_is}
use Rattle.rw_world.proofs.Lookups.{get-set_same, get-set_other, map-set_same}

-- the letters are those left and those that came, and all that came go to p
pub record Parted {S B : Type 0} (y : System S B) (p : ℕ) (ls left came : List (Letter B)) : Type 0 where
  pub messages_are : (e : Event B) → messages y.rules.order e ls ≡ messages y.rules.order e left + messages y.rules.order e came
  pub antis_are : (e : Event B) → antis y.rules.order e ls ≡ antis y.rules.order e left + antis y.rules.order e came
  pub come_here : (e : Event B) → 0 < messages y.rules.order e came + antis y.rules.order e came → e.to ≡ p

module _ {S B : Type 0} (y : System S B) {WellFormed : ℕ → S → Type 0} (law : IsLawful y WellFormed) where
  pub count-held_set : (e : Event B) (ps : List (ProcessState S B)) (p : ℕ) (x z : ProcessState S B) → slice_get ps p ≡ Some x → copies y.rules.order e (held_in (slice_set ps p z)) + copies y.rules.order e (held_messages x.held) ≡ copies y.rules.order e (held_in ps) + copies y.rules.order e (held_messages z.held)
  count-held_set e [] p x z h = cc
  count-held_set e (u ∷ ps) zero x z h =
      let q : u ≡ x = cc in
      let k : copies y.rules.order e (held_messages u.held) ≡ copies y.rules.order e (held_messages x.held) = ap (λ v. copies y.rules.order e (held_messages v.held)) q in
      omega (arith, copies-append law.rules.exact e (held_messages z.held) (held_in ps), copies-append law.rules.exact e (held_messages u.held) (held_in ps))
  count-held_set e (u ∷ ps) (suc p) x z h =
      omega (arith, count-held_set e ps p x z h, copies-append law.rules.exact e (held_messages u.held) (held_in (slice_set ps p z)), copies-append law.rules.exact e (held_messages u.held) (held_in ps))

module _ {S B : Type 0} (y : System S B) {WellFormed : ℕ → S → Type 0} (law : IsLawful y WellFormed) (w : WorldState S B) (sound : Sound y w) (p : ℕ) (x : ProcessState S B) (at : slice_get w.processes p ≡ Some x) (left came : List (Letter B)) (parted : Parted y p w.letters left came) (left_sound : SoundLetters y.rules w.collected left) where
  module _ (z : ProcessState S B) (out : List (Letter B)) (kept : Kept y.rules w.collected p x z came out) where
    ps : List (ProcessState S B)
    ps = slice_set w.processes p z

    new_here : slice_get ps p ≡ Some z
    unfolding ps
    new_here = get-set_same w.processes p x z at

    new_other : (q : ℕ) → (q ≡ p → ⊥) → slice_get ps q ≡ slice_get w.processes q
    unfolding ps
    new_other q h = get-set_other w.processes p q z h

    sums : (e : Event B) → copies y.rules.order e (all_sent y (done_of ps)) + copies y.rules.order e (sends_of (y.rules.step p) x.start (done x)) ≡ copies y.rules.order e (all_sent y (done_of w.processes)) + copies y.rules.order e (sends_of (y.rules.step p) z.start (done z))
    sums e =
        let sent : (List (ProcessState S B)) → ℕ → S → List (Event B) = λ xs q s. sends_of (y.rules.step q) s (done_of xs q) in
        let one = copies_joined_but_one law.rules.exact e (sent w.processes) (sent ps) 0 p p y.starts x.start (start_is y w sound p x at) (omega arith) (λ q s h. ap (λ o. sends_of (y.rules.step q) s (list_at done o)) (sym (new_other q h))) in
        let old : copies y.rules.order e (sends_of (y.rules.step p) x.start (done_of w.processes p)) ≡ copies y.rules.order e (sends_of (y.rules.step p) x.start (done x)) = ap (λ o. copies y.rules.order e (sends_of (y.rules.step p) x.start (list_at done o))) at in
        let new : copies y.rules.order e (sends_of (y.rules.step p) x.start (done_of ps p)) ≡ copies y.rules.order e (sends_of (y.rules.step p) z.start (done z)) = ap (λ o. copies y.rules.order e (sends_of (y.rules.step p) x.start (list_at done o))) new_here ∙ ap (λ s. copies y.rules.order e (sends_of (y.rules.step p) s (done z))) (sym kept.change.start) in
        omega (arith, one, old, new, copies-append law.rules.exact e y.initial (flatten (map_from 0 (sent w.processes) y.starts)), copies-append law.rules.exact e y.initial (flatten (map_from 0 (sent ps) y.starts)))

    held_ps : (e : Event B) → copies y.rules.order e (held_in ps) + copies y.rules.order e (held_messages x.held) ≡ copies y.rules.order e (held_in w.processes) + copies y.rules.order e (held_messages z.held)
    unfolding ps
    held_ps e = count-held_set y law e w.processes p x z at

    balance_here : (e : Event B) → e.to ≡ p → Balanced y ps (left ++ out) e
    balance_here e q =
        let old : slice_get w.processes e.to ≡ Some x = ap (slice_get w.processes) q ∙ at in
        let new : slice_get ps e.to ≡ Some z = ap (slice_get ps) q ∙ new_here in
        let a1 : copies y.rules.order e (done_of w.processes e.to) ≡ copies y.rules.order e (done x) = ap (λ o. copies y.rules.order e (list_at done o)) old in
        let a2 : copies y.rules.order e (pending_of w.processes e.to) ≡ copies y.rules.order e x.pending = ap (λ o. copies y.rules.order e (list_at (λ u. u.pending) o)) old in
        let a3 : copies y.rules.order e (debts_of w.processes e.to) ≡ copies y.rules.order e x.debts = ap (λ o. copies y.rules.order e (list_at (λ u. u.debts) o)) old in
        let b1 : copies y.rules.order e (done_of ps e.to) ≡ copies y.rules.order e (done z) = ap (λ o. copies y.rules.order e (list_at done o)) new in
        let b2 : copies y.rules.order e (pending_of ps e.to) ≡ copies y.rules.order e z.pending = ap (λ o. copies y.rules.order e (list_at (λ u. u.pending) o)) new in
        let b3 : copies y.rules.order e (debts_of ps e.to) ≡ copies y.rules.order e z.debts = ap (λ o. copies y.rules.order e (list_at (λ u. u.debts) o)) new in
        omega (arith, sums e, sound.balance e, kept.change.kept e, kept.change.sent e, held_ps e, parted.messages_are e, parted.antis_are e, messages-append y.rules.order e left out, antis-append y.rules.order e left out)

    balance_elsewhere : (e : Event B) → (e.to ≡ p → ⊥) → Balanced y ps (left ++ out) e
    balance_elsewhere e q =
        let same : slice_get ps e.to ≡ slice_get w.processes e.to = new_other e.to q in
        let a1 : copies y.rules.order e (done_of ps e.to) ≡ copies y.rules.order e (done_of w.processes e.to) = ap (λ o. copies y.rules.order e (list_at done o)) same in
        let a2 : copies y.rules.order e (pending_of ps e.to) ≡ copies y.rules.order e (pending_of w.processes e.to) = ap (λ o. copies y.rules.order e (list_at (λ u. u.pending) o)) same in
        let a3 : copies y.rules.order e (debts_of ps e.to) ≡ copies y.rules.order e (debts_of w.processes e.to) = ap (λ o. copies y.rules.order e (list_at (λ u. u.debts) o)) same in
        let none : messages y.rules.order e came + antis y.rules.order e came ≡ 0 = none_if (messages y.rules.order e came + antis y.rules.order e came) (λ k. q (parted.come_here e k)) in
        omega (arith, sums e, sound.balance e, kept.change.sent e, held_ps e, parted.messages_are e, parted.antis_are e, messages-append y.rules.order e left out, antis-append y.rules.order e left out)

    pub turned_sound : Sound y (record { processes = slice_set w.processes p z; letters = left ++ out; collected = w.collected })
    unfolding ps
    turned_sound = record {
      starts = map-set_same (λ u. u.start) w.processes p x z at kept.change.start ∙ sound.starts;
      each = λ q u h. each q u h (cases_eq q p);
      letters = letters_join y.rules w.collected left out left_sound kept.letters;
      balance = λ e. ⊎_elim (balance_here e) (balance_elsewhere e) (cases_eq e.to p);
    }
      where
        each : (q : ℕ) (u : ProcessState S B) → slice_get ps q ≡ Some u → (q ≡ p) ⊎ (q ≡ p → ⊥) → SoundAt y.rules w.collected q u
        each q u h (inl k) =
            let is : Some u ≡ Some z = sym h ∙ ap (slice_get ps) k ∙ new_here in
            let same : z ≡ u = cc in
            subst (λ r. SoundAt y.rules w.collected r u) (sym k) (subst (λ v. SoundAt y.rules w.collected p v) same kept.sound)
        each q u h (inr k) = sound.each q u (sym (new_other q k) ∙ h)

  -- whatever the turn was
  pub turn_sound : (t : Turn S B) → Keeps y.rules w.collected p x came t → Sound y (world_after w p left t).0
  turn_sound (Stays f) k = sound
  turn_sound (Turned z out) k = turned_sound z out k
