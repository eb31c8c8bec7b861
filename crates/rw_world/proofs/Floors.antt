-- The floor, found by loops; and that it is the end of time exactly in a finished world.
use Rattle.std.proofs.Common.{◌≡◌, ℕ, zero, suc, ◌^◌, ◌<◌, ◌≤◌, min, Bool, true, false, List, [], ◌∷◌, refl, sym, ap, ◌∙◌, subst, arith, eqb, Some}
use Rattle.std.specs.Prelude.{◌&&◌, slice_get}
use Rattle.std.proofs.lemmas.Bool.{eqb-true, eq-eqb, false≢true, and_parts}
use Rattle.std.proofs.lemmas.List.Elements.{All-head}
use Rattle.rw_vt.specs.declared.event.Event.{Event}
use Rattle.rw_vt.specs.declared.event.Letter.{Letter}
use Rattle.rw_vt.specs.Order.{Each, Has}
use Rattle.rw_vt.specs.System.{System}
use Rattle.rw_vt.proofs.Sorting.{Has-head}
use Rattle.rw_vt.proofs.Runs.{IsLawful}
use Rattle.rw_lp.specs.HeldMessages.{held_messages}
use Rattle.rw_lp.specs.Process.{ProcessState}
use Rattle.rw_bag.specs.Bags.{least_time}
use Rattle.rw_lp.specs.Sound.{Stands, IsHeldFor, SoundAt}
use Rattle.rw_lp.specs.declared.held.Held.{Held}
use Rattle.rw_lp.specs.Calls.{least_of_processes}
use Rattle.rw_world.specs.WorldState.{WorldState, least_of_letters, floor, is_empty, are_idle, is_finished}
use Rattle.rw_world.specs.Sound.{Sound, IsQuiet, list_at}
use Rattle.rw_world.proofs.OnTheirWay.{letter_counts}
use Rattle.rw_world.proofs.Outstanding.{quiet_to_floor}

pub letters_min : {B : Type 0} (a b : ℕ) (ls : List (Letter B)) → least_of_letters (min a b) ls ≡ min b (least_of_letters a ls)
letters_min a b [] = omega arith
letters_min a b (l ∷ ls) = omega (arith, letters_min a b ls)

module _ {S B : Type 0} where
  -- where nothing is outstanding the floor is the end
  idle_end : (end : ℕ) (ps : List (ProcessState S B)) → are_idle ps ≡ true → least_of_processes end ps ≡ end
  idle_end end [] h = refl
  idle_end end (x ∷ ps) h =
      let a = and_parts (is_empty x.pending) (is_empty x.debts && (is_empty x.held && are_idle ps)) h in
      let b = and_parts (is_empty x.debts) (is_empty x.held && are_idle ps) a.1 in
      let c = and_parts (is_empty x.held) (are_idle ps) b.1 in
      held x.held c.0 (least_of_processes end ps) x.debts x.pending
      ∙ none x.debts b.0 (least_of_processes end ps) x.pending
      ∙ last x.pending a.0 (least_of_processes end ps)
      ∙ idle_end end ps c.1
    where
      held : (hs : List (Held B)) → is_empty hs ≡ true → (m : ℕ) (ds es : List (Event B)) → least_time (least_time (least_time m (held_messages hs)) ds) es ≡ least_time (least_time m ds) es
      held [] h m ds es = refl
      held (x ∷ hs) h m ds es = elim (false≢true h) [ ]

      none : (ds : List (Event B)) → is_empty ds ≡ true → (m : ℕ) (es : List (Event B)) → least_time (least_time m ds) es ≡ least_time m es
      none [] h m es = refl
      none (x ∷ ds) h m es = elim (false≢true h) [ ]

      last : (es : List (Event B)) → is_empty es ≡ true → (m : ℕ) → least_time m es ≡ m
      last [] h m = refl
      last (x ∷ es) h m = elim (false≢true h) [ ]

  finished_end : (w : WorldState S B) → is_finished w ≡ true → floor w ≡ 2 ^ 40
  finished_end w h =
      let a = and_parts (is_empty w.letters) (are_idle w.processes) h in
      no_letters w.letters a.0 (least_of_processes (2 ^ 40) w.processes) ∙ idle_end (2 ^ 40) w.processes a.1
    where
      no_letters : (ls : List (Letter B)) → is_empty ls ≡ true → (m : ℕ) → least_of_letters m ls ≡ m
      no_letters [] h m = refl
      no_letters (l ∷ ls) h m = elim (false≢true h) [ ]

module _ {S B : Type 0} (y : System S B) {WellFormed : ℕ → S → Type 0} (law : IsLawful y WellFormed) (w : WorldState S B) (sound : Sound y w) (end : ℕ) (late : (e : Event B) → y.rules.valid e ≡ true → e.time < end) where
  -- events that stand somewhere, and none of which is before the end, are none
  no_events : (q : ℕ) (es : List (Event B)) → Each y.rules.order (Stands y.rules q) es → Each y.rules.order (λ e. end ≤ e.time) es → is_empty es ≡ true
  no_events q [] s h = refl
  no_events q (e ∷ es) s h =
      let there : Has y.rules.order (e ∷ es) e = Has-head law.rules.exact e es in
      let a = late e (s e there).valid in
      let b = h e there in
      absurd (omega arith)

  none_held : (es : List (Event B)) (hs : List (Held B)) → is_empty es ≡ true → (h : (x : Held B) (rest : List (Held B)) → hs ≡ x ∷ rest → Has y.rules.order es x.undone) → is_empty hs ≡ true
  none_held es [] e h = refl
  none_held [] (x ∷ hs) e h = let k = h x hs refl in absurd (omega arith)
  none_held (a ∷ es) (x ∷ hs) e h = elim (false≢true e) [ ]

  idle_at : (q : ℕ) (x : ProcessState S B) → slice_get w.processes q ≡ Some x → IsQuiet y end w → (is_empty x.pending ≡ true) × (is_empty x.debts ≡ true) × (is_empty x.held ≡ true)
  idle_at q x at quiet =
      let here : SoundAt y.rules w.collected q x = sound.each q x at in
      let pending = no_events q x.pending here.pending_stand (subst (λ o. Each y.rules.order (λ e. end ≤ e.time) (list_at (λ u. u.pending) o)) at (quiet.pending q)) in
      let debts = no_events q x.debts here.debts_stand (subst (λ o. Each y.rules.order (λ e. end ≤ e.time) (list_at (λ u. u.debts) o)) at (quiet.debts q)) in
      (pending, debts, none_held x.pending x.held pending (λ z rest is. (All-head (λ h. IsHeldFor y.rules x.pending h) z rest (subst (λ hs. Rattle.std.specs.List.All (λ h. IsHeldFor y.rules x.pending h) hs) is here.held)).there))

  all_idle : (ps : List (ProcessState S B)) → ((q : ℕ) (x : ProcessState S B) → slice_get ps q ≡ Some x → (is_empty x.pending ≡ true) × (is_empty x.debts ≡ true) × (is_empty x.held ≡ true)) → are_idle ps ≡ true
  all_idle [] h = refl
  all_idle (x ∷ ps) h =
      let a = h zero x refl in
      let rest = all_idle ps (λ q z k. h (suc q) z k) in
      rw (a.0, a.1, a.2, rest) refl

  no_letter : (ls : List (Letter B)) → w.letters ≡ ls → IsQuiet y end w → is_empty ls ≡ true
  no_letter [] is quiet = refl
  no_letter (l ∷ ls) is quiet =
      let there = letter_counts y law w.letters zero l (ap (λ z. slice_get z zero) is) in
      let a = late l.event (sound.letters.valid l.event there) in
      let b = quiet.letters l.event there in
      absurd (omega arith)

  end_finished : end ≤ floor w → is_finished w ≡ true
  end_finished h =
      let quiet = quiet_to_floor y law end w h in
      let idle : are_idle w.processes ≡ true = all_idle w.processes (λ q x at. idle_at q x at quiet) in
      let empty : is_empty w.letters ≡ true = no_letter w.letters refl quiet in
      rw (empty, idle) refl

-- a sound world is finished exactly where the floor is the end
pub finished_is : {S B : Type 0} (y : System S B) {WellFormed : ℕ → S → Type 0} (law : IsLawful y WellFormed) (w : WorldState S B) → Sound y w → eqb (floor w) (2 ^ 40) ≡ is_finished w
finished_is y law w sound = go (is_finished w) refl (eqb (floor w) (2 ^ 40)) refl
  where
    go : (b : Bool) → is_finished w ≡ b → (t : Bool) → eqb (floor w) (2 ^ 40) ≡ t → t ≡ b
    go true f t e = sym e ∙ eq-eqb (floor w) (2 ^ 40) (finished_end w f)
    go false f true e =
        let at : floor w ≡ 2 ^ 40 = eqb-true (floor w) (2 ^ 40) e in
        sym (end_finished y law w sound (2 ^ 40) (λ a v. (law.inside a v).time) (omega arith)) ∙ f
    go false f false e = refl
