-- What the floor, and a finished world, say of what is outstanding.
use Rattle.std.proofs.Common.{◌≡◌, ℕ, zero, suc, ◌+◌, ◌^◌, ◌<◌, ◌≤◌, true, false, List, [], ◌∷◌, ap, subst, refl, arith, inl, inr, Option, Some, None}
use Rattle.std.specs.Prelude.{◌⊎◌, ◌&&◌, slice_get}
use Rattle.std.specs.Ordering.{is_eq}
use Rattle.std.proofs.lemmas.Bool.{cases_Bool, false≢true, and_parts}
use Rattle.rw_vt.specs.declared.event.Event.{Event}
use Rattle.rw_vt.specs.declared.event.Letter.{Letter}
use Rattle.rw_vt.specs.Order.{Each}
use Rattle.rw_vt.specs.Letters.{messages, antis}
use Rattle.rw_vt.specs.System.{System}
use Rattle.rw_vt.proofs.Sorting.{tied}
use Rattle.rw_vt.proofs.Bags.{one_if-other, Each-cons, Each-append}
use Rattle.rw_vt.proofs.Letters.{count-letter}
use Rattle.rw_vt.proofs.Runs.{IsLawful}
use Rattle.rw_lp.specs.declared.held.Held.{Held}
use Rattle.rw_lp.specs.HeldMessages.{held_messages}
use Rattle.rw_lp.specs.Process.{ProcessState}
use Rattle.rw_lp.specs.Sound.{SoundAt}
use Rattle.rw_lp.proofs.Cited.{held_from}
use Rattle.rw_lp.specs.Calls.{least_of_processes}
use Rattle.rw_world.specs.WorldState.{WorldState, least_of_letters, floor, is_empty, are_idle, is_finished}
use Rattle.rw_bag.specs.Bags.{least_time}
use Rattle.rw_world.specs.Sound.{held_in, Sound, IsQuiet, list_at, pending_of, debts_of}

module _ {S B : Type 0} (y : System S B) where
  module _ {WellFormed : ℕ → S → Type 0} (law : IsLawful y WellFormed) (t : ℕ) where
    within_least : (m : ℕ) (xs : List (Event B)) → t ≤ least_time m xs → (t ≤ m) × Each y.rules.order (λ e. t ≤ e.time) xs
    within_least m [] h = (h, λ e k. absurd (omega arith))
    within_least m (x ∷ xs) h =
        let ih : (t ≤ m) × Each y.rules.order (λ e. t ≤ e.time) xs = within_least m xs (omega arith) in
        (ih.0, Each-cons law.rules.exact (λ e. t ≤ e.time) x xs (omega arith) ih.1)

    within_processes : (m : ℕ) (ps : List (ProcessState S B)) → t ≤ least_of_processes m ps → (t ≤ m) × ((q : ℕ) → Each y.rules.order (λ e. t ≤ e.time) (pending_of ps q)) × ((q : ℕ) → Each y.rules.order (λ e. t ≤ e.time) (debts_of ps q)) × Each y.rules.order (λ e. t ≤ e.time) (held_in ps)
    within_processes m [] h = (h, (λ q e k. absurd (omega arith)), (λ q e k. absurd (omega arith)), λ e k. absurd (omega arith))
    within_processes m (x ∷ ps) h =
        let held = held_messages x.held in
        let one : (t ≤ least_time (least_time (least_of_processes m ps) held) x.debts) × Each y.rules.order (λ e. t ≤ e.time) x.pending = within_least (least_time (least_time (least_of_processes m ps) held) x.debts) x.pending h in
        let two : (t ≤ least_time (least_of_processes m ps) held) × Each y.rules.order (λ e. t ≤ e.time) x.debts = within_least (least_time (least_of_processes m ps) held) x.debts one.0 in
        let three : (t ≤ least_of_processes m ps) × Each y.rules.order (λ e. t ≤ e.time) held = within_least (least_of_processes m ps) held two.0 in
        let ih = within_processes m ps three.0 in
        (ih.0, at_pending one.1 ih.1, at_debts two.1 ih.2, Each-append law.rules.exact (λ e. t ≤ e.time) held (held_in ps) three.1 ih.3)
      where
        at_pending : Each y.rules.order (λ e. t ≤ e.time) x.pending → ((q : ℕ) → Each y.rules.order (λ e. t ≤ e.time) (pending_of ps q)) → (q : ℕ) → Each y.rules.order (λ e. t ≤ e.time) (pending_of (x ∷ ps) q)
        at_pending a b zero = a
        at_pending a b (suc q) = b q

        at_debts : Each y.rules.order (λ e. t ≤ e.time) x.debts → ((q : ℕ) → Each y.rules.order (λ e. t ≤ e.time) (debts_of ps q)) → (q : ℕ) → Each y.rules.order (λ e. t ≤ e.time) (debts_of (x ∷ ps) q)
        at_debts a b zero = a
        at_debts a b (suc q) = b q

    within_letters : (m : ℕ) (ls : List (Letter B)) → t ≤ least_of_letters m ls → (t ≤ m) × ((e : Event B) → 0 < messages y.rules.order e ls + antis y.rules.order e ls → t ≤ e.time)
    within_letters m [] h = (h, λ e k. absurd (omega arith))
    within_letters m (l ∷ ls) h =
        let ih : (t ≤ m) × ((e : Event B) → 0 < messages y.rules.order e ls + antis y.rules.order e ls → t ≤ e.time) = within_letters m ls (omega arith) in
        (ih.0, λ e k. here ih.1 e k (cases_Bool (is_eq (y.rules.order e l.event))))
      where
        here : ((e : Event B) → 0 < messages y.rules.order e ls + antis y.rules.order e ls → t ≤ e.time) → (e : Event B) → 0 < messages y.rules.order e (l ∷ ls) + antis y.rules.order e (l ∷ ls) → (is_eq (y.rules.order e l.event) ≡ true) ⊎ (is_eq (y.rules.order e l.event) ≡ false) → t ≤ e.time
        here rest e k (inl q) = let at : e.time ≡ l.event.time = ap (λ e. e.time) (tied law.rules.exact e l.event q) in omega arith
        here rest e k (inr q) = let none = one_if-other law.rules.exact e l.event q in rest e (omega (arith, count-letter y.rules.order e l ls))

    pub quiet_to_floor : (w : WorldState S B) → t ≤ floor w → IsQuiet y t w
    quiet_to_floor w h =
        let ls = within_letters (least_of_processes (2 ^ 40) w.processes) w.letters h in
        let ps = within_processes (2 ^ 40) w.processes ls.0 in
        record { pending = ps.1; debts = ps.2; letters = ls.1; held = ps.3 }

  module _ {WellFormed : ℕ → S → Type 0} (law : IsLawful y WellFormed) where
    -- where nothing is outstanding, any time is quiet
    empty_none : (t : ℕ) (xs : List (Event B)) → is_empty xs ≡ true → Each y.rules.order (λ e. t ≤ e.time) xs
    empty_none t [] h = λ e k. absurd (omega arith)
    empty_none t (x ∷ xs) h = elim (false≢true h) [ ]

    idle_none : (t : ℕ) (ps : List (ProcessState S B)) → are_idle ps ≡ true → (q : ℕ) → Each y.rules.order (λ e. t ≤ e.time) (pending_of ps q) × Each y.rules.order (λ e. t ≤ e.time) (debts_of ps q)
    idle_none t [] h q = ((λ e k. absurd (omega arith)), (λ e k. absurd (omega arith)))
    idle_none t (x ∷ ps) h zero =
        let a = and_parts (is_empty x.pending) (is_empty x.debts && (is_empty x.held && are_idle ps)) h in
        let b = and_parts (is_empty x.debts) (is_empty x.held && are_idle ps) a.1 in
        (empty_none t x.pending a.0, empty_none t x.debts b.0)
    idle_none t (x ∷ ps) h (suc q) =
        let a = and_parts (is_empty x.pending) (is_empty x.debts && (is_empty x.held && are_idle ps)) h in
        let b = and_parts (is_empty x.debts) (is_empty x.held && are_idle ps) a.1 in
        let c = and_parts (is_empty x.held) (are_idle ps) b.1 in
        idle_none t ps c.1 q

    idle_held : (t : ℕ) (ps : List (ProcessState S B)) → are_idle ps ≡ true → Each y.rules.order (λ e. t ≤ e.time) (held_in ps)
    idle_held t [] h = λ e k. absurd (omega arith)
    idle_held t (x ∷ ps) h =
        let a = and_parts (is_empty x.pending) (is_empty x.debts && (is_empty x.held && are_idle ps)) h in
        let b = and_parts (is_empty x.debts) (is_empty x.held && are_idle ps) a.1 in
        let c = and_parts (is_empty x.held) (are_idle ps) b.1 in
        Each-append law.rules.exact (λ e. t ≤ e.time) (held_messages x.held) (held_in ps) (none x.held c.0) (idle_held t ps c.1)
      where
        none : (hs : List (Held B)) → is_empty hs ≡ true → Each y.rules.order (λ e. t ≤ e.time) (held_messages hs)
        none [] q = λ e k. absurd (omega arith)
        none (x ∷ hs) q = elim (false≢true q) [ ]

    no_letters : (t : ℕ) (ls : List (Letter B)) → is_empty ls ≡ true → (e : Event B) → 0 < messages y.rules.order e ls + antis y.rules.order e ls → t ≤ e.time
    no_letters t [] h e k = absurd (omega arith)
    no_letters t (l ∷ ls) h e k = elim (false≢true h) [ ]

    pub quiet_when_finished : (t : ℕ) (w : WorldState S B) → is_finished w ≡ true → IsQuiet y t w
    quiet_when_finished t w h =
        let a = and_parts (is_empty w.letters) (are_idle w.processes) h in
        record { pending = λ q. (idle_none t w.processes a.1 q).0; debts = λ q. (idle_none t w.processes a.1 q).1; letters = no_letters t w.letters a.0; held = idle_held t w.processes a.1 }

  module _ {WellFormed : ℕ → S → Type 0} (law : IsLawful y WellFormed) (w : WorldState S B) (sound : Sound y w) where
    held_all : (g : ℕ) (i : ℕ) (ps : List (ProcessState S B)) → ((q : ℕ) (x : ProcessState S B) → slice_get ps q ≡ Some x → SoundAt y.rules g (i + q) x) → Each y.rules.order (λ e. g ≤ e.time) (held_in ps)
    held_all g i [] f = λ e k. absurd (omega arith)
    held_all g i (x ∷ ps) f =
        let at = f zero x refl in
        Each-append law.rules.exact (λ e. g ≤ e.time) (held_messages x.held) (held_in ps)
        (held_from y.rules law.rules g x.pending at.pending_from x.held at.held)
        (held_all g (suc i) ps (λ q z h. let k : i + suc q ≡ suc i + q = omega arith in subst (λ n. SoundAt y.rules g n z) k (f (suc q) z h)))

    pub quiet_collected : IsQuiet y w.collected w
    quiet_collected = record { pending = λ q. pending q (slice_get w.processes q) refl; debts = λ q. debts q (slice_get w.processes q) refl; letters = sound.letters.from; held = held w.processes (λ q x h. sound.each q x h) }
      where
        held : (ps : List (ProcessState S B)) → ((q : ℕ) (x : ProcessState S B) → slice_get ps q ≡ Some x → SoundAt y.rules w.collected q x) → Each y.rules.order (λ e. w.collected ≤ e.time) (held_in ps)
        held ps f = held_all w.collected 0 ps (λ q x h. let k : q ≡ 0 + q = omega arith in subst (λ n. SoundAt y.rules w.collected n x) k (f q x h))

        pending : (q : ℕ) (o : Option (ProcessState S B)) → slice_get w.processes q ≡ o → Each y.rules.order (λ e. w.collected ≤ e.time) (list_at (λ x. x.pending) o)
        pending q None h = λ e k. absurd (omega arith)
        pending q (Some x) h = (sound.each q x h).pending_from

        debts : (q : ℕ) (o : Option (ProcessState S B)) → slice_get w.processes q ≡ o → Each y.rules.order (λ e. w.collected ≤ e.time) (list_at (λ x. x.debts) o)
        debts q None h = λ e k. absurd (omega arith)
        debts q (Some x) h = (sound.each q x h).debts_from
