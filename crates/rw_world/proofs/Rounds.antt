-- What all processes do at once keeps a sound world sound.
use Rattle.std.proofs.Common.{◌≡◌, ℕ, zero, suc, ◌+◌, ◌<◌, ◌≤◌, true, List, [], ◌∷◌, ◌++◌, length, map, refl, sym, ap, ◌∙◌, subst, arith, inl, inr, Option, Some, None}
use Rattle.std.specs.Prelude.{◌⊎◌, slice_get}
use Rattle.std.specs.Option.{option_map}
use Rattle.std.proofs.lemmas.Bool.{cases_lt}
use Rattle.std.proofs.lemmas.Option.{slice_get-map}
use Rattle.rw_vt.specs.declared.event.Event.{Event}
use Rattle.rw_vt.specs.declared.event.Letter.{Letter}
use Rattle.rw_vt.specs.Order.{copies}
use Rattle.rw_vt.specs.Letters.{messages, antis}
use Rattle.rw_vt.specs.System.{System, sends_of, map_from, flatten, all_sent}
use Rattle.rw_vt.proofs.Sorting.{copies-append}
use Rattle.rw_vt.proofs.Bags.{none_if}
use Rattle.rw_vt.proofs.Letters.{messages-append, antis-append}
use Rattle.rw_vt.proofs.Runs.{IsLawful}
use Rattle.rw_lp.specs.HeldMessages.{held_messages}
use Rattle.rw_lp.specs.Process.{ProcessState, done}
use Rattle.rw_lp.specs.Sound.{SoundAt, Kept, KeptAt}
use Rattle.rw_world.specs.WorldState.{WorldState}
use Rattle.rw_world.specs.Sound.{held_in, Sound, Balanced, list_at, done_of, pending_of, debts_of}
use Rattle.rw_world.specs.Rounds.{all_letters, Exchanged}
use Rattle.rw_world.proofs.Lookups.{some_at}
use Rattle.rw_world.proofs.Sums.{sum_only, sum_some}

module _ {S B : Type 0} (y : System S B) where
  module _ {WellFormed : ℕ → S → Type 0} (law : IsLawful y WellFormed) (g : ℕ) (came out : ℕ → List (Letter B)) where
    -- each keeps its own balance, from place k on
    abbrev Pairs : ℕ → List (ProcessState S B) → List (ProcessState S B) → Type 0
    Pairs k ps vs = (i j : ℕ) → j ≡ k + i → KeptAt y.rules g j (slice_get ps i) (slice_get vs i) (came j) (out j)

    -- what D gives at a place is done there
    abbrev Tells : ℕ → List (ProcessState S B) → (ℕ → List (Event B)) → Type 0
    Tells k ps D = (i j : ℕ) (x : ProcessState S B) → slice_get ps i ≡ Some x → j ≡ k + i → D j ≡ done x

    starts_stay : (k : ℕ) (ps vs : List (ProcessState S B)) → Pairs k ps vs → map (λ x. x.start) vs ≡ map (λ x. x.start) ps
    starts_stay k [] [] h = refl
    starts_stay k [] (z ∷ vs) h = absurd (h zero k (omega arith))
    starts_stay k (x ∷ ps) [] h = absurd (h zero k (omega arith))
    starts_stay k (x ∷ ps) (z ∷ vs) h =
        let rest = starts_stay (k + 1) ps vs (λ i j q. h (suc i) j (omega arith)) in
        let kept : Kept y.rules g k x z (came k) (out k) = h zero k (omega arith) in
        ap (λ s. s ∷ map (λ x. x.start) vs) kept.change.start ∙ ap (λ l. x.start ∷ l) rest

    -- what all send and hold changes by what all gave out
    sent_all : (e : Event B) (k : ℕ) (ps vs : List (ProcessState S B)) (D D' : ℕ → List (Event B)) → Pairs k ps vs → Tells k ps D → Tells k vs D' →
        copies y.rules.order e (flatten (map_from k (λ q s. sends_of (y.rules.step q) s (D' q)) (map (λ x. x.start) vs))) + copies y.rules.order e (held_in vs) + antis y.rules.order e (flatten (map_from k (λ q _. out q) (map (λ x. x.start) vs)))
        ≡ copies y.rules.order e (flatten (map_from k (λ q s. sends_of (y.rules.step q) s (D q)) (map (λ x. x.start) ps))) + copies y.rules.order e (held_in ps) + messages y.rules.order e (flatten (map_from k (λ q _. out q) (map (λ x. x.start) ps)))
    sent_all e k [] [] D D' h t t' = refl
    sent_all e k [] (z ∷ vs) D D' h t t' = absurd (h zero k (omega arith))
    sent_all e k (x ∷ ps) [] D D' h t t' = absurd (h zero k (omega arith))
    sent_all e k (x ∷ ps) (z ∷ vs) D D' h t t' =
        let kept : Kept y.rules g k x z (came k) (out k) = h zero k (omega arith) in
        let ih = sent_all e (k + 1) ps vs D D' (λ i j q. h (suc i) j (omega arith)) (λ i j a m q. t (suc i) j a m (omega arith)) (λ i j a m q. t' (suc i) j a m (omega arith)) in
        let a1 : copies y.rules.order e (sends_of (y.rules.step k) x.start (D k)) ≡ copies y.rules.order e (sends_of (y.rules.step k) x.start (done x)) = ap (λ l. copies y.rules.order e (sends_of (y.rules.step k) x.start l)) (t zero k x refl (omega arith)) in
        let a2 : copies y.rules.order e (sends_of (y.rules.step k) z.start (D' k)) ≡ copies y.rules.order e (sends_of (y.rules.step k) z.start (done z)) = ap (λ l. copies y.rules.order e (sends_of (y.rules.step k) z.start l)) (t' zero k z refl (omega arith)) in
        omega (
          arith,
          ih,
          a1,
          a2,
          kept.change.sent e,
          copies-append law.rules.exact e (sends_of (y.rules.step k) x.start (D k)) (flatten (map_from (k + 1) (λ q s. sends_of (y.rules.step q) s (D q)) (map (λ x. x.start) ps))),
          copies-append law.rules.exact e (sends_of (y.rules.step k) z.start (D' k)) (flatten (map_from (k + 1) (λ q s. sends_of (y.rules.step q) s (D' q)) (map (λ x. x.start) vs))),
          copies-append law.rules.exact e (held_messages x.held) (held_in ps),
          copies-append law.rules.exact e (held_messages z.held) (held_in vs),
          messages-append y.rules.order e (out k) (flatten (map_from (k + 1) (λ q _. out q) (map (λ x. x.start) ps))),
          antis-append y.rules.order e (out k) (flatten (map_from (k + 1) (λ q _. out q) (map (λ x. x.start) vs))),
        )

  module _ {WellFormed : ℕ → S → Type 0} (law : IsLawful y WellFormed) (w v : WorldState S B) (came out : ℕ → List (Letter B)) (sound : Sound y w) (ex : Exchanged y w v came out) where
    pairs : Pairs law w.collected came out 0 w.processes v.processes
    pairs i j q = let e : i ≡ j = omega arith in subst (λ n. KeptAt y.rules w.collected j (slice_get w.processes n) (slice_get v.processes n) (came j) (out j)) (sym e) (ex.kept j)

    started : map (λ x. x.start) v.processes ≡ y.starts
    started = starts_stay law w.collected came out 0 w.processes v.processes pairs ∙ sound.starts

    tells : (ps : List (ProcessState S B)) → Tells law w.collected came out 0 ps (done_of ps)
    tells ps i j x m q = let e : j ≡ i = omega arith in ap (λ n. done_of ps n) e ∙ ap (list_at done) m

    each : (q : ℕ) (z : ProcessState S B) → slice_get v.processes q ≡ Some z → SoundAt y.rules v.collected q z
    each q z h = subst (λ n. SoundAt y.rules n q z) (sym ex.collected) (go (slice_get w.processes q) (slice_get v.processes q) h (ex.kept q))
      where
        go : (a b : Option (ProcessState S B)) → b ≡ Some z → KeptAt y.rules w.collected q a b (came q) (out q) → SoundAt y.rules w.collected q z
        go (Some x) (Some u) m k = let is : u ≡ z = cc in subst (SoundAt y.rules w.collected q) is k.sound
        go None None m k = cc
        go (Some x) None m k = absurd k
        go None (Some u) m k = absurd k

    sent_in_all : (e : Event B) → copies y.rules.order e (all_sent y (done_of v.processes)) + copies y.rules.order e (held_in v.processes) + antis y.rules.order e (all_letters y out) ≡ copies y.rules.order e (all_sent y (done_of w.processes)) + copies y.rules.order e (held_in w.processes) + messages y.rules.order e (all_letters y out)
    sent_in_all e =
        let sends : List (ProcessState S B) → ℕ → S → List (Event B) = λ ps q s. sends_of (y.rules.step q) s (done_of ps q) in
        let all = sent_all law w.collected came out e 0 w.processes v.processes (done_of w.processes) (done_of v.processes) pairs (tells w.processes) (tells v.processes) in
        let a1 = ap (λ ss. copies y.rules.order e (flatten (map_from 0 (sends v.processes) ss))) started in
        let a2 = ap (λ ss. copies y.rules.order e (flatten (map_from 0 (sends w.processes) ss))) sound.starts in
        let a3 = ap (λ ss. antis y.rules.order e (flatten (map_from 0 (λ q _. out q) ss))) started in
        let a4 = ap (λ ss. messages y.rules.order e (flatten (map_from 0 (λ q _. out q) ss))) sound.starts in
        omega (arith, all, a1, a2, a3, a4, copies-append law.rules.exact e y.initial (flatten (map_from 0 (sends v.processes) y.starts)), copies-append law.rules.exact e y.initial (flatten (map_from 0 (sends w.processes) y.starts)))

    -- a place with no process
    absent : (q : ℕ) → length y.starts ≤ q → (b : Option (ProcessState S B)) → slice_get w.processes q ≡ b → b ≡ None
    absent q h None m = refl
    absent q h (Some x) m = absurd (never (ap (λ l. slice_get l q) (sym sound.starts) ∙ slice_get-map (λ u. u.start) w.processes q ∙ ap (option_map (λ u. u.start)) m))
      where
        within : {A : Type 0} (xs : List A) (n : ℕ) (a : A) → slice_get xs n ≡ Some a → n < length xs
        within [] n a k = cc
        within (b ∷ xs) zero a k = omega arith
        within (b ∷ xs) (suc n) a k = let r = within xs n a k in omega arith

        never : slice_get y.starts q ≡ Some x.start → ⊥
        never k = let r = within y.starts q x.start k in omega arith

    kept_at : (e : Event B) (q : ℕ) → (q < length y.starts) ⊎ (length y.starts ≤ q) → (cm ca : ℕ) → (q < length y.starts → (cm ≡ messages y.rules.order e (came q)) × (ca ≡ antis y.rules.order e (came q))) → (length y.starts ≤ q → (cm ≡ 0) × (ca ≡ 0)) →
        copies y.rules.order e (done_of v.processes q) + copies y.rules.order e (pending_of v.processes q) + copies y.rules.order e (debts_of w.processes q) + ca ≡ copies y.rules.order e (done_of w.processes q) + copies y.rules.order e (pending_of w.processes q) + copies y.rules.order e (debts_of v.processes q) + cm
    kept_at e q which cm ca there beyond = go (slice_get w.processes q) (slice_get v.processes q) refl which (ex.kept q)
      where
        go : (a b : Option (ProcessState S B)) → slice_get w.processes q ≡ a → (q < length y.starts) ⊎ (length y.starts ≤ q) → KeptAt y.rules w.collected q a b (came q) (out q) →
            copies y.rules.order e (list_at done b) + copies y.rules.order e (list_at (λ u. u.pending) b) + copies y.rules.order e (list_at (λ u. u.debts) a) + ca ≡ copies y.rules.order e (list_at done a) + copies y.rules.order e (list_at (λ u. u.pending) a) + copies y.rules.order e (list_at (λ u. u.debts) b) + cm
        go (Some x) (Some z) m (inl i) k = let t = there i in omega (arith, k.change.kept e, t.0, t.1)
        go (Some x) (Some z) m (inr o) k = let n : Some x ≡ None = absent q o (Some x) m in cc
        go None None m (inl i) k =
            let some : (s : S) × (slice_get y.starts q ≡ Some s) = some_at y.starts q i in
            let none : slice_get y.starts q ≡ None = ap (λ l. slice_get l q) (sym sound.starts) ∙ slice_get-map (λ u. u.start) w.processes q ∙ ap (option_map (λ u. u.start)) m in
            let never : Some some.0 ≡ None = sym some.1 ∙ none in cc
        go None None m (inr o) k = let t = beyond o in omega (arith, t.0, t.1)
        go (Some x) None m i k = absurd k
        go None (Some z) m i k = absurd k

    balance : (e : Event B) → Balanced y v.processes v.letters e
    balance e =
        let none : (r : ℕ) → (r ≡ e.to → ⊥) → messages y.rules.order e (came r) + antis y.rules.order e (came r) ≡ 0 = λ r n. none_if (messages y.rules.order e (came r) + antis y.rules.order e (came r)) (λ k. n (sym (ex.come_here r e k))) in
        let ms = sum_only (messages y.rules.order e) refl (messages-append y.rules.order e) came e.to 0 y.starts (λ r n. omega (arith, none r n)) in
        let as_ = sum_only (antis y.rules.order e) refl (antis-append y.rules.order e) came e.to 0 y.starts (λ r n. omega (arith, none r n)) in
        let here = kept_at e e.to (cases_lt e.to (length y.starts)) (messages y.rules.order e (all_letters y came)) (antis y.rules.order e (all_letters y came))
        (λ i. (ms.0 (omega arith) (omega arith), as_.0 (omega arith) (omega arith))) (λ o. (ms.2 (omega arith), as_.2 (omega arith))) in
        omega (
          arith,
          here,
          sent_in_all e,
          ex.messages_are e,
          ex.antis_are e,
          sound.balance e,
          messages-append y.rules.order e w.letters (all_letters y out),
          antis-append y.rules.order e w.letters (all_letters y out),
          messages-append y.rules.order e (all_letters y came) v.letters,
          antis-append y.rules.order e (all_letters y came) v.letters,
        )

    -- a letter that is left was there before, or was given out
    letter_sound : (e : Event B) → 0 < messages y.rules.order e v.letters + antis y.rules.order e v.letters → (y.rules.valid e ≡ true) × (w.collected ≤ e.time)
    letter_sound e h = go (cases_lt 0 (messages y.rules.order e w.letters + antis y.rules.order e w.letters))
      where
        at : (q : ℕ) → 0 < messages y.rules.order e (out q) + antis y.rules.order e (out q) → (a b : Option (ProcessState S B)) → slice_get w.processes q ≡ a → q < length y.starts → KeptAt y.rules w.collected q a b (came q) (out q) → (y.rules.valid e ≡ true) × (w.collected ≤ e.time)
        at q k (Some x) (Some z) m i c = (c.letters.valid e k, c.letters.from e k)
        at q k None None m i c =
            let some : (s : S) × (slice_get y.starts q ≡ Some s) = some_at y.starts q i in
            let none : slice_get y.starts q ≡ None = ap (λ l. slice_get l q) (sym sound.starts) ∙ slice_get-map (λ u. u.start) w.processes q ∙ ap (option_map (λ u. u.start)) m in
            let never : Some some.0 ≡ None = sym some.1 ∙ none in cc
        at q k (Some x) None m i c = absurd c
        at q k None (Some z) m i c = absurd c

        both : (xs ys : List (Letter B)) → messages y.rules.order e (xs ++ ys) + antis y.rules.order e (xs ++ ys) ≡ (messages y.rules.order e xs + antis y.rules.order e xs) + (messages y.rules.order e ys + antis y.rules.order e ys)
        both xs ys = omega (arith, messages-append y.rules.order e xs ys, antis-append y.rules.order e xs ys)

        go : (0 < messages y.rules.order e w.letters + antis y.rules.order e w.letters) ⊎ (messages y.rules.order e w.letters + antis y.rules.order e w.letters ≤ 0) → (y.rules.valid e ≡ true) × (w.collected ≤ e.time)
        go (inl a) = (sound.letters.valid e a, sound.letters.from e a)
        go (inr a) =
            let given : 0 < messages y.rules.order e (all_letters y out) + antis y.rules.order e (all_letters y out) = omega (arith, h, a, ex.messages_are e, ex.antis_are e, both w.letters (all_letters y out), both (all_letters y came) v.letters) in
            let some = sum_some (λ ls. messages y.rules.order e ls + antis y.rules.order e ls) refl both out 0 y.starts given in
            at some.0 some.2 (slice_get w.processes some.0) (slice_get v.processes some.0) refl (let b = some.1 in omega arith) (ex.kept some.0)

    -- whatever the order of turns and letters was
    pub exchanged_sound : Sound y v
    exchanged_sound = record {
      starts = started;
      each = each;
      letters = record { valid = λ e k. (letter_sound e k).0; from = λ e k. let h = (letter_sound e k).1 in omega (arith, ex.collected) };
      balance = balance;
    }
