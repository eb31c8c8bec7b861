-- Execute, Undo, UndoLazily and Deliver keep a sound world sound.
use Rattle.std.proofs.Common.{◌≡◌, ℕ, ◌+◌, ◌<◌, true, false, [], ◌∷◌, refl, ap, arith, inl, inr, Option, Some, None}
use Rattle.std.specs.Prelude.{◌⊎◌, slice_get}
use Rattle.std.specs.Ordering.{is_eq}
use Rattle.std.proofs.lemmas.Bool.{cases_Bool}
use Rattle.rw_vt.specs.declared.event.Event.{Event}
use Rattle.rw_vt.specs.declared.event.Letter.{Letter}
use Rattle.rw_vt.specs.Order.{one_if_same}
use Rattle.rw_vt.specs.Letters.{messages, antis}
use Rattle.rw_vt.specs.System.{System}
use Rattle.rw_vt.proofs.Sorting.{tied}
use Rattle.rw_vt.proofs.Bags.{one_if-other}
use Rattle.rw_vt.proofs.Letters.{count-letter}
use Rattle.rw_vt.proofs.Runs.{IsLawful}
use Rattle.rw_lp.specs.Process as process
use Rattle.rw_lp.specs.Process.{ProcessState, Turn}
use Rattle.rw_lp.specs.Sound.{SoundAt, Keeps}
use Rattle.rw_lp.proofs.Cited.{deliver_keeps}
use Rattle.rw_world.specs.WorldState.{WorldState}
use Rattle.rw_world.specs.Steps.{remove_at, turn_at, deliver_to, deliver_letter}
use Rattle.rw_world.specs.Sound.{Sound}
use Rattle.rw_world.proofs.Starts.{start_is}
use Rattle.rw_world.proofs.OnTheirWay.{messages-remove_at, antis-remove_at, letters_fewer, letter_counts}
use Rattle.rw_world.proofs.Frame.{Parted, turn_sound as any_turn_sound}

module _ {S B : Type 0} (y : System S B) {WellFormed : ℕ → S → Type 0} (law : IsLawful y WellFormed) (w : WorldState S B) (sound : Sound y w) where
  -- nothing comes
  none_came : (p : ℕ) → Parted y p w.letters w.letters []
  none_came p = record { messages_are = λ e. omega arith; antis_are = λ e. omega arith; come_here = λ e k. absurd (omega arith) }

  good_start : (p : ℕ) (x : ProcessState S B) → slice_get w.processes p ≡ Some x → WellFormed p x.start
  good_start p x at = law.starts p x.start (start_is y w sound p x at)

  -- a turn to which no letter comes
  pub turn_sound : (p : ℕ) (step : ProcessState S B → Turn S B) → ((x : ProcessState S B) → WellFormed p x.start → SoundAt y.rules w.collected p x → Keeps y.rules w.collected p x [] (step x)) → Sound y (turn_at w p step (slice_get w.processes p)).0
  turn_sound p step keeps = find (slice_get w.processes p) refl
    where
      find : (o : Option (ProcessState S B)) → slice_get w.processes p ≡ o → Sound y (turn_at w p step o).0
      find None h = sound
      find (Some x) h = any_turn_sound y law w sound p x h w.letters [] (none_came p) sound.letters (step x) (keeps x (good_start p x h) (sound.each p x h))

  -- letter i comes
  one_came : (i : ℕ) (l : Letter B) → slice_get w.letters i ≡ Some l → Parted y l.event.to w.letters (remove_at w.letters i) (l ∷ [])
  one_came i l h = record {
    messages_are = λ e. omega (arith, messages-remove_at y e w.letters i l h);
    antis_are = λ e. omega (arith, antis-remove_at y e w.letters i l h);
    come_here = λ e k. here e (omega (arith, count-letter y.rules.order e l [])) (cases_Bool (is_eq (y.rules.order e l.event)));
  }
    where
      here : (e : Event B) → 0 < one_if_same y.rules.order e l.event → (is_eq (y.rules.order e l.event) ≡ true) ⊎ (is_eq (y.rules.order e l.event) ≡ false) → e.to ≡ l.event.to
      here e k (inl q) = ap (λ e. e.to) (tied law.rules.exact e l.event q)
      here e k (inr q) = let none = one_if-other law.rules.exact e l.event q in absurd (omega arith)

  pub deliver_sound : (i : ℕ) → Sound y (deliver_letter y w i (slice_get w.letters i)).0
  deliver_sound i = find (slice_get w.letters i) refl
    where
      place : (l : Letter B) → slice_get w.letters i ≡ Some l → (o : Option (ProcessState S B)) → slice_get w.processes l.event.to ≡ o → Sound y (deliver_to y w i l o).0
      place l is None h = sound
      place l is (Some x) h =
          let there : 0 < messages y.rules.order l.event w.letters + antis y.rules.order l.event w.letters = letter_counts y law w.letters i l is in
          any_turn_sound y law w sound l.event.to x h (remove_at w.letters i) (l ∷ []) (one_came i l is) (letters_fewer y w.collected w.letters i l is sound.letters) (process.deliver y.rules.order l x)
          (deliver_keeps y.rules law.rules w.collected l.event.to x (good_start l.event.to x h) (sound.each l.event.to x h) l
          (record { valid = sound.letters.valid l.event there; here = refl })
          (sound.letters.from l.event there))

      find : (o : Option (Letter B)) → slice_get w.letters i ≡ o → Sound y (deliver_letter y w i o).0
      find None h = sound
      find (Some l) h = place l h (slice_get w.processes l.event.to) refl
