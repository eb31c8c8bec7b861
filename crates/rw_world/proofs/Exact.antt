-- In a sound world the done events before all that is outstanding are those of the run in time order.
use Rattle.std.proofs.Common.{◌≡◌, ℕ, ◌+◌, refl, arith, Option, Some, None}
use Rattle.std.specs.Prelude.{filter, nat_lt, slice_get}
use Rattle.rw_vt.specs.Order.{copies, Each, IsAscending}
use Rattle.rw_vt.specs.Letters.{messages, antis}
use Rattle.rw_vt.specs.System.{System, journal_below}
use Rattle.rw_vt.proofs.Bags.{none_if, Each-nil, Each-append}
use Rattle.rw_vt.proofs.Runs.{IsLawful}
use Rattle.rw_vt.proofs.Slices.{IsStory, IsExactBelow, agree_below}
use Rattle.rw_lp.specs.Process.{ProcessState, done}
use Rattle.rw_lp.specs.Sound.{Stands}
use Rattle.rw_world.specs.WorldState.{WorldState}
use Rattle.rw_world.specs.Sound.{list_at, done_of, pending_of, debts_of, held_in, Sound, IsQuiet}

module _ {S B : Type 0} (y : System S B) {WellFormed : ℕ → S → Type 0} (law : IsLawful y WellFormed) (w : WorldState S B) (sound : Sound y w) where
  done_sorted : (q : ℕ) → IsAscending y.rules.order (done_of w.processes q)
  done_sorted q = go (slice_get w.processes q) refl
    where
      go : (o : Option (ProcessState S B)) → slice_get w.processes q ≡ o → IsAscending y.rules.order (list_at done o)
      go None h = tt
      go (Some x) h = (sound.each q x h).order

  done_stands : (q : ℕ) → Each y.rules.order (Stands y.rules q) (done_of w.processes q)
  done_stands q = go (slice_get w.processes q) refl
    where
      go : (o : Option (ProcessState S B)) → slice_get w.processes q ≡ o → Each y.rules.order (Stands y.rules q) (list_at done o)
      go None h = Each-nil law.rules.exact (Stands y.rules q)
      go (Some x) h = Each-append law.rules.exact (Stands y.rules q) x.committed x.processed (sound.each q x h).committed_stand (sound.each q x h).processed_stand

  pub story : IsStory y.rules (done_of w.processes)
  story = record { fit = λ p a h. ((done_stands p a h).here, (done_stands p a h).valid); up = done_sorted }

  -- where nothing outstanding is before t, each event before t was done as often as it was sent
  exact : (t : ℕ) → IsQuiet y t w → IsExactBelow y t (done_of w.processes)
  exact t quiet e early =
      let no_pending : copies y.rules.order e (pending_of w.processes e.to) ≡ 0 = none_if (copies y.rules.order e (pending_of w.processes e.to)) (λ k. omega (arith, quiet.pending e.to e k)) in
      let no_debt : copies y.rules.order e (debts_of w.processes e.to) ≡ 0 = none_if (copies y.rules.order e (debts_of w.processes e.to)) (λ k. omega (arith, quiet.debts e.to e k)) in
      let no_letter : messages y.rules.order e w.letters + antis y.rules.order e w.letters ≡ 0 = none_if (messages y.rules.order e w.letters + antis y.rules.order e w.letters) (λ k. omega (arith, quiet.letters e k)) in
      let no_held : copies y.rules.order e (held_in w.processes) ≡ 0 = none_if (copies y.rules.order e (held_in w.processes)) (λ k. omega (arith, quiet.held e k)) in
      omega (arith, sound.balance e)

  -- the done events of time below t are those of the run in time order
  pub done_below : (t : ℕ) → IsQuiet y t w → (q : ℕ) → filter (λ e. nat_lt e.time t) (done_of w.processes q) ≡ journal_below y t q
  done_below t quiet q = agree_below y law (done_of w.processes) story t (exact t quiet) t (omega arith) q
