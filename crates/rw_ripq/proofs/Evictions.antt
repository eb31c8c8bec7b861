-- The eviction does not depend on its fuel, where each turn lowers the measure.
use Rattle.std.proofs.Common.{◌≡◌, ℕ, ◌≤◌, ◌<◌, refl, ◌∙◌, arith, true, suc, zero}
use Rattle.rw_ripq.proofs.Basics.{by_bool}
use Rattle.rw_ripq.proofs.Folds.{measure}
use Rattle.rw_ripq.specs.Evict.{evict, evict_last, evict_within, is_over}
use Rattle.rw_ripq.specs.Work.{Work}

pub record Falls (Good : Work → Type 0) : Type 0 where
  pub good : (w : Work) → Good w → is_over w.queue ≡ true → Good (evict_last w)
  pub lower : (w : Work) → Good w → is_over w.queue ≡ true → measure (evict_last w).queue < measure w.queue

pub fuel_enough : (Good : Work → Type 0) → Falls Good → (n m : ℕ) (w : Work) → Good w → measure w.queue ≤ n → measure w.queue ≤ m → evict_within n w ≡ evict_within m w
fuel_enough Good falls zero zero w g le le' = refl
fuel_enough Good falls zero (suc m) w g le le' =
    by_bool (is_over w.queue)
    (λ t. absurd (omega (arith, falls.lower w g t)))
    (λ f. rw (f, evict_within) refl)
fuel_enough Good falls (suc n) zero w g le le' =
    by_bool (is_over w.queue)
    (λ t. absurd (omega (arith, falls.lower w g t)))
    (λ f. rw (f, evict_within) refl)
fuel_enough Good falls (suc n) (suc m) w g le le' =
    by_bool (is_over w.queue)
    (λ t. rw (t, evict_within) (fuel_enough Good falls n m (evict_last w) (falls.good w g t) (omega (arith, falls.lower w g t)) (omega (arith, falls.lower w g t))))
    (λ f. rw (f, evict_within) refl)

pub evict-turn : (Good : Work → Type 0) → Falls Good → (w : Work) → Good w → is_over w.queue ≡ true → evict w ≡ evict (evict_last w)
evict-turn Good falls w g t =
    fuel_enough Good falls (measure w.queue) (suc (measure w.queue)) w g (omega arith) (omega arith)
    ∙ step
    ∙ fuel_enough Good falls (measure w.queue) (measure (evict_last w).queue) (evict_last w) (falls.good w g t) (omega (arith, falls.lower w g t)) (omega arith)
  where
    step : evict_within (suc (measure w.queue)) w ≡ evict_within (measure w.queue) (evict_last w)
    step = rw (t, evict_within) refl
