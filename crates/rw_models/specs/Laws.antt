-- The laws of models that are made from a model, for those of the model inside.
use Rattle.std.specs.Prelude.{◌≡◌, Bool, true, false, ◌&&◌, List, [], ◌∷◌, cond, nat_lt, refl, All}
use Rattle.std.proofs.lemmas.List.Elements.{All-cons, All-head, All-nil, All-tail}
use Rattle.rw_vt.specs.Words.{Time}
use Rattle.rw_vt.specs.declared.event.Event.{Event}
use Rattle.rw_models.specs.Until.{events_before}

-- where both tests pass, the first does
pub first_test : (a b : Bool) → (a && b) ≡ true → a ≡ true
first_test true b h = refl
first_test false b h = h

-- where a test passes each event that is sent, it and that of the end pass each that is sent before the end
pub future_before : {B : Type 0} (P : Event B → Type 0) (valid : Event B → Bool) (end : Time)
    (es : List (Event B)) → All (λ f. P f × (valid f ≡ true)) es
    → All (λ f. P f × ((valid f && nat_lt f.time end) ≡ true)) (events_before end es)
future_before {B} P valid end [] h = All-nil (λ f. P f × ((valid f && nat_lt f.time end) ≡ true))
future_before {B} P valid end (e ∷ es) h =
    by (nat_lt e.time end) refl
    (future_before P valid end es (All-tail (λ f. P f × (valid f ≡ true)) e es h))
  where
    first : P e × (valid e ≡ true)
    first = All-head (λ f. P f × (valid f ≡ true)) e es h

    both : (a b : Bool) → a ≡ true → b ≡ true → (a && b) ≡ true
    both true b h k = k
    both false b h k = h

    by : (b : Bool) → nat_lt e.time end ≡ b
        → All (λ f. P f × ((valid f && nat_lt f.time end) ≡ true)) (events_before end es)
        → All (λ f. P f × ((valid f && nat_lt f.time end) ≡ true))
        (cond b (e ∷ events_before end es) (events_before end es))
    by true t rest = All-cons (λ f. P f × ((valid f && nat_lt f.time end) ≡ true)) e
        (events_before end es) (first.0, both (valid e) (nat_lt e.time end) first.1 t) rest
    by false t rest = rest
