use Rattle.std.proofs.Common.{◌≡◌, ℕ, zero, suc, true, List, [], ◌∷◌, length, sym, ap, ◌∙◌, arith, Some, subst}
use Rattle.std.specs.Prelude.{slice_get}
use Rattle.std.specs.List.{All}
use Rattle.std.proofs.lemmas.List.Elements.{All-cons, All-nil, All-same}
use Rattle.rw_vt.specs.declared.event.Event.{Event}
use Rattle.rw_relay.specs.declared.Parcel.{Parcel}
use Rattle.rw_relay.specs.declared.Station.{Station}
use Rattle.rw_relay.specs.Parcels.{is_sound_event, IsStation}
use Rattle.rw_relay.proofs.parcels.beginning.Goals as goal

new_station : IsStation (record { sum = 0; last = 0; sends = 0 })
new_station = record { sum = omega arith; last = omega arith; sends = omega arith }

both_new : (ss : List Station) (a b : Station) → ss ≡ a ∷ b ∷ [] → IsStation a → IsStation b → (p : ℕ) (s : Station) → slice_get ss p ≡ Some s → IsStation s
both_new ss a b is one two p s at = go p (sym (ap (λ l. slice_get l p) is) ∙ at)
  where
    go : (p : ℕ) → slice_get (a ∷ b ∷ []) p ≡ Some s → IsStation s
    go zero h = let e : a ≡ s = cc in subst IsStation e one
    go (suc zero) h = let e : b ≡ s = cc in subst IsStation e two
    go (suc (suc p)) h = cc

both_sound : (es : List (Event Parcel)) (a b : Event Parcel) → es ≡ a ∷ b ∷ [] → is_sound_event a ≡ true → is_sound_event b ≡ true → All (λ e. is_sound_event e ≡ true) es
both_sound es a b is one two = All-same (λ e. is_sound_event e ≡ true) es (a ∷ b ∷ []) is (All-cons (λ e. is_sound_event e ≡ true) a (b ∷ []) one (All-cons (λ e. is_sound_event e ≡ true) b [] two (All-nil (λ e. is_sound_event e ≡ true))))

pub returns : goal.returns
returns c = record {
  ready = λ m. record {
    enough = ap length c.in_ok-starts.ensures.items;
    well_formed = λ p s at. both_new c.in_ok-starts.starts.items c.station.result c.station-2.result c.in_ok-starts.ensures.items (subst IsStation (sym c.station.ensures) new_station) (subst IsStation (sym c.station-2.ensures) new_station) p s at;
    valid = both_sound c.in_ok-initial.initial.items c.args.first c.args.second c.in_ok-initial.ensures.items c.requires.first c.requires.second;
  };
}
