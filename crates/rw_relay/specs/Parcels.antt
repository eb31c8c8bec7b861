-- Parcels between two stations: which events may come, what each does, and the laws of that.
use Rattle.std.specs.Prelude.{◌≡◌, ◌<◌, ◌+◌, ◌-◌, ◌%◌, ◌^◌, ℕ, Bool, true, false, List, [], ◌∷◌, nat_lt, nat_le, ◌&&◌, cond, All, refl, if◌then◌else◌}
use Rattle.std.specs.declared.cmp.Ordering.TheVariants.{Equal}
use Rattle.std.specs.Ordering.{nat_cmp}
use Rattle.std.proofs.Common.{arith, ap}
use Rattle.std.proofs.lemmas.Bool.Decides.{nat_tests}
use Rattle.std.proofs.lemmas.List.Elements.{All-cons, All-nil}
use Rattle.std.proofs.lemmas.Cmp.{ranked, by_ranked}
use Rattle.rw_vt.specs.Limits.{end_of_time}
use Rattle.rw_vt.specs.Words.{Process}
use Rattle.rw_vt.specs.declared.event.Event.{Event}
use Rattle.rw_vt.specs.Valid.{IsInRange, IsSentBy}
use Rattle.rw_relay.specs.declared.Relay.{Relay}
use Rattle.rw_relay.specs.declared.Station.{Station}
use Rattle.rw_relay.specs.declared.Parcel.{Parcel}
use Rattle.rw_relay.specs.declared.Track.{Track}

-- an event that may be handed to its process
abbrev pub is_sound_event : Event Parcel → Bool
is_sound_event e =
    nat_lt e.time end_of_time && nat_le e.source 2 && nat_lt e.number (2 ^ 64) && nat_lt e.to 2
    && nat_lt e.body.hops (2 ^ 32)

-- a station's numbers are in the ranges of their types
pub record IsStation (s : Station) : Type 0 where
  pub sum : s.sum < 2 ^ 64
  pub last : s.last < 2 ^ 32
  pub sends : s.sends < 2 ^ 64

-- whether a parcel goes on, before the end
abbrev pub goes_on : Relay → Event Parcel → Bool
goes_on m e = nat_lt 0 e.body.hops && nat_lt (e.time + m.delay) end_of_time

-- the parcel that goes on, with a hop less
abbrev pub passed_on : Relay → Process → Station → Event Parcel → Event Parcel
passed_on m p s e =
    record {
      time = e.time + m.delay;
      source = p + 1;
      number = s.sends;
      to = 1 - p;
      body = record { hops = e.body.hops - 1 };
    }

abbrev pub station_after : Relay → Station → Event Parcel → Station
station_after m s e =
    record {
      sum = (s.sum + e.body.hops) % 2 ^ 64;
      last = e.body.hops;
      sends = if goes_on m e then (s.sends + 1) % 2 ^ 64 else s.sends;
    }

abbrev pub relay_step : Relay → Process → Station → Event Parcel → Station × List (Event Parcel)
relay_step m p s e = (station_after m s e, if goes_on m e then passed_on m p s e ∷ [] else [])

-- the track links the station before, the event and the station after
pub record IsTrackOf (m : Relay) (p : Process) (before : Station) (e : Event Parcel) (t : Track)
    (later : Station) : Type 0 where
  pub last : t.last ≡ before.last
  pub sent : t.sent ≡ goes_on m e
  pub is : later ≡ station_after m before e

pub relay_ranges : (m : Relay) (e : Event Parcel) → is_sound_event e ≡ true → IsInRange 2 e
relay_ranges m e h =
    record {
      time = grind (arith, nat_tests);
      source = grind (arith, nat_tests);
      number = grind (arith, nat_tests);
      to = grind (arith, nat_tests);
    }

pub relay_keeps : (m : Relay) (p : Process) (s : Station) (e : Event Parcel) → IsStation s
    → is_sound_event e ≡ true → e.to ≡ p → IsStation (relay_step m p s e).0
relay_keeps m p s e w h t =
    record {
      sum = omega arith;
      last = grind (arith, nat_tests);
      sends = kept_sends (goes_on m e) s.sends w.sends;
    }
  where
    kept_sends : (b : Bool) (n : ℕ) → n < 2 ^ 64 → cond b ((n + 1) % 2 ^ 64) n < 2 ^ 64
    kept_sends true n l = omega arith
    kept_sends false n l = l

-- what is said of a parcel that goes on
sent_well : (m : Relay) (p : Process) (s : Station) (e : Event Parcel) → 0 < m.delay → IsStation s
    → is_sound_event e ≡ true → e.to ≡ p → goes_on m e ≡ true
    → IsSentBy p e (passed_on m p s e) × (is_sound_event (passed_on m p s e) ≡ true)
sent_well m p s e pos w h t g =
    (record { source = refl; later = omega arith }, grind (arith, nat_tests, w.sends))

pub relay_future : (m : Relay) (p : Process) (s : Station) (e : Event Parcel) → IsStation s
    → is_sound_event e ≡ true → e.to ≡ p
    → All (λ f. IsSentBy p e f × (is_sound_event f ≡ true)) (relay_step m p s e).1
relay_future m p s e w h t = by_case (goes_on m e) refl
  where
    by_case : (b : Bool) → goes_on m e ≡ b
        → All (λ f. IsSentBy p e f × (is_sound_event f ≡ true)) (cond b (passed_on m p s e ∷ []) [])
    by_case true g = All-cons (λ f. IsSentBy p e f × (is_sound_event f ≡ true))
        (passed_on m p s e) [] (sent_well m p s e m.positive w h t g)
        (All-nil (λ f. IsSentBy p e f × (is_sound_event f ≡ true)))
    by_case false g = All-nil (λ f. IsSentBy p e f × (is_sound_event f ≡ true))

-- numbers that compare as equal are the same
pub nat_cmp_same : (m n : ℕ) → nat_cmp m n ≡ Equal → m ≡ n
nat_cmp_same m n h =
    by_ranked (m < n) (m ≡ n) (n < m) (nat_cmp m n) (ranked m n (nat_cmp m n) refl) (λ e _. cc)
    (λ _ same. same) (λ e _. cc)

pub parcel_same : (a b : Parcel) → nat_cmp a.hops b.hops ≡ Equal → a ≡ b
parcel_same a b h =
    let same : a.hops ≡ b.hops = nat_cmp_same a.hops b.hops h in
    ap (λ n. let r : Parcel = record { hops = n } in r) same
