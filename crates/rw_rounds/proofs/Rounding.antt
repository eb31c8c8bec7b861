-- A round keeps the parts whole, and what the board gave may be collected.
use Rattle.std.proofs.Common.{◌≡◌, ℕ, ◌^◌, ◌<◌, ◌≤◌, max, min, true, List, [], ◌∷◌, ◌++◌, map, refl, sym, ap, ◌∙◌, subst, arith, Option, Some, None}
use Rattle.std.specs.Prelude.{◌/◌, ◌%◌, nat_le, slice_get}
use Rattle.std.specs.Option.{option_map}
use Rattle.std.specs.declared.cmp.Ordering.{Ordering}
use Rattle.std.proofs.Math.Nat.{min-le_left}
use Rattle.std.proofs.lemmas.Bool.{le-leb}
use Rattle.std.proofs.lemmas.Option.{slice_get-map}
use Rattle.rw_vt.specs.declared.event.Event.{Event}
use Rattle.rw_vt.specs.declared.model.Model.{Ghosts}
use Rattle.rw_vt.specs.System.{system, journal_below, IsReady}
use Rattle.rw_vt.proofs.Laws.{Laws}
use Rattle.rw_lp.specs.declared.answer.Answer.TheVariants.{Done}
use Rattle.rw_lp.specs.HeldMessages.{held_messages}
use Rattle.rw_lp.specs.Process as process
use Rattle.rw_lp.specs.Process.{ProcessState}
use Rattle.rw_lp.specs.Calls.{least_of_processes}
use Rattle.rw_bag.specs.Bags.{least_time}
use Rattle.rw_world.specs.declared.parts.Parts.{Parts}
use Rattle.rw_world.specs.declared.step.Step.TheVariants.{Collect}
use Rattle.rw_world.specs.WorldState.{WorldState, least_of_letters, floor}
use Rattle.rw_world.specs.Steps.{apply}
use Rattle.rw_world.specs.Sound.{Sound, StepKept}
use Rattle.rw_world.specs.Laws.{ExchangesKeepSound, FloorIsGreatest, SoundIsInOrder, StepsKeepSound}
use Rattle.rw_world.specs.Calls.{Simulation, system_of, simulation_of, with_world, world_of, AreNumbered, IsWhole}
use Rattle.rw_rounds.specs.declared.plan.Plan.{Plan}
use Rattle.rw_rounds.specs.Plans.{IsInRanges}
use Rattle.rw_rounds.specs.Turns.{IsInPlace}
use Rattle.rw_rounds.specs.Rounds.{role, Round, SimState, Rounded}
use Rattle.rw_rounds.specs.Segments.{Advanced}
use Rattle.rw_rounds.specs.Between.{LeadsTo}
use Rattle.rw_rounds.proofs.Cited.{number_of}
use Rattle.rw_rounds.proofs.Joining.{owned, closed, workers_exchanged}
use Rattle.rw_rounds.proofs.Outstanding.{floor_end, quiet_after}
use Rattle.rw_rounds.proofs.Onward.{setting_of, floor_rises}

-- what is promised of every world of the model
pub record WorldLaws {M S B U : Type 0} (model : Ghosts M S B U) (order : B → B → Ordering) : Type 0 where
  pub every_exchange : ExchangesKeepSound model order
  pub every_floor : FloorIsGreatest model order
  pub every_sound_world : SoundIsInOrder model order
  pub every_step : StepsKeepSound model order

-- what is outstanding is not collected
least_collected : {S B : Type 0} (t end : ℕ) (ps : List (ProcessState S B)) → least_of_processes end (map (process.collect t) ps) ≡ least_of_processes end ps
least_collected t end [] = refl
least_collected t end (u ∷ ps) = ap (λ k. least_time (least_time (least_time k (held_messages u.held)) u.debts) u.pending) (least_collected t end ps)

module _ {M S B U : Type 0} {model : Ghosts M S B U} {order : B → B → Ordering} (laws : Laws model order) (worlds : WorldLaws model order) (plan : Plan) (x z : Parts M S B U) (least : ℕ) (ranges : IsInRanges plan) (whole : IsWhole model order x) (round : Round model order plan x z least) where
  same_system : system_of model order (simulation_of z) ≡ system_of model order (simulation_of x)
  same_system =
      ap (λ m. system model order m z.starts.value.items z.initial.value.items) round.model_is
      ∙ ap (λ ss. system model order x.model ss.value.items z.initial.value.items) round.starts_are
      ∙ ap (λ es. system model order x.model x.starts.value.items es.value.items) round.initial_are

  ready_after : IsReady model z.model z.starts.value.items z.initial.value.items
  ready_after =
      subst (λ m. IsReady model m z.starts.value.items z.initial.value.items) (sym round.model_is)
      (subst (λ ss. IsReady model x.model ss.value.items z.initial.value.items) (sym round.starts_are)
      (subst (λ es. IsReady model x.model x.starts.value.items es.value.items) (sym round.initial_are) whole.ready))

  -- the processes stand by their numbers again
  numbered_after : AreNumbered z.model z.processes.items
  numbered_after q l at =
      let inside : q % plan.workers < plan.workers = owned laws plan x z least ranges whole round q in
      let fit = (round.works (q % plan.workers) inside).fit in
      let same : (round.last (q % plan.workers)).role ≡ role plan x.collected (q % plan.workers) = (closed laws plan x z least ranges whole round (q % plan.workers) inside).0.role in
      let there : slice_get (round.last (q % plan.workers)).processes (q / plan.workers) ≡ Some l = sym (round.processes_are q) ∙ at in
      let stands : IsInPlace order x.model (role plan x.collected (q % plan.workers)) (q / plan.workers) l = subst (λ k. IsInPlace order x.model k (q / plan.workers) l) same (fit.in_place (q / plan.workers) l there) in
      (stands.model_is ∙ sym round.model_is, stands.number ∙ number_of (role plan x.collected (q % plan.workers)) q inside refl)

  pub whole_after : IsWhole model order z
  whole_after =
      let e = workers_exchanged laws plan x z least ranges whole round in
      let sound = worlds.every_exchange (setting_of x whole.ready) (world_of x) (world_of z) e.0 e.1 whole.sound e.2 in
      record { ready = ready_after; numbered = numbered_after; sound = subst (λ y. Sound y (world_of z)) (sym same_system) sound }

  pub floor_after : least ≤ floor (world_of z)
  floor_after = (worlds.every_floor (setting_of x whole.ready) (world_of z) least).1 (floor_end laws plan x z least ranges whole round, quiet_after laws plan x z least ranges whole round)

  -- a round keeps the parts whole, and nothing outstanding is before what the board gave
  pub round_keeps : IsWhole model order z × (least ≤ floor (world_of z))
  round_keeps = (whole_after, floor_after)

-- a round leads from its parts to the next
pub round_leads : {M S B U : Type 0} {model : Ghosts M S B U} {order : B → B → Ordering} (laws : Laws model order) (worlds : WorldLaws model order) (plan : Plan) (x z : Parts M S B U) (least : ℕ) → IsInRanges plan → IsWhole model order x → Round model order plan x z least → LeadsTo model order x z least
round_leads laws worlds plan x z least ranges whole round =
    let keeps = round_keeps laws worlds plan x z least ranges whole round in
    record {
      before = whole;
      after = keeps.0;
      model_is = round.model_is;
      starts_are = round.starts_are;
      initial_are = round.initial_are;
      collected_is = round.collected_is;
      rises = floor_rises laws worlds.every_floor plan x z least ranges whole round;
      below = keeps.1;
    }

module _ {M S B U : Type 0} {model : Ghosts M S B U} {order : B → B → Ordering} (worlds : WorldLaws model order) (x z : Parts M S B U) (least : ℕ) (leads : LeadsTo model order x z least) where
  one_system : system_of model order (simulation_of z) ≡ system_of model order (simulation_of x)
  one_system =
      ap (λ m. system model order m z.starts.value.items z.initial.value.items) leads.model_is
      ∙ ap (λ ss. system model order x.model ss.value.items z.initial.value.items) leads.starts_are
      ∙ ap (λ es. system model order x.model x.starts.value.items es.value.items) leads.initial_are

  -- the floor of a world is not after the end of time
  floor_within : floor (world_of z) ≤ 2 ^ 40
  floor_within = ((worlds.every_floor (setting_of x leads.before.ready) (world_of z) (floor (world_of z))).0 (omega arith)).0

  -- the joined world, collected up to a time
  abbrev collected_at : ℕ → WorldState S B
  collected_at t = record { processes = map (process.collect t) (world_of z).processes; letters = z.letters.items; collected = max z.collected t }

  -- it may be collected up to any time before that
  pub collects : (t : ℕ) → t ≤ least → apply (system_of model order (simulation_of z)) (world_of z) (Collect t) ≡ (collected_at t, Done)
  collects t below = let test : nat_le t (floor (world_of z)) ≡ true = le-leb t (floor (world_of z)) (omega (arith, below, leads.below)) in rw test refl

  -- and what is outstanding stays so
  floor_stays : (t : ℕ) → t ≤ least → floor (apply (system_of model order (simulation_of z)) (world_of z) (Collect t)).0 ≡ floor (world_of z)
  floor_stays t below = ap (λ a. floor a.0) (collects t below) ∙ ap (λ k. least_of_letters k z.letters.items) (least_collected t (2 ^ 40) (world_of z).processes)

  step_kept : (t : ℕ) → StepKept (system_of model order (simulation_of z)) (world_of z) (Collect t)
  step_kept t = worlds.every_step (setting_of z leads.after.ready) (world_of z) (Collect t) leads.after.sound

  -- joining the workers commits nothing
  same_committed : (q : ℕ) (a c : ProcessState S B) → slice_get (world_of x).processes q ≡ Some a → slice_get (world_of z).processes q ≡ Some c → a.committed ≡ c.committed
  same_committed q a c was is =
      let before = (worlds.every_sound_world (setting_of x leads.before.ready) (world_of x) leads.before.sound).committed q a was in
      let after = (worlds.every_sound_world (setting_of z leads.after.ready) (world_of z) leads.after.sound).committed q c is in
      before ∙ ap (λ y. journal_below y x.collected q) (sym one_system) ∙ ap (λ g. journal_below (system_of model order (simulation_of z)) g q) (sym leads.collected_is) ∙ sym after

  -- no committed event is lost
  committed_longer : (t : ℕ) → t ≤ least → (q : ℕ) (a b : ProcessState S B) → slice_get (world_of x).processes q ≡ Some a → slice_get (apply (system_of model order (simulation_of z)) (world_of z) (Collect t)).0.processes q ≡ Some b → (rest : List (Event B)) × (a.committed ++ rest ≡ b.committed)
  committed_longer t below q a b was is =
      go (slice_get (world_of z).processes q) refl
      (sym (slice_get-map (process.collect t) (world_of z).processes q) ∙ ap (λ r. slice_get r.0.processes q) (sym (collects t below)) ∙ is)
    where
      go : (o : Option (ProcessState S B)) → slice_get (world_of z).processes q ≡ o → option_map (process.collect t) o ≡ Some b → (rest : List (Event B)) × (a.committed ++ rest ≡ b.committed)
      go None at k = cc
      go (Some c) at k =
          let more = (step_kept t).grows q c b at is in
          (more.0, ap (λ es. es ++ more.0) (same_committed q a c was at) ∙ more.1)

  -- with the collecting of what is before the floor and another time, the world is as it should be
  pub advanced : (until : ℕ) (u v : Simulation M S B) → u ≡ simulation_of x → v ≡ with_world (simulation_of z) (apply (system_of model order (simulation_of z)) (world_of z) (Collect (min least until))).0 → Advanced model order until u v least
  advanced until u v was is =
      let t : ℕ = min least until in
      let below : t ≤ least = min-le_left least until in
      record {
        system = record {
          model = ap (λ (s : Simulation M S B). s.model) is ∙ leads.model_is ∙ sym (ap (λ (s : Simulation M S B). s.model) was);
          starts = ap (λ (s : Simulation M S B). s.starts) is ∙ ap (λ ss. ss.value.items) leads.starts_are ∙ sym (ap (λ (s : Simulation M S B). s.starts) was);
          initial = ap (λ (s : Simulation M S B). s.initial) is ∙ ap (λ es. es.value.items) leads.initial_are ∙ sym (ap (λ (s : Simulation M S B). s.initial) was);
        };
        sound = subst (λ (s : Simulation M S B). Sound (system_of model order s) s.world) (sym is) (step_kept t).sound;
        within = omega (arith, leads.below, floor_within);
        below_floor = (let same : floor v.world ≡ floor (world_of z) = ap (λ (s : Simulation M S B). floor s.world) is ∙ floor_stays t below in omega (arith, leads.below));
        no_earlier = (let same : floor u.world ≡ floor (world_of x) = ap (λ (s : Simulation M S B). floor s.world) was in omega (arith, leads.rises));
        collected =
            ap (λ (s : Simulation M S B). s.world.collected) is
            ∙ ap (λ a. a.0.collected) (collects t below)
            ∙ ap (λ g. max g t) leads.collected_is
            ∙ ap (λ (s : Simulation M S B). max s.world.collected t) (sym was);
        longer = λ q a b before after.
            committed_longer t below q a b (ap (λ (s : Simulation M S B). slice_get s.world.processes q) (sym was) ∙ before) (ap (λ (s : Simulation M S B). slice_get s.world.processes q) (sym is) ∙ after);
      }

-- where nothing is kept back, all before the floor is committed
pub rounded : {M S B U : Type 0} {model : Ghosts M S B U} {order : B → B → Ordering} (u v : SimState M S B) → v.plan ≡ u.plan → Advanced model order (2 ^ 40) u.simulation v.simulation v.floor → Rounded model order u v
rounded u v plan_is a = record {
  model_is = a.system.model;
  starts_are = a.system.starts;
  initial_are = a.system.initial;
  plan_is = plan_is;
  sound = a.sound;
  below_floor = a.below_floor;
  no_earlier = a.no_earlier;
  collected = (let least : min v.floor (2 ^ 40) ≡ v.floor = omega (arith, a.within) in a.collected ∙ ap (max u.simulation.world.collected) least);
  longer = a.longer;
}
