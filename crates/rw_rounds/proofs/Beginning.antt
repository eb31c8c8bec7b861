-- The workers of a sound world are fit for their turns.
use Rattle.std.proofs.Common.{◌≡◌, ℕ, ◌+◌, ◌*◌, ◌<◌, true, length, sym, ap, ◌∙◌, subst, arith, Some}
use Rattle.std.specs.Prelude.{◌/◌, ◌%◌, slice_get}
use Rattle.std.specs.Option.{option_map}
use Rattle.std.specs.declared.cmp.Ordering.{Ordering}
use Rattle.std.proofs.lemmas.List.{length-map}
use Rattle.std.proofs.lemmas.Option.{slice_get-map}
use Rattle.rw_vt.specs.declared.model.Model.{Ghosts}
use Rattle.rw_vt.specs.System.{rules}
use Rattle.rw_vt.proofs.Laws.{Laws}
use Rattle.rw_lp.specs.Process.{ProcessState}
use Rattle.rw_lp.specs.Calls.{LogicalProcess}
use Rattle.rw_lp.specs.Sound.{SoundAt}
use Rattle.rw_world.specs.declared.parts.Parts.{Parts}
use Rattle.rw_world.specs.Calls.{world_of, IsWhole}
use Rattle.rw_rounds.specs.declared.plan.Plan.{Plan}
use Rattle.rw_rounds.specs.Plans.{IsInRanges}
use Rattle.rw_rounds.specs.Bags.{Every}
use Rattle.rw_rounds.specs.Deeds.{IsFair}
use Rattle.rw_rounds.specs.Turns.{Role, WorkerState, owner, is_own, process_at, IsInPlace, IsFit}
use Rattle.rw_rounds.specs.Working.{IsFitAndSound}
use Rattle.rw_rounds.specs.Rounds.{role, Begins}
use Rattle.rw_rounds.proofs.Cited.{Governs, StartsIn, Well, collected_of, fair_letters, get_within, governs, number_of, place_of, there_is}
use Rattle.rw_rounds.proofs.Totals.{every_filter, every_passes}

module _ {M S B U : Type 0} {model : Ghosts M S B U} {order : B → B → Ordering} (x : Parts M S B U) (whole : IsWhole model order x) where
  pub in_world : (q : ℕ) → slice_get (world_of x).processes q ≡ option_map (λ l. l.process) (slice_get x.processes.items q)
  in_world q = slice_get-map (λ l. l.process) x.processes.items q

  pub as_many : length x.processes.items ≡ model.process_count x.model
  as_many =
      let a = length-map x.processes.items (λ l. l.process) in
      let b = length-map (world_of x).processes (λ u. u.start) in
      let c = ap length whole.sound.starts in
      sym a ∙ sym b ∙ c ∙ whole.ready.enough

  -- each process of the world starts well
  pub started_there : (q : ℕ) (u : ProcessState S B) → slice_get (world_of x).processes q ≡ Some u → StartsIn model x.model q u.start
  started_there q u at =
      let named : slice_get x.starts.value.items q ≡ Some u.start = ap (λ ss. slice_get ss q) (sym whole.sound.starts) ∙ slice_get-map (λ v. v.start) (world_of x).processes q ∙ ap (option_map (λ v. v.start)) at in
      (subst (λ n. q < n) whole.ready.enough (get_within x.starts.value.items q u.start named), whole.ready.well_formed q u.start named)

  module _ (plan : Plan) (i : ℕ) (below : i < plan.workers) (a : WorkerState M S B) (begins : Begins x.processes.items x.letters.items (role plan x.collected i) a) where
    -- what stands at a place of the worker
    there : (place : ℕ) (l : LogicalProcess M S B) → slice_get a.processes place ≡ Some l → slice_get x.processes.items (i + place * plan.workers) ≡ Some l
    there place l at = sym (begins.processes_are place) ∙ at

    here : (place : ℕ) (l : LogicalProcess M S B) → slice_get a.processes place ≡ Some l → slice_get (world_of x).processes (i + place * plan.workers) ≡ Some l.process
    here place l at = in_world (i + place * plan.workers) ∙ ap (option_map (λ l. l.process)) (there place l at)

    stands : (place : ℕ) (l : LogicalProcess M S B) → slice_get a.processes place ≡ Some l → IsInPlace order x.model (role plan x.collected i) place l
    stands place l at =
        let q : ℕ = i + place * plan.workers in
        let known = whole.numbered q l (there place l at) in
        record {
          model_is = known.0;
          number = known.1;
          collected = collected_of model order x.model x.collected q l.process (whole.sound.each q l.process (here place l at));
        }

    -- seen by numbers, the worker has its processes of the world
    pub begun_there : (q : ℕ) (u : ProcessState S B) → process_at (role plan x.collected i) a.processes q ≡ Some u → slice_get (world_of x).processes q ≡ Some u
    begun_there q u h =
        let f = place_of (role plan x.collected i) a.processes q u h in
        let number : i + (q / plan.workers) * plan.workers ≡ q = number_of (role plan x.collected i) q below f.3 in
        in_world q
        ∙ ap (λ k. option_map (λ l. l.process) (slice_get x.processes.items k)) (sym number)
        ∙ ap (option_map (λ l. l.process)) (there (q / plan.workers) f.0 f.1)
        ∙ ap (λ v. Some v) f.2

    pub begun_well : Well (rules model order x.model) (StartsIn model x.model) x.collected (process_at (role plan x.collected i) a.processes)
    begun_well = record { sound = λ q u h. whole.sound.each q u (begun_there q u h); started = λ q u h. started_there q u (begun_there q u h) }

    begun_complete : (q : ℕ) → q < model.process_count x.model → q % plan.workers ≡ i → q / plan.workers < length a.processes
    begun_complete q inside own =
        let l = there_is x.processes.items q (let n = as_many in omega arith) in
        let number : i + (q / plan.workers) * plan.workers ≡ q = number_of (role plan x.collected i) q below own in
        get_within a.processes (q / plan.workers) l.0 (begins.processes_are (q / plan.workers) ∙ ap (slice_get x.processes.items) number ∙ l.1)

    begun_fair : Laws model order → Every (IsFair (rules model order x.model) x.collected) x.letters.items
    begun_fair laws =
        let rule : Governs (rules model order x.model) (StartsIn model x.model) x.collected (model.process_count x.model) = governs model order x.model laws x.collected in
        fair_letters (rules model order x.model) x.collected (model.process_count x.model) rule x.letters.items whole.sound.letters

    -- a worker that begins a round is fit for a turn
    begins_fit : Laws model order → IsInRanges plan → IsFit model order x.model a
    begins_fit laws ranges = subst (IsFit model order x.model) (sym (ap (λ r. record a { role = r }) begins.role)) fit
      where
        fit : IsFit model order x.model (record a { role = role plan x.collected i })
        fit = record {
          number = below;
          window = ranges.window.1;
          in_place = stands;
          complete = begun_complete;
          inbox_fair = subst (Every (IsFair (rules model order x.model) x.collected)) (sym begins.inbox) (every_filter (IsFair (rules model order x.model) x.collected) (is_own (role plan x.collected i)) x.letters.items (begun_fair laws));
          inbox_own = subst (Every (λ l. is_own (role plan x.collected i) l ≡ true)) (sym begins.inbox) (every_passes (is_own (role plan x.collected i)) x.letters.items);
          kept = subst (Every (λ l. owner (role plan x.collected i) l ≡ i → ⊥)) (sym begins.none_kept) tt;
          port = begins.its_port;
          wide = begins.wide;
        }

    -- and its processes start well and are sound
    pub begins_fit_and_sound : Laws model order → IsInRanges plan → IsFitAndSound model order x.model a
    begins_fit_and_sound laws ranges = record {
      fit = begins_fit laws ranges;
      starts = λ place l at. (let k = whole.numbered (i + place * plan.workers) l (there place l at) in
          let s = subst (λ m. StartsIn model m l.number l.process.start) (sym k.0) (subst (λ n. StartsIn model x.model n l.process.start) (sym k.1) (started_there (i + place * plan.workers) l.process (here place l at))) in
          record { number = s.0; start = s.1 });
      sound = λ place l at. (let k = whole.numbered (i + place * plan.workers) l (there place l at) in
          subst (λ (r : Role). SoundAt (rules model order x.model) r.collected l.number l.process) (sym begins.role)
          (subst (λ n. SoundAt (rules model order x.model) x.collected n l.process) (sym k.1) (whole.sound.each (i + place * plan.workers) l.process (here place l at))));
    }
