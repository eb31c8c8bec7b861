-- The parts of a world that is opened are whole.
use Rattle.std.proofs.Common.{◌≡◌, ℕ, ◌+◌, List, [], ◌∷◌, map, refl, sym, ap, ◌∙◌, subst, arith, Option, Some, None}
use Rattle.std.specs.Prelude.{slice_get}
use Rattle.std.specs.Option.{option_map}
use Rattle.std.specs.declared.cmp.Ordering.{Ordering}
use Rattle.rw_vt.specs.declared.event.Event.{Event}
use Rattle.rw_vt.specs.declared.model.Model.{Ghosts}
use Rattle.rw_vt.specs.System.{System, system, map_from, IsReady}
use Rattle.rw_vt.proofs.Laws.{Laws}
use Rattle.rw_lp.specs.Calls.{LogicalProcess}
use Rattle.rw_world.specs.declared.parts.Parts.{Parts}
use Rattle.rw_world.specs.WorldState.{opening_process, opening_world}
use Rattle.rw_world.specs.Sound.{Sound}
use Rattle.rw_world.specs.Calls.{Simulation, system_of, simulation_of, AreNumbered, IsWhole}
use Rattle.rw_world.proofs.Lookups.{get-map_from}
use Rattle.rw_world.proofs.Opened.{opened_sound}
use Rattle.rw_world.proofs.Wholes.{law_of}

map-map_from : {A C D : Type 0} (f : C → D) (g : ℕ → A → C) (k : ℕ) (xs : List A) → map f (map_from k g xs) ≡ map_from k (λ q x. f (g q x)) xs
map-map_from f g k [] = refl
map-map_from f g k (x ∷ xs) = ap (λ l. f (g k x) ∷ l) (map-map_from f g (k + 1) xs)

module _ {M S B U : Type 0} {model : Ghosts M S B U} {order : B → B → Ordering} (laws : Laws model order) (x : Parts M S B U) (starts : List S) (initial : List (Event B)) (ready : IsReady model x.model starts initial)
    (starts_are : x.starts.value.items ≡ starts) (initial_are : x.initial.value.items ≡ initial) (no_letters : x.letters.items ≡ []) (at_first : x.collected ≡ 0) where
  abbrev pub y : System S B
  y = system model order x.model starts initial

  abbrev pub start_of : ℕ → S → LogicalProcess M S B
  start_of q s = record { model = x.model; number = q; process = opening_process y q s }

  abbrev pub now : Simulation M S B
  now = record { model = x.model; starts = starts; initial = initial; world = opening_world y }

  module _ (processes_are : x.processes.items ≡ map_from 0 start_of starts) where
    pub opened_is : simulation_of x ≡ now
    opened_is =
        let processes : map (λ l. l.process) x.processes.items ≡ map_from 0 (opening_process y) starts = ap (map (λ l. l.process)) processes_are ∙ map-map_from (λ l. l.process) start_of 0 starts in
        rw (starts_are, initial_are, processes, no_letters, at_first) refl

    numbered : AreNumbered x.model x.processes.items
    numbered q l at = go (slice_get starts q) (sym (ap (λ v. slice_get v q) processes_are ∙ get-map_from start_of 0 starts q) ∙ at)
      where
        go : (o : Option S) → option_map (start_of (0 + q)) o ≡ Some l → (l.model ≡ x.model) × (l.number ≡ q)
        go None k = cc
        go (Some s) k =
            let is : start_of (0 + q) s ≡ l = cc in
            let n : 0 + q ≡ q = omega arith in
            (sym (ap (λ a. a.model) is), sym (ap (λ a. a.number) is) ∙ n)

    pub opened_whole : IsWhole model order x
    opened_whole = record {
      ready = subst (λ (v : Simulation M S B). IsReady model v.model v.starts v.initial) (sym opened_is) ready;
      numbered = numbered;
      sound = subst (λ (v : Simulation M S B). Sound (system_of model order v) v.world) (sym opened_is) (opened_sound y (law_of laws now ready));
    }
