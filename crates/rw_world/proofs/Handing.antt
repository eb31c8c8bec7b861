-- A world in which nothing is processed is taken apart: what is left of it is a rest of its run.
use Rattle.std.proofs.Common.{◌≡◌, ℕ, ◌+◌, ◌≤◌, List, [], ◌∷◌, ◌++◌, map, sym, ap, ◌∙◌, subst, arith}
use Rattle.std.proofs.lemmas.Simd.{map-map}
use Rattle.std.specs.declared.cmp.Ordering.{Ordering}
use Rattle.rw_vt.specs.declared.event.Event.{Event}
use Rattle.rw_vt.specs.declared.event.Letter.{Letter}
use Rattle.rw_vt.specs.declared.model.Model.{Ghosts}
use Rattle.rw_vt.specs.Order.{event_cmp, copies}
use Rattle.rw_vt.specs.Letters.{messages, antis}
use Rattle.rw_vt.specs.System.{Setting, System, IsReady, flatten, system}
use Rattle.rw_vt.specs.Rest.{IsRestOf}
use Rattle.rw_vt.proofs.EventOrder.{events_exact}
use Rattle.rw_vt.proofs.Laws.{Laws}
use Rattle.rw_vt.proofs.Sorting.{IsExactOrder, copies-append}
use Rattle.rw_lp.specs.HeldMessages.{held_messages}
use Rattle.rw_lp.specs.Calls.{LogicalProcess}
use Rattle.rw_world.specs.declared.parts.Parts.{Parts}
use Rattle.rw_world.specs.Sound.{held_in}
use Rattle.rw_world.specs.Calls.{Simulation, IsWhole, simulation_of, system_of, world_of}
use Rattle.rw_world.specs.Leaving.{AreOfOneRun, HasNothingProcessed, owed_at}
use Rattle.rw_world.proofs.Leaving.{pendings, debts, owed_there, leaves_rest}

-- what processes owe and hold, by copies
owed_parts : {M S B : Type 0} {cmp : Event B → Event B → Ordering} → IsExactOrder cmp → (e : Event B) (ls : List (LogicalProcess M S B)) → copies cmp e (flatten (map owed_at ls)) ≡ copies cmp e (debts (map (λ l. l.process) ls)) + copies cmp e (held_in (map (λ l. l.process) ls))
owed_parts o e [] = omega arith
owed_parts o e (l ∷ ls) =
    copies-append o e (owed_at l) (flatten (map owed_at ls))
    ∙ omega (arith, owed_parts o e ls, copies-append o e l.process.debts (held_messages l.process.held), copies-append o e l.process.debts (debts (map (λ l. l.process) ls)), copies-append o e (held_messages l.process.held) (held_in (map (λ l. l.process) ls)))

module _ {M S B U : Type 0} {model : Ghosts M S B U} {order : B → B → Ordering} (laws : Laws model order) (x : Parts M S B U) (whole : IsWhole model order x) (none : (p : ℕ) → HasNothingProcessed p x)
    (first : List (Event B)) (first_is : first ≡ []) (second : List (Event B)) (second_is : second ≡ []) (ls : List (Letter B)) (ls_are : ls ≡ x.letters.items)
    (sorted : List (Event B)) (sorted_are : (e : Event B) → copies (event_cmp order) e sorted ≡ copies (event_cmp order) e first + messages (event_cmp order) e ls)
    (cancelled : List (Event B)) (cancelled_are : (e : Event B) → copies (event_cmp order) e cancelled ≡ copies (event_cmp order) e second + antis (event_cmp order) e ls)
    (there : List (Event B)) (there_is : there ≡ sorted ++ flatten (map (λ l. l.process.pending) x.processes.items))
    (owed : List (Event B)) (owed_is : owed ≡ cancelled ++ flatten (map owed_at x.processes.items)) where
  o : IsExactOrder (event_cmp order)
  o = events_exact (record { total = laws.total; same = laws.same })

  abbrev setting : Setting model
  setting = record { its_model = x.model; starts = x.starts.value.items; initial = x.initial.value.items; ready = whole.ready }

  there_by : (e : Event B) → copies (event_cmp order) e there ≡ copies (event_cmp order) e (pendings (world_of x).processes) + messages (event_cmp order) e (world_of x).letters
  there_by e =
      ap (copies (event_cmp order) e) there_is
      ∙ copies-append o e sorted (flatten (map (λ l. l.process.pending) x.processes.items))
      ∙ omega (arith, sorted_are e, ap (copies (event_cmp order) e) first_is, ap (messages (event_cmp order) e) ls_are, ap (λ es. copies (event_cmp order) e (flatten es)) (map-map (λ u. u.pending) (λ l. l.process) x.processes.items))

  owed_by : (e : Event B) → copies (event_cmp order) e owed ≡ copies (event_cmp order) e (debts (world_of x).processes) + copies (event_cmp order) e (held_in (world_of x).processes) + antis (event_cmp order) e (world_of x).letters
  owed_by e =
      ap (copies (event_cmp order) e) owed_is
      ∙ copies-append o e cancelled (flatten (map owed_at x.processes.items))
      ∙ omega (arith, cancelled_are e, ap (copies (event_cmp order) e) second_is, ap (antis (event_cmp order) e) ls_are, owed_parts o e x.processes.items)

  -- no more is owed than is there
  pub enough_there : (e : Event B) → copies (event_cmp order) e owed ≤ copies (event_cmp order) e there
  enough_there = owed_there laws setting (world_of x) whole.sound none there owed there_by owed_by

  module _ (states : List S) (states_are : states ≡ map (λ l. l.process.state) x.processes.items) (left : List (Event B)) (left_is : (e : Event B) → copies (event_cmp order) e left + copies (event_cmp order) e owed ≡ copies (event_cmp order) e there) where
    both : IsRestOf (system_of model order (simulation_of x)) x.collected states left × IsReady model x.model states left
    both =
        subst (λ ss. IsRestOf (system_of model order (simulation_of x)) x.collected ss left × IsReady model x.model ss left)
        (map-map (λ u. u.state) (λ l. l.process) x.processes.items ∙ sym states_are)
        (leaves_rest laws setting (world_of x) whole.sound none there owed there_by owed_by left left_is)

    pub left_ready : IsReady model x.model states left
    left_ready = both.1

    -- of whatever the parts came from
    pub left_rest : (v : Simulation M S B) (begun : Parts M S B U) → simulation_of begun ≡ v → AreOfOneRun begun x → IsRestOf (system_of model order v) v.world.collected states left
    left_rest v begun is run =
        subst (λ (s : Simulation M S B). IsRestOf (system_of model order s) s.world.collected states left) is
        (subst (λ t. IsRestOf (system_of model order (simulation_of begun)) t states left) run.collected
        (subst (λ (y : System S B). IsRestOf y x.collected states left)
        (ap (λ m. system model order m x.starts.value.items x.initial.value.items) run.model ∙ ap (λ ss. system model order begun.model ss x.initial.value.items) run.starts ∙ ap (λ es. system model order begun.model begun.starts.value.items es) run.initial)
        both.0))
