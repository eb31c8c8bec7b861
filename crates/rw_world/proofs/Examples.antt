-- Small schedules, computed: an edge that stores nothing is process 0, its origin process 1.
use Rattle.std.proofs.Common.{◌≡◌, ℕ, ◌+◌, true, cond, List, [], ◌∷◌, map, refl}
use Rattle.std.specs.Prelude.{nat_lt, ◌==◌, ◌&&◌, not}
use Rattle.std.specs.List.{list_any, filter}
use Rattle.std.specs.Ordering.{nat_cmp, ordering_then}
use Rattle.rw_vt.specs.declared.event.Event.{Event}
use Rattle.rw_vt.specs.Order.{event_cmp}
use Rattle.rw_vt.specs.System.{System, journal_below}
use Rattle.rw_lp.specs.declared.answer.StepFault.TheVariants.{Straggler, StillDone, AboveFloor, NothingToUndo}
use Rattle.rw_lp.specs.declared.answer.Answer.TheVariants.{Done, Refused}
use Rattle.rw_world.specs.declared.step.Step.{Step}
use Rattle.rw_world.specs.declared.step.Step.TheVariants.{Execute, Undo, Deliver, Collect}
use Rattle.rw_world.specs.WorldState.{opening_world, is_finished}
use Rattle.rw_world.specs.Steps.{run, answers}

-- kind 0 is a request, 1 a miss, 2 a fill
record Body : Type 0 where
  kind : ℕ
  object : ℕ

record Cache : Type 0 where
  awaited : List ℕ
  sends : ℕ

abbrev photo : ℕ → ℕ → ℕ → ℕ → ℕ → ℕ → Event Body
photo time source number to kind object = record { time = time; source = source; number = number; to = to; body = record { kind = kind; object = object } }

abbrev step : ℕ → Cache → Event Body → Cache × List (Event Body)
step p s e =
    cond (e.body.kind == 0)
    (cond (list_any (λ o. o == e.body.object) s.awaited)
    (s, [])
    (record { awaited = e.body.object ∷ s.awaited; sends = s.sends + 1 }, photo (e.time + 3) (p + 1) s.sends 1 1 e.body.object ∷ []))
    (cond (e.body.kind == 1)
    (record { awaited = s.awaited; sends = s.sends + 1 }, photo (e.time + 13) (p + 1) s.sends 0 2 e.body.object ∷ [])
    (record { awaited = filter (λ o. not (o == e.body.object)) s.awaited; sends = s.sends }, []))

abbrev example : List (Event Body) → System Cache Body
example initial = record {
  rules = record {
    order = event_cmp (λ a b. ordering_then (nat_cmp a.kind b.kind) (nat_cmp a.object b.object));
    step = step;
    valid = λ e. nat_lt e.time 1099511627776 && nat_lt e.to 2;
  };
  starts = record { awaited = []; sends = 0 } ∷ record { awaited = []; sends = 0 } ∷ [];
  initial = initial;
}

abbrev request : ℕ → ℕ → ℕ → Event Body
request number time object = photo time 0 number 0 0 object

-- a straggler, and an anti that comes before its message
abbrev two : System Cache Body
two = example (request 0 5 7 ∷ request 1 5 8 ∷ [])

abbrev schedule_out_of_order : List Step
schedule_out_of_order = Execute 0 ∷ Execute 0 ∷ Deliver 1 ∷ Execute 1 ∷ Deliver 0 ∷ Execute 1 ∷ Undo 1 ∷ Execute 1 ∷ Deliver 1 ∷ Deliver 1 ∷ Deliver 0 ∷ Execute 1 ∷ Deliver 0 ∷ Execute 0 ∷ Execute 0 ∷ Collect 1099511627776 ∷ []

answers_out_of_order : answers two (opening_world two) schedule_out_of_order ≡ Done ∷ Done ∷ Done ∷ Done ∷ Done ∷ Refused Straggler ∷ Done ∷ Done ∷ Done ∷ Done ∷ Done ∷ Done ∷ Done ∷ Done ∷ Done ∷ Done ∷ []
answers_out_of_order = refl

journals_out_of_order : map (λ x. x.committed) (run two (opening_world two) schedule_out_of_order).processes
    ≡ (photo 5 0 0 0 0 7 ∷ photo 5 0 1 0 0 8 ∷ photo 21 2 0 0 2 7 ∷ photo 21 2 1 0 2 8 ∷ [])
    ∷ (photo 8 1 0 1 1 7 ∷ photo 8 1 1 1 1 8 ∷ [])
    ∷ []
journals_out_of_order = refl

finished_out_of_order : is_finished (run two (opening_world two) schedule_out_of_order) ≡ true
finished_out_of_order = refl

-- an anti that waits until its event is undone; a floor that lags behind
abbrev one : System Cache Body
one = example (request 0 5 7 ∷ [])

answers_anti_waits : answers one (opening_world one) (Execute 0 ∷ Deliver 0 ∷ Execute 1 ∷ Undo 0 ∷ Deliver 1 ∷ Undo 1 ∷ Deliver 1 ∷ Deliver 1 ∷ Execute 0 ∷ Deliver 0 ∷ Deliver 0 ∷ Execute 1 ∷ Deliver 0 ∷ Execute 0 ∷ Collect 1099511627776 ∷ [])
    ≡ Done ∷ Done ∷ Done ∷ Done ∷ Refused StillDone ∷ Done ∷ Done ∷ Done ∷ Done ∷ Done ∷ Done ∷ Done ∷ Done ∷ Done ∷ Done ∷ []
answers_anti_waits = refl

answers_above_floor : answers one (opening_world one) (Collect 5 ∷ Collect 6 ∷ Execute 0 ∷ Undo 0 ∷ Execute 0 ∷ Collect 8 ∷ Undo 0 ∷ Collect 9 ∷ [])
    ≡ Done ∷ Refused AboveFloor ∷ Done ∷ Done ∷ Done ∷ Done ∷ Refused NothingToUndo ∷ Refused AboveFloor ∷ []
answers_above_floor = refl

-- the run in time order, to time 22
below_in_time_order : journal_below two 22 0 ≡ photo 5 0 0 0 0 7 ∷ photo 5 0 1 0 0 8 ∷ photo 21 2 0 0 2 7 ∷ photo 21 2 1 0 2 8 ∷ []
unfolding journal_below
below_in_time_order = refl
