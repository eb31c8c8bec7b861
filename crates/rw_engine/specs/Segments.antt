-- A run that is taken on by one engine after another.
use Rattle.std.specs.Prelude.{◌≡◌, ◌≢◌, Bool, List}
use Rattle.std.specs.declared.cmp.Ordering.{Ordering}
use Rattle.rw_vt.specs.declared.event.Event.{Event}
use Rattle.rw_vt.specs.declared.model.Model.{Ghosts}
use Rattle.rw_vt.specs.Limits.{end_of_time}
use Rattle.rw_vt.specs.Rest.{EndsAs}
use Rattle.rw_vt.specs.System.{IsReady, Meets, System, system}
use Rattle.rw_rounds.specs.Plans.{IsInRanges}
use Rattle.rw_rounds.specs.declared.plan.Plan.{Plan}
use Rattle.rw_rounds.specs.declared.stop.Stop.{Stop}
use Rattle.rw_rounds.specs.declared.stop.Stop.TheVariants as stop

-- a run has gone on from these states, where these events wait, to others: it is of the same model, ready to go on from
-- there, and then ends as it would have
pub record GoesOn {M S B U : Type 0} (model : Ghosts M S B U) (order : B → B → Ordering)
    (m : M) (states : List S) (events : List (Event B))
    (m' : M) (states' : List S) (events' : List (Event B)) : Type 0 where
  pub same : m' ≡ m
  pub ready : IsReady model m' states' events'
  pub ends : EndsAs (system model order m' states' events') (system model order m states events)

-- what rounds by a plan may stop for, where `test` says of a state that it can take no further event. Want of memory
-- may come anywhere, and the plan is tested before anything is run. One worker runs in order of time: it needs no
-- thread and makes no rounds that could be used up, and it comes to such a state only where the run in order does. Of
-- several workers this is not said: they may come to such a state in a past that is then undone
abbrev pub MayStopInRounds : {S B : Type 0} → System S B → (S → Bool) → Plan → Stop → Type 0
MayStopInRounds y test plan stop.Memory = Unit {0}
MayStopInRounds y test plan stop.BadPlan = IsInRanges plan → ⊥
MayStopInRounds y test plan stop.RoundsUsed = IsInRanges plan × (plan.workers ≢ 1)
MayStopInRounds y test plan stop.NoThread = IsInRanges plan × (plan.workers ≢ 1)
MayStopInRounds y test plan stop.Exhausted =
    IsInRanges plan × (plan.workers ≡ 1 → Meets y end_of_time test)
