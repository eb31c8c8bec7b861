-- A run on one thread that takes rows in as they come and stops at any time.
use Rattle.std.specs.Prelude.{◌≡◌, ◌<◌, ◌⊎◌, List, [], length}
use Rattle.rw_vt.specs.declared.event.Event.{Event}
use Rattle.rw_vt.specs.Moments.{HasReached}
use Rattle.rw_vt.specs.System.{IsReady}
use Rattle.rw_vt.specs.Words.{Count, Time}
use Rattle.rw_trace.specs.declared.Row.{Row}
use Rattle.rw_photo.specs.declared.body.Body.{Body}
use Rattle.rw_photo.specs.declared.config.Config.{Config}
use Rattle.rw_photo.specs.contracts.photo.PhotoVtModel.TheImpl as model
use Rattle.rw_photo.specs.Cache.{Cache}
use Rattle.rw_photo.specs.Simulation.{simulation}

-- where a run stands: its caches, the time that it has reached, how many rows it has taken in, the state of each cache,
-- and the events that wait, in no particular order
pub record RunState : Type 0 where
  pub config : Config
  pub time : Time
  pub taken : Count
  pub states : List Cache
  pub waiting : List (Event Body)

-- the run is one of these rows: it has taken them in, its caches may run them, and of their requests and all that
-- follows from them it has executed what is before its time, in order, and no other
pub record IsRunOn (rows : List Row) (r : RunState) : Type 0 where
  pub taken : r.taken ≡ length rows
  pub ready : IsReady model.ghosts (record { config = r.config }) (simulation r.config rows).starts
      (simulation r.config rows).initial
  pub reached : HasReached (simulation r.config rows) r.time r.states r.waiting

-- ---- how a run keeps what waits
-- at time 0 events from outside may be kept apart; later none is, and what waits was last taken at a time before the
-- one that is reached
abbrev pub AreApart : Time → Time → List (Event Body) → Type 0
AreApart time last first = (time ≡ 0) ⊎ ((last < time) × (first ≡ []))
