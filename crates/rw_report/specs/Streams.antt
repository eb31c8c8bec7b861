-- A run of rows that are read as it goes on.
use Rattle.std.specs.Prelude.{◌≡◌, ◌≤◌, ◌⊎◌, List}
use Rattle.rw_vt.specs.Limits.{end_of_time}
use Rattle.rw_vt.specs.System.{IsReady, Meets}
use Rattle.rw_vt.specs.Words.{Time}
use Rattle.rw_trace.specs.declared.Row.{Row}
use Rattle.rw_trace.specs.declared.pieces.RowsFault.TheVariants as rows
use Rattle.rw_trace.specs.Pieces.{Ahead, AreAll, ComeFirst, IsRefusal, RiseFrom, last_time}
use Rattle.rw_report.specs.declared.sim_fault.SimFault.{SimFault}
use Rattle.rw_report.specs.declared.sim_fault.SimFault.TheVariants as sim
use Rattle.rw_photo.specs.declared.config.Config.{Config}
use Rattle.rw_photo.specs.contracts.photo.PhotoVtModel.TheImpl as model
use Rattle.rw_photo.specs.Cache.{is_exhausted}
use Rattle.rw_photo.specs.Simulation.{simulation}
use Rattle.rw_report.specs.declared.moments.Moment.{Moment}
use Rattle.rw_report.specs.History.{IsHistory}

-- some rows were all that was to come, stand in order of time, and can be run by the caches; and these moments are
-- those of a run of them
pub record IsStreamed (c : Config) (start every : Time) (ahead : Ahead)
    (ms : List Moment) : Type 0 where
  pub rows : List Row
  pub given : AreAll ahead rows
  pub rising : RiseFrom 0 rows
  pub ready : IsReady model.ghosts (record { config = c }) (simulation c rows).starts
      (simulation c rows).initial
  pub history : IsHistory (simulation c rows) start every ms

-- these rows came first, and executing their requests in order of time, up to the time of the last of them, comes to a
-- cache that can take no further event; or these rows were all, and executing them all does
pub record IsExhaustingFirst (c : Config) (ahead : Ahead) : Type 0 where
  pub rows : List Row
  pub rest : Ahead
  pub until : Time
  pub first : ComeFirst ahead rows rest ⊎ AreAll ahead rows
  pub rising : RiseFrom 0 rows
  pub soon : (until ≤ last_time 0 rows) ⊎ (AreAll ahead rows × (until ≡ end_of_time))
  pub met : Meets (simulation c rows) until is_exhausted

-- why rows that were to come were not all run
abbrev pub IsStreamFault : Config → Ahead → SimFault → Type 0
IsStreamFault c ahead (sim.Trace f) = IsRefusal ahead (rows.Trace f)
IsStreamFault c ahead sim.Exhausted = IsExhaustingFirst c ahead
IsStreamFault c ahead sim.Memory = Unit {0}
IsStreamFault c ahead sim.Read = Unit {0}
IsStreamFault c ahead _ = ⊥
