-- What a run of a trace begins with.
use Rattle.std.specs.Prelude.{◌≡◌, List, Ok, Err}
use Rattle.rw_vt.specs.declared.event.Event.{Event}
use Rattle.rw_vt.specs.System.{IsReady}
use Rattle.rw_trace.specs.declared.Row.{Row}
use Rattle.rw_trace.specs.Limits.{most_rows}
use Rattle.rw_trace.specs.Trace.{trace_of}
use Rattle.rw_trace.specs.Unread.{records_of}
use Rattle.rw_trace.specs.Words.{Text}
use Rattle.rw_report.specs.declared.sim_fault.SimFault.{SimFault}
use Rattle.rw_report.specs.declared.sim_fault.SimFault.TheVariants as sim
use Rattle.rw_photo.specs.declared.body.Body.{Body}
use Rattle.rw_photo.specs.declared.config.Config.{Config}
use Rattle.rw_photo.specs.contracts.photo.PhotoVtModel.TheImpl as model
use Rattle.rw_photo.specs.Cache.{Cache}
use Rattle.rw_photo.specs.Simulation.{simulation}

-- a run of the trace in these bytes begins with these caches and events: the trace is accepted, the caches and the
-- requests are those of its simulation, and a model of the configuration may run them
pub record IsBeginningOf (c : Config) (bytes : Text) (starts : List Cache)
    (initial : List (Event Body)) : Type 0 where
  pub rows : List Row
  pub accepted : trace_of c.edges most_rows (records_of bytes) ≡ Ok rows
  pub starts_are : starts ≡ (simulation c rows).starts
  pub initial_are : initial ≡ (simulation c rows).initial
  pub ready : IsReady model.ghosts (record { config = c }) starts initial

-- why a run of the trace in these bytes cannot begin
abbrev pub IsBeginningFault : Config → Text → SimFault → Type 0
IsBeginningFault c bytes (sim.Trace f) = trace_of c.edges most_rows (records_of bytes) ≡ Err f
IsBeginningFault c bytes sim.Memory = Unit {0}
IsBeginningFault c bytes _ = ⊥
