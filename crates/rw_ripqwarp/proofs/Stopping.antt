-- Rounds that stop.
use Rattle.std.proofs.Common.{◌≡◌, ℕ, List, Result, Ok, Err, sym, subst}
use Rattle.std.specs.Prelude.{◌↔◌, OnOk}
use Rattle.rw_trace.specs.declared.Row.{Row}
use Rattle.rw_trace.specs.Limits.{most_rows}
use Rattle.rw_trace.specs.Trace.{trace_of}
use Rattle.rw_trace.specs.Unread.{records_of}
use Rattle.rw_report.specs.declared.sim_fault.SimFault.{SimFault}
use Rattle.rw_photo.specs.declared.config.Config.{Config}
use Rattle.rw_photo.specs.Cache.{is_exhausted}
use Rattle.rw_photo.specs.Simulation.{simulation}
use Rattle.rw_rounds.specs.Plans.{IsInRanges}
use Rattle.rw_rounds.specs.declared.plan.Plan.{Plan}
use Rattle.rw_rounds.specs.declared.stop.Stop.{Stop}
use Rattle.rw_rounds.specs.declared.stop.Stop.TheVariants as stop
use Rattle.rw_engine.specs.Segments.{MayStopInRounds}
use Rattle.rw_ripqwarp.specs.declared.mode.Mode.TheVariants.{Warp}
use Rattle.rw_ripqwarp.specs.Faults.{sim_stop_of}
use Rattle.rw_ripqwarp.specs.Simulate.{HasGoodPlan, IsRunFault}

module _ (c : Config) (bytes : List ℕ) (rows : List Row) (accepted : trace_of c.edges most_rows (records_of bytes) ≡ Ok rows) where
  -- each stop is a fault of the run
  pub stops-in-rounds : (plan : Plan) (s : Stop) → MayStopInRounds (simulation c rows) is_exhausted plan s → IsRunFault (Warp plan) c bytes (sim_stop_of s)
  stops-in-rounds plan stop.Memory may = tt
  stops-in-rounds plan stop.Exhausted may =
      ((record { rows = rows; accepted = accepted }, λ one. record { rows = rows; accepted = accepted; met = may.1 one }), λ bad. bad may.0)
  stops-in-rounds plan stop.RoundsUsed may = ((record { rows = rows; accepted = accepted }, may.1), λ bad. bad may.0)
  stops-in-rounds plan stop.BadPlan may = (tt, record { rows = rows; accepted = accepted }, may)
  stops-in-rounds plan stop.NoThread may = (may.1, record { rows = rows; accepted = accepted }, λ bad. bad may.0)

  pub stop-is-fault-in-rounds : (plan : Plan) (s : Stop) (f : SimFault) → MayStopInRounds (simulation c rows) is_exhausted plan s → f ≡ sim_stop_of s → IsRunFault (Warp plan) c bytes f
  stop-is-fault-in-rounds plan s f may is = subst (IsRunFault (Warp plan) c bytes) (sym is) (stops-in-rounds plan s may)

-- a run that has a result is by a good plan
pub good-plan : {T : Type 0} (r : Result T Stop) (plan : Plan) → (r ≡ Err stop.BadPlan) ↔ (IsInRanges plan → ⊥) → OnOk r (HasGoodPlan (Warp plan))
good-plan (Ok t) plan h = λ bad. let same = h.1 bad in cc
good-plan (Err s) plan h = tt
