-- What a run answers where its rounds stop.
use Rattle.rw_report.specs.declared.sim_fault.SimFault.{SimFault}
use Rattle.rw_report.specs.declared.sim_fault.SimFault.TheVariants as sim
use Rattle.rw_rounds.specs.declared.stop.Stop.{Stop}
use Rattle.rw_rounds.specs.declared.stop.Stop.TheVariants as stop

-- why rounds stopped
abbrev pub sim_stop_of : Stop → SimFault
sim_stop_of stop.Memory = sim.Memory
sim_stop_of stop.Exhausted = sim.Exhausted
sim_stop_of stop.RoundsUsed = sim.Rounds
sim_stop_of stop.BadPlan = sim.Plan
sim_stop_of stop.NoThread = sim.NoThread
