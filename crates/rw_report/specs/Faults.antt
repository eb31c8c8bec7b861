-- What a run answers where one of its steps is refused.
use Rattle.rw_vt.specs.declared.refusal.Refusal.{Refusal}
use Rattle.rw_vt.specs.declared.refusal.Refusal.TheVariants as refusal
use Rattle.rw_trace.specs.declared.TraceFault.{TraceFault}
use Rattle.rw_trace.specs.declared.TraceFault.TheVariants as fault
use Rattle.rw_trace.specs.declared.pieces.RowsFault.{RowsFault}
use Rattle.rw_trace.specs.declared.pieces.RowsFault.TheVariants as rows
use Rattle.rw_report.specs.declared.sim_fault.SimFault.{SimFault}
use Rattle.rw_report.specs.declared.sim_fault.SimFault.TheVariants as sim

-- a trace's fault, but for want of memory
abbrev pub sim_fault_of : TraceFault → SimFault
sim_fault_of fault.Memory = sim.Memory
sim_fault_of f = sim.Trace f

-- what is wrong with rows that are read piece by piece
abbrev pub sim_rows_fault_of : RowsFault → SimFault
sim_rows_fault_of (rows.Trace f) = sim_fault_of f
sim_rows_fault_of rows.Read = sim.Read

abbrev pub sim_refusal_of : Refusal → SimFault
sim_refusal_of refusal.Memory = sim.Memory
sim_refusal_of refusal.Exhausted = sim.Exhausted
