-- The exit status of each fault of a command.
use Rattle.std.specs.Prelude.{◌≡◌, ◌≤◌, ◌⊎◌, ℕ}
use Rattle.rw_report.specs.declared.sim_fault.SimFault.{SimFault}
use Rattle.rw_report.specs.declared.sim_fault.SimFault.TheVariants as run
use Rattle.rw_report.specs.declared.schedule_text.ScheduleFault.{ScheduleFault}
use Rattle.rw_report.specs.declared.schedule_text.ScheduleFault.TheVariants as schedule
use Rattle.rw_import.specs.declared.fault.ImportFault.{ImportFault}
use Rattle.rw_import.specs.declared.fault.ImportFault.TheVariants as log
use Rattle.rw_sweep.specs.declared.joiner.join_fault.JoinFault.{JoinFault}
use Rattle.rw_sweep.specs.declared.joiner.join_fault.JoinFault.TheVariants as parts
use Rattle.rw_plot.specs.declared.plot_fault.PlotFault.{PlotFault}
use Rattle.rw_plot.specs.declared.plot_fault.PlotFault.TheVariants as table
use Rattle.rw_command.specs.declared.fault.Fault.{Fault}
use Rattle.rw_command.specs.declared.fault.Fault.TheVariants as fault
use Rattle.rw_command.specs.declared.source.SourceFault.{SourceFault}
use Rattle.rw_command.specs.declared.source.SourceFault.TheVariants as source

-- of a file that cannot be read
abbrev pub status_of_source : SourceFault → ℕ
status_of_source source.Read = 4
status_of_source source.Memory = 5

-- of a run
abbrev pub status_of_run : SimFault → ℕ
status_of_run run.Plan = 2
status_of_run (run.Trace f) = 3
status_of_run run.Read = 4
status_of_run run.Memory = 5
status_of_run run.Rounds = 6
status_of_run run.NoThread = 6
status_of_run run.Exhausted = 7
status_of_run run.Output = 8

-- of a schedule
abbrev pub status_of_schedule : ScheduleFault → ℕ
status_of_schedule (schedule.Word n) = 2
status_of_schedule schedule.Memory = 5

-- of a log
abbrev pub status_of_log : ImportFault → ℕ
status_of_log log.Read = 4
status_of_log log.Memory = 5
status_of_log log.Output = 8
status_of_log f = 3

-- of a table that is drawn
abbrev pub status_of_table : PlotFault → ℕ
status_of_table table.Memory = 5
status_of_table f = 3

-- of the parts of a sweep
abbrev pub status_of_parts : JoinFault → ℕ
status_of_parts parts.Memory = 5
status_of_parts f = 3

-- of any command: what is refused for its words alone has 2
abbrev pub status_of : Fault → ℕ
status_of (fault.Source f) = status_of_source f
status_of (fault.Run f) = status_of_run f
status_of (fault.Schedule f) = status_of_schedule f
status_of (fault.Import f) = status_of_log f
status_of (fault.Plot f) = status_of_table f
status_of (fault.Join f) = status_of_parts f
status_of fault.Memory = 5
status_of fault.Random = 4
status_of f = 2

-- what a program may end with: 0 where it has done what was asked, else 2 to 8
abbrev pub IsStatus : ℕ → Type 0
IsStatus n = (n ≡ 0) ⊎ ((2 ≤ n) × (n ≤ 8))
