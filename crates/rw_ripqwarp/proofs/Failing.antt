-- Which faults a run has of a call that failed.
use Rattle.std.proofs.Common.{◌≡◌, ℕ, List, sym, subst}
use Rattle.std.specs.Prelude.{◌≢◌}
use Rattle.rw_report.specs.declared.sim_fault.SimFault.{SimFault}
use Rattle.rw_report.specs.declared.sim_fault.SimFault.TheVariants as sim
use Rattle.rw_photo.specs.declared.config.Config.{Config}
use Rattle.rw_rounds.specs.declared.stop.Stop.{Stop}
use Rattle.rw_rounds.specs.declared.stop.Stop.TheVariants as stop
use Rattle.rw_report.specs.Beginning.{IsBeginningFault}
use Rattle.rw_report.specs.Replay.{IsReplayFault}
use Rattle.rw_ripqwarp.specs.declared.mode.Mode.{Mode}
use Rattle.rw_ripqwarp.specs.declared.mode.Mode.TheVariants.{Serial}
use Rattle.rw_ripqwarp.specs.Faults.{sim_stop_of}
use Rattle.rw_ripqwarp.specs.Simulate.{IsRunFault}

-- why a run cannot begin is a fault of the run, in every mode
pub beginning-fault : (mode : Mode) (c : Config) (bytes : List ℕ) (f : SimFault) → IsBeginningFault c bytes f → IsRunFault mode c bytes f
beginning-fault mode c bytes (sim.Trace f) is = is
beginning-fault mode c bytes sim.Memory is = tt
beginning-fault mode c bytes sim.Plan is = absurd is
beginning-fault mode c bytes sim.Exhausted is = absurd is
beginning-fault mode c bytes sim.Rounds is = absurd is
beginning-fault mode c bytes sim.NoThread is = absurd is
beginning-fault mode c bytes sim.Read is = absurd is
beginning-fault mode c bytes sim.Output is = absurd is

-- why a run on one thread has no report is a fault of the run in that mode
pub replay-fault : (c : Config) (bytes : List ℕ) (f : SimFault) → IsReplayFault c bytes f → IsRunFault Serial c bytes f
replay-fault c bytes (sim.Trace f) is = is
replay-fault c bytes sim.Memory is = tt
replay-fault c bytes sim.Exhausted is = (is, λ bad. bad)
replay-fault c bytes sim.Plan is = absurd is
replay-fault c bytes sim.Rounds is = absurd is
replay-fault c bytes sim.NoThread is = absurd is
replay-fault c bytes sim.Read is = absurd is
replay-fault c bytes sim.Output is = absurd is

-- only a writer's failure is told as one
pub beginning-unwritten : (c : Config) (bytes : List ℕ) (f : SimFault) → IsBeginningFault c bytes f → f ≢ sim.Output
beginning-unwritten c bytes (sim.Trace f) is = λ same. cc
beginning-unwritten c bytes sim.Memory is = λ same. cc
beginning-unwritten c bytes sim.Plan is = absurd is
beginning-unwritten c bytes sim.Exhausted is = absurd is
beginning-unwritten c bytes sim.Rounds is = absurd is
beginning-unwritten c bytes sim.NoThread is = absurd is
beginning-unwritten c bytes sim.Read is = absurd is
beginning-unwritten c bytes sim.Output is = absurd is

unwritten : (s : Stop) → sim_stop_of s ≢ sim.Output
unwritten stop.Memory = λ same. cc
unwritten stop.Exhausted = λ same. cc
unwritten stop.RoundsUsed = λ same. cc
unwritten stop.BadPlan = λ same. cc
unwritten stop.NoThread = λ same. cc

pub stop-unwritten : (s : Stop) (f : SimFault) → f ≡ sim_stop_of s → f ≢ sim.Output
stop-unwritten s f is = subst (λ g. g ≢ sim.Output) (sym is) (unwritten s)
