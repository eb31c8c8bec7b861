-- A run on one thread that has no report.
use Rattle.std.proofs.Common.{◌≡◌, ℕ, List, Result, Ok, Err, refl, sym, subst}
use Rattle.std.specs.Prelude.{◌≢◌}
use Rattle.std.specs.Result.{IfErr, IsErrAnd}
use Rattle.rw_vt.specs.declared.refusal.Refusal.{Refusal}
use Rattle.rw_vt.specs.declared.refusal.Refusal.TheVariants.{Memory, Exhausted}
use Rattle.rw_report.specs.declared.sim_fault.SimFault.{SimFault}
use Rattle.rw_report.specs.declared.sim_fault.SimFault.TheVariants as sim
use Rattle.rw_report.specs.Faults.{sim_refusal_of}
use Rattle.rw_photo.specs.declared.config.Config.{Config}
use Rattle.rw_report.specs.Replay.{IsExhaustingInOrder, IsReplayFault, IsWritingFault}

-- a refusal is a fault of the run: want of memory always, and a cache that can take no further event where one was met
pub refusal-is-fault : {T : Type 0} (r : Result T SimFault) (e : Refusal) (c : Config) (bytes : List ℕ) → IsErrAnd r (λ f. f ≡ sim_refusal_of e) → (e ≡ Exhausted → IsExhaustingInOrder c bytes) → IfErr r (IsReplayFault c bytes)
refusal-is-fault (Ok t) e c bytes is h = tt
refusal-is-fault (Err f) Memory c bytes is h = subst (IsReplayFault c bytes) (sym is) tt
refusal-is-fault (Err f) Exhausted c bytes is h = subst (IsReplayFault c bytes) (sym is) (h refl)

-- only a writer's failure is told as one
pub replay-unwritten : (c : Config) (bytes : List ℕ) (f : SimFault) → IsReplayFault c bytes f → f ≢ sim.Output
replay-unwritten c bytes (sim.Trace f) is = λ same. cc
replay-unwritten c bytes sim.Memory is = λ same. cc
replay-unwritten c bytes sim.Exhausted is = λ same. cc
replay-unwritten c bytes sim.Read is = absurd is
replay-unwritten c bytes sim.Plan is = absurd is
replay-unwritten c bytes sim.Rounds is = absurd is
replay-unwritten c bytes sim.NoThread is = absurd is
replay-unwritten c bytes sim.Output is = absurd is

-- what is refused before anything is written
pub before-writing : (c : Config) (bytes : List ℕ) (f : SimFault) → IsReplayFault c bytes f → IsWritingFault c bytes f
before-writing c bytes (sim.Trace f) is = is
before-writing c bytes sim.Memory is = is
before-writing c bytes sim.Exhausted is = is
before-writing c bytes sim.Read is = is
before-writing c bytes sim.Plan is = is
before-writing c bytes sim.Rounds is = is
before-writing c bytes sim.NoThread is = is
before-writing c bytes sim.Output is = tt
