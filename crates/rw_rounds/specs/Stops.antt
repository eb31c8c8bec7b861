-- What a refusal is to a run, and why its workers came to nothing.
use Rattle.std.specs.Prelude.{◌≢◌}
use Rattle.rw_vt.specs.declared.refusal.Refusal.{Refusal}
use Rattle.rw_vt.specs.declared.refusal.Refusal.TheVariants as refusal
use Rattle.rw_pool.specs.declared.halt.Halt.{Halt}
use Rattle.rw_pool.specs.declared.halt.Halt.TheVariants as halt
use Rattle.rw_rounds.specs.declared.stop.Stop.{Stop}
use Rattle.rw_rounds.specs.declared.stop.Stop.TheVariants.{Memory, Exhausted, RoundsUsed, BadPlan, NoThread}

abbrev pub stop_of : Refusal → Stop
stop_of refusal.Memory = Memory
stop_of refusal.Exhausted = Exhausted

abbrev pub stop_of_halt : Halt → Stop
stop_of_halt halt.Memory = Memory
stop_of_halt halt.Exhausted = Exhausted
stop_of_halt halt.NoThread = NoThread

-- a round may end so
abbrev pub EndsRound : Stop → Type 0
EndsRound stop = (stop ≢ BadPlan) × (stop ≢ RoundsUsed)
