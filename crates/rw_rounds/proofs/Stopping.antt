-- Why a run stops.
use Rattle.std.proofs.Common.{◌≡◌, Ok, Err}
use Rattle.rw_rounds.specs.declared.stop.Stop.TheVariants.{BadPlan}

-- an answer is no bad plan
pub ok-is-no-plan : {T : Type 0} (t : T) → Ok t ≡ Err BadPlan → ⊥
ok-is-no-plan t same = cc
