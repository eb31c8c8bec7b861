-- What a refusal is to a pool.
use Rattle.rw_vt.specs.declared.refusal.Refusal.{Refusal}
use Rattle.rw_vt.specs.declared.refusal.Refusal.TheVariants as refusal
use Rattle.rw_pool.specs.declared.halt.Halt.{Halt}
use Rattle.rw_pool.specs.declared.halt.Halt.TheVariants.{Memory, Exhausted}

abbrev pub halt_of : Refusal → Halt
halt_of refusal.Memory = Memory
halt_of refusal.Exhausted = Exhausted
