use Rattle.std.proofs.Common.{◌++◌, subst, sym}
use Rattle.rw_pending.specs.Later.{IsLeastOr, never}
use Rattle.rw_pending.specs.Wheel.{all_of}
use Rattle.rw_pending.proofs.ByTime.{least_or_append}
use Rattle.rw_pending.proofs.Wheels.{least_of_first}
use Rattle.rw_pending.proofs.wheel.WheelStore.least.Goals as goal

pub returns : goal.returns
returns g c =
    let now = c.self.inside in
    rw (← c.self.view_is) (subst (IsLeastOr never (all_of now.slots ++ now.others)) (sym c.min.ensures)
    (least_or_append (least_of_first now.base c.least.result now.slots c.self.invariant c.least.ensures) c.least-2.ensures))
