use Rattle.std.proofs.Common.{arith, ap, sym, ◌≡◌}
use Rattle.rw_blocks.specs.State.{QueueState}
use Rattle.rw_blocks.specs.Loose.{sealed_devices}
use Rattle.rw_blocks.proofs.Serials.{sealed_devices-le-next}
use Rattle.rw_blocks.proofs.queue.Queue.sealed_devices.Goals as goal

pub sealed_devices-requires : goal.sealed_devices-requires
sealed_devices-requires c =
    let same : sealed_devices c.args.self.now ≡ sealed_devices (record { shape = c.self.inside.shape; sections = c.self.inside.sections; rows = c.self.inside.rows; next = c.self.inside.next }) = sym (ap sealed_devices c.self.view_is) in
    let next : c.args.self.now.next ≡ c.self.inside.next = sym (ap (λ (q : QueueState). q.next) c.self.view_is) in
    let range = c.self.invariant.0 in
    omega (arith, same, next, range, sealed_devices-le-next c.args.self.now c.requires)
