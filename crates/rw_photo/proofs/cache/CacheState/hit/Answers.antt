use Rattle.std.proofs.Common.{◌≡◌, Bool, ap, ◌∙◌}
use Rattle.rw_blocks.specs.State.{QueueState}
use Rattle.rw_ripq.specs.Promote.{promote}
use Rattle.rw_photo.specs.Counts.{one_hit, sum_of}
use Rattle.rw_photo.specs.contracts.cache.CacheState.{the_view}
use Rattle.rw_photo.specs.Storing.{is_moved}
use Rattle.rw_photo.proofs.Stores.{hit-made}
use Rattle.rw_photo.proofs.cache.CacheState.hit.Goals as goal

pub returns-clause-state : goal.returns-clause-state
returns-clause-state g c =
    let q = c.self.inside.queue in
    let o = c.args.object in
    let after = promote c.args.policy q o in
    let moved : c.in-Ok.moved ≡ is_moved q after o = c.in-Ok.ensures.changed ∙ ap (λ (x : QueueState). is_moved q x o) c.in-Ok.ensures.effect in
    hit-made (the_view c.self.inside) c.args.self.now c.args.policy o c.args.size c.promote_with-promoted.new.queue c.hit.new.self c.self.view_is c.in-Ok.ensures.effect
    (c.hit.ensures ∙ ap (λ (m : Bool). sum_of c.self.inside.counters (one_hit m c.args.size)) moved)
