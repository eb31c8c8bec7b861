use Rattle.std.proofs.Common.{rules, ◌≡◌, ◌≤◌, sym, ap, ◌∙◌}
use Rattle.rw_ripq.specs.declared.Tally.{Tally}
use Rattle.rw_ripq.specs.Insert.{insert}
use Rattle.rw_photo.specs.Counts.{one_inserted, sum_of}
use Rattle.rw_photo.specs.contracts.cache.CacheState.{the_view}
use Rattle.rw_photo.specs.Storing.{QueueAndCounts, insertion, store}
use Rattle.rw_photo.proofs.Stores.{stored-small}
use Rattle.rw_photo.proofs.cache.CacheState.store.Goals as goal

pub returns-clause-state : goal.returns-clause-state
returns-clause-state g c =
    let q = c.self.inside.queue in
    let k = c.self.inside.counters in
    let small : c.args.size ≤ q.shape.block = search rules in
    let made : store c.args.policy q c.args.object c.args.size ≡ insertion (insert c.args.policy q c.args.object c.args.size 1) c.args.size = stored-small c.args.policy q c.args.object c.args.size (search rules) small in
    rw (← c.self.view_is)
    (λ i. record (the_view c.self.inside) {
      queue = (c.in-Ok.ensures.effect ∙ ap (λ (m : QueueAndCounts). m.queue) (sym made)) i;
      counters = (c.insert.ensures ∙ (ap (λ (t : Tally). sum_of k (one_inserted t c.args.size)) c.in-Ok.ensures.tally ∙ ap (λ (m : QueueAndCounts). sum_of k m.counts) (sym made))) i;
    })

pub returns-clause-short : goal.returns-clause-short
returns-clause-short g c = rw (← c.self.view_is) c.in-Ok.ensures.short
