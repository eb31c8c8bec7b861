use Rattle.std.proofs.Common.{rules, ◌≡◌, true, refl, sym, ap, ◌∙◌}
use Rattle.std.specs.Prelude.{is_some}
use Rattle.rw_blocks.specs.State.{row_at}
use Rattle.rw_ripq.specs.Purge.{purge_by}
use Rattle.rw_photo.specs.Counts.{one_purge, sum_of}
use Rattle.rw_photo.specs.Storing.{QueueAndCounts, purge_if_stored}
use Rattle.rw_photo.specs.contracts.cache.CacheState.{the_view}
use Rattle.rw_photo.proofs.cache.CacheState.purge.Goals as goal

pub returns-clause-state : goal.returns-clause-state
returns-clause-state g c =
    let q = c.self.inside.queue in
    let o = c.args.object in
    let t = c.args.reclaim in
    let stored : is_some (row_at q o) ≡ true = search rules in
    let gone : purge_if_stored t q o ≡ record { queue = purge_by t q o; counts = one_purge true } = rw stored refl in
    rw (← c.self.view_is)
    (λ i. record (the_view c.self.inside) {
      queue = (c.in_ok-purge_with.ensures.effect ∙ ap (λ (m : QueueAndCounts). m.queue) (sym gone)) i;
      counters = (c.purge-2.ensures ∙ ap (λ (m : QueueAndCounts). sum_of c.self.inside.counters m.counts) (sym gone)) i;
    })
