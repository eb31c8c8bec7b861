use Rattle.std.proofs.Common.{◌∙◌, sym, ap, arith}
use Rattle.rw_ripq.proofs.Found.{light_pair-there}
use Rattle.rw_ripq.proofs.Records.{Recorded-then, Recorded-merge}
use Rattle.std.proofs.Common.{◌+◌}
use Rattle.rw_blocks.specs.declared.Kind.TheVariants.{Device}
use Rattle.rw_ripq.specs.Work.{Work, work_of}
use Rattle.rw_blocks.specs.Sums.{bytes_held}
use Rattle.rw_ripq.specs.Evict.{evict}
use Rattle.rw_ripq.specs.Adjust.{merge_at}
use Rattle.rw_ripq.proofs.Made.{merge-made}
use Rattle.rw_ripq.proofs.adjusting.merge_once.Goals as goal

pub overflow_add-section : goal.overflow_add-section
overflow_add-section g c = let there = light_pair-there c.args.queue.now _ (sym c.light_pair.ensures ∙ c.in-Some.is) in omega arith

pub active-requires : goal.active-requires
active-requires g c = light_pair-there c.args.queue.now _ (sym c.light_pair.ensures ∙ c.in-Some.is)

pub merge-requires-clause-there : goal.merge-requires-clause-there
merge-requires-clause-there g c = light_pair-there c.args.queue.now _ (sym c.light_pair.ensures ∙ c.in-Some.is)

pub returns-clause-effect : goal.returns-clause-effect
returns-clause-effect g c =
    let w : Work = work_of c.args.queue.now c.args.change.now.counts in
    c.in_ok-evict.ensures.effect
    ∙ ap evict (merge-made w c.in-Some.section c.fill-written.result _ _ c.in_ok-mark.ensures.effect
    (c.fill-written.ensures.active Device (c.in-Some.section + 1) (light_pair-there c.args.queue.now _ (sym c.light_pair.ensures ∙ c.in-Some.is)) c.active.ensures ∙ ap (bytes_held Device c.args.queue.now) c.active.ensures)
    c.count_write.ensures)
    ∙ ap (λ o. merge_at o w) (sym (sym c.light_pair.ensures ∙ c.in-Some.is))

pub returns-clause-trail : goal.returns-clause-trail
returns-clause-trail g c =
    let there = light_pair-there c.args.queue.now _ (sym c.light_pair.ensures ∙ c.in-Some.is) in
    λ kept. Recorded-then
    (rw c.count_write.ensures (Recorded-merge _ _ _ _ _ c.args.change.now.counts _ _ (c.in_ok-push.ensures kept) c.in_ok-mark.ensures.undoes c.in_ok-mark.ensures.effect there))
    (c.in_ok-evict.ensures.trail kept)
