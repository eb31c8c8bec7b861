use Rattle.std.proofs.Common.{◌∙◌, sym}
use Rattle.rw_ripq.proofs.Found.{heavy_section-there}
use Rattle.rw_ripq.proofs.Records.{Recorded-split}
use Rattle.rw_ripq.proofs.adjusting.split_once.Goals as goal

pub sealed-requires : goal.sealed-requires
sealed-requires g c = heavy_section-there c.args.queue.now _ (sym c.heavy_section.ensures ∙ c.in-Some.is)

pub split-requires-clause-there : goal.split-requires-clause-there
split-requires-clause-there g c = heavy_section-there c.args.queue.now _ (sym c.heavy_section.ensures ∙ c.in-Some.is)

pub returns-clause-trail : goal.returns-clause-trail
returns-clause-trail g c =
    λ kept. Recorded-split _ _ _ _ _ c.args.change.now.counts _ _ (c.in_ok-push.ensures kept) c.in_ok-mark.ensures.undoes c.in_ok-mark.ensures.effect (heavy_section-there c.args.queue.now _ (sym c.heavy_section.ensures ∙ c.in-Some.is))
