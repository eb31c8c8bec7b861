use Rattle.rw_ripq.proofs.Records.{Recorded-seal}
use Rattle.rw_ripq.proofs.putting.make_room.Goals as goal

pub returns-clause-trail : goal.returns-clause-trail
returns-clause-trail g c =
    λ kept. Recorded-seal _ _ _ _ _ _ _ (c.in_ok-push.ensures kept) c.in_ok-mark.ensures.undoes c.in_ok-mark.ensures.effect c.requires.there
