use Rattle.std.proofs.Common.{ap}
use Rattle.rw_bag.specs.Bags.{copies_of}
use Rattle.rw_bag.proofs.counted.CountedBag.new.Goals as goal

pub returns : goal.returns
unfolding copies_of
returns g c = ap copies_of c.new.ensures.empty
