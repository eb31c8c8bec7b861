use Rattle.std.proofs.Common.{rules}
use Rattle.rw_ripq.proofs.Laws.{purged, reclaimed}
use Rattle.rw_ripq.proofs.purging.purge_with.Goals as goal

pub returns-in_ok-clear_home-clause-kept : goal.returns-in_ok-clear_home-clause-kept
returns-in_ok-clear_home-clause-kept g c = (purged c.args.reclaim c.args.queue.now c.clear_home.new.queue c.args.object c.requires.well_formed c.requires.resident (search rules)).well_formed

pub returns-in_ok-clear_home-clause-gone : goal.returns-in_ok-clear_home-clause-gone
returns-in_ok-clear_home-clause-gone g c = (purged c.args.reclaim c.args.queue.now c.clear_home.new.queue c.args.object c.requires.well_formed c.requires.resident (search rules)).gone

pub returns-in_ok-clear_home-clause-others : goal.returns-in_ok-clear_home-clause-others
returns-in_ok-clear_home-clause-others g c = (purged c.args.reclaim c.args.queue.now c.clear_home.new.queue c.args.object c.requires.well_formed c.requires.resident (search rules)).others

pub returns-in_ok-clear_home-clause-order : goal.returns-in_ok-clear_home-clause-order
returns-in_ok-clear_home-clause-order g c = (purged c.args.reclaim c.args.queue.now c.clear_home.new.queue c.args.object c.requires.well_formed c.requires.resident (search rules)).order

pub returns-else-reclaim-clause-kept : goal.returns-else-reclaim-clause-kept
returns-else-reclaim-clause-kept g c = (purged c.args.reclaim c.args.queue.now c.clear.new.queue c.args.object c.requires.well_formed c.requires.resident (search rules)).well_formed

pub returns-else-reclaim-clause-gone : goal.returns-else-reclaim-clause-gone
returns-else-reclaim-clause-gone g c = (purged c.args.reclaim c.args.queue.now c.clear.new.queue c.args.object c.requires.well_formed c.requires.resident (search rules)).gone

pub returns-else-reclaim-clause-others : goal.returns-else-reclaim-clause-others
returns-else-reclaim-clause-others g c = (purged c.args.reclaim c.args.queue.now c.clear.new.queue c.args.object c.requires.well_formed c.requires.resident (search rules)).others

pub returns-else-reclaim-clause-order : goal.returns-else-reclaim-clause-order
returns-else-reclaim-clause-order g c = (purged c.args.reclaim c.args.queue.now c.clear.new.queue c.args.object c.requires.well_formed c.requires.resident (search rules)).order

pub returns-in_ok-clear_home-clause-reclaimed : goal.returns-in_ok-clear_home-clause-reclaimed
returns-in_ok-clear_home-clause-reclaimed g c = λ _. reclaimed c.args.queue.now c.clear_home.new.queue c.args.object c.requires.well_formed c.requires.resident (search rules)
