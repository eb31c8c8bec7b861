use Rattle.std.proofs.Common.{rules, heap_items}
use Rattle.rw_pending.proofs.ByTime.{pushed_one}
use Rattle.rw_pending.proofs.heap.HeapStore.put.Goals as goal

pub returns-clause-added : goal.returns-clause-added
returns-clause-added g c = rw (← c.self.view_is) (pushed_one c.args.event.now (heap_items c.self.inside.events) (heap_items c.push.new.self) (search rules))
