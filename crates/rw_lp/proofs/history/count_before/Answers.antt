use Rattle.std.proofs.Common.{rules, of_calls}
use Rattle.std.specs.Prelude.{nat_lt}
use Rattle.std.proofs.lemmas.List.Sorted.{IsPartitionPoint-from_clause}
use Rattle.rw_vt.specs.declared.event.Event.{Event}
use Rattle.rw_lp.proofs.Searching.{first_late}
use Rattle.rw_lp.proofs.history.count_before.Goals as goal

pub returns-clause-first : goal.returns-clause-first
returns-clause-first g c =
    let early = λ (e : Event g.row.B.Denot). nat_lt e.time c.args.time in
    first_late c.args.time c.args.events.now c.partition_point.result c.partition_point.ensures.bound
    (IsPartitionPoint-from_clause early c.args.events.now c.partition_point.result c.partition_point.ensures.partitioned c.requires.order (λ a r f k. search (rules, of_calls)))
