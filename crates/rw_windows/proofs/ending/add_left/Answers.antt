use Rattle.std.proofs.Common.{◌++◌, map, ap, ◌∙◌, arith}
use Rattle.std.proofs.lemmas.List.{take_all}
use Rattle.rw_vt.specs.System.{flatten}
use Rattle.rw_windows.specs.Batches.{events_in}
use Rattle.rw_windows.proofs.Lists.{one_behind}
use Rattle.rw_windows.proofs.ending.add_left.Goals as goal

pub loop-row-preserved : goal.loop-row-preserved
loop-row-preserved g c =
    let x = c.row-item.result in
    one_behind (λ row. events_in (map (λ ring. ring.items) row.items)) c.args.rows.now c.loop-row.row-index x c.args.events.now.items c.loop-row.events.items c.add_row.new.events.items c.loop-row-test.true c.row-item.is c.loop-row.invariant
    (c.in_ok-add_row.ensures.more ∙ ap (λ z. c.loop-row.events.items ++ events_in (map (λ ring. ring.items) z)) c.deref.ensures.value)

pub returns : goal.returns
returns g c = record {
  more = c.loop-row.invariant
      ∙ ap (λ z. c.args.events.now.items ++ flatten (map (λ row. events_in (map (λ ring. ring.items) row.items)) z))
      (take_all c.loop-row.row-index c.args.rows.now (omega (arith, c.loop-row-test.false)));
}
