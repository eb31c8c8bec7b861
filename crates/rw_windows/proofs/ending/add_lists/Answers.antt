use Rattle.std.proofs.Common.{◌++◌, map, ap, ◌∙◌, arith}
use Rattle.std.proofs.lemmas.List.{take_all}
use Rattle.rw_vt.specs.System.{flatten}
use Rattle.rw_windows.proofs.Lists.{one_behind}
use Rattle.rw_windows.proofs.ending.add_lists.Goals as goal

pub loop-list-preserved : goal.loop-list-preserved
loop-list-preserved g c =
    let x = c.list-item.result in
    one_behind (λ l. l.items) c.args.lists.now c.loop-list.list-index x c.args.events.now.items c.loop-list.events.items c.extend_from_slice.new.self.items c.loop-list-test.true c.list-item.is c.loop-list.invariant
    (c.in_ok-extend_from_slice.ensures.items ∙ ap (λ z. c.loop-list.events.items ++ z) c.deref.ensures.value)

pub returns : goal.returns
returns g c = record {
  more = c.loop-list.invariant
      ∙ ap (λ z. c.args.events.now.items ++ flatten (map (λ l. l.items) z))
      (take_all c.loop-list.list-index c.args.lists.now (omega (arith, c.loop-list-test.false)));
}
