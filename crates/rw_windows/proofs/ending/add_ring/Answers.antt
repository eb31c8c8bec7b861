use Rattle.std.proofs.Common.{◌++◌, ap, ◌∙◌, arith}
use Rattle.std.proofs.lemmas.List.{take_all}
use Rattle.rw_windows.specs.Batches.{batch_events}
use Rattle.rw_windows.proofs.Lists.{one_behind}
use Rattle.rw_windows.proofs.ending.add_ring.Goals as goal

pub loop-batch-preserved : goal.loop-batch-preserved
loop-batch-preserved g c =
    let x = c.batch-item.result in
    one_behind (λ b. b.events) c.args.batches.now c.loop-batch.batch-index x c.args.events.now.items c.loop-batch.events.items c.extend_from_slice.new.self.items c.loop-batch-test.true c.batch-item.is c.loop-batch.invariant
    (c.in_ok-extend_from_slice.ensures.items ∙ ap (λ z. c.loop-batch.events.items ++ z) (c.deref.ensures.value ∙ ap (λ b. b.events) c.batch.view_is))

pub returns : goal.returns
returns g c = record {
  more = c.loop-batch.invariant ∙ ap (λ z. c.args.events.now.items ++ batch_events z) (take_all c.loop-batch.batch-index c.args.batches.now (omega (arith, c.loop-batch-test.false)));
}
