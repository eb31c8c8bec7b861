use Rattle.std.proofs.Common.{◌++◌, IsPermutation}
use Rattle.std.proofs.lemmas.Result.{IfOk-weaker}
use Rattle.rw_vt.specs.System.{IsReady}
use Rattle.rw_engine.proofs.Onward.{taken_ready}
use Rattle.rw_engine.proofs.run.Run.take_ready.Goals as goal

pub returns-clause-ready : goal.returns-clause-ready
returns-clause-ready g c =
    let run = c.args.self.now in
    let left = c.take_out.new.self.events in
    IfOk-weaker c.take_out.result (λ taken. IsPermutation c.args.pending.now.events (taken.items ++ left)) (λ taken. IsReady g.M.Model run.model run.states.items taken.items)
    (λ taken parts. taken_ready g.M.Model g.M.Body.Ord.cmp left c.requires parts) c.take_out.ensures.parts
