use Rattle.rw_rounds.proofs.Ends.{fit_closed}
use Rattle.rw_rounds.proofs.round.RoundWorkJobWorker.run.Goals as goal

pub returns : goal.returns
returns g c =
    let worker = c.in_ok-worker.worker in
    let closes = c.close.ensures.closes in
    record {
      gives = record {
        between = worker;
        turns_are = c.in_ok-worker.ensures.turns;
        closes = closes;
        fit = fit_closed g.M.Model g.M.Body.Ord.cmp c.args.self.now.model worker c.close.result closes c.in_ok-worker.ensures.fit;
      };
    }
