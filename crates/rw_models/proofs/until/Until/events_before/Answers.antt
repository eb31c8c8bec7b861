use Rattle.std.proofs.Common.{◌&&◌, nat_lt}
use Rattle.rw_vt.specs.Order.{event_cmp}
use Rattle.rw_models.proofs.Ending.{ends_at, ready_before}
use Rattle.rw_models.proofs.until.Until.events_before.Goals as goal

pub returns-clause-ready : goal.returns-clause-ready
returns-clause-ready g c = λ starts h.
    rw c.drop_late.ensures (record {
      enough = h.enough;
      well_formed = h.well_formed;
      valid = ready_before (g.M.Model.is_valid c.args.self.now.model) c.args.self.now.end c.args.events.items h.valid;
    })

pub returns-clause-runs : goal.returns-clause-runs
returns-clause-runs g c = λ starts.
    rw c.drop_late.ensures
    (ends_at c.args.self.now.end (record {
      rules = record {
        order = event_cmp g.M.Body.Ord.cmp;
        step = g.M.Model.step c.args.self.now.model;
        valid = g.M.Model.is_valid c.args.self.now.model;
      };
      starts = starts;
      initial = c.args.events.items;
    })
    (λ e. g.M.Model.is_valid c.args.self.now.model e && nat_lt e.time c.args.self.now.end))
