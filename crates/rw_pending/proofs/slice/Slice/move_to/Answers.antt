use Rattle.std.proofs.Common.{◌++◌, ◌∙◌, ap, append-nil, sym}
use Rattle.rw_pending.proofs.Lists.{dropped_all}
use Rattle.rw_pending.proofs.slice.Slice.move_to.Goals as goal

pub returns-clause-left : goal.returns-clause-left
returns-clause-left g c =
    let events = c.self.inside.events in
    let none = dropped_all events.items c.len-self-inside.result (c.len-self-inside.ensures ∙ events.ok.0) in
    (c.args.self.now, sym (ap (λ l. c.args.self.now ++ l) none ∙ append-nil c.args.self.now))
