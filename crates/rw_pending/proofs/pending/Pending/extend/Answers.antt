use Rattle.std.proofs.Common.{◌<◌, ◌++◌, All, IsPermutation, subst, sym}
use Rattle.std.specs.Prelude.{OnOk}
use Rattle.std.proofs.lemmas.Result.{on_ok_weaker}
use Rattle.rw_pending.proofs.Waiting.{added_to_all, around_added}
use Rattle.rw_pending.proofs.pending.Pending.extend.Goals as goal

pub invariant_of-self : goal.invariant_of-self
invariant_of-self g c =
    around_added c.self.inside.time c.self.inside.initial c.self.inside.now c.self.inside.later c.args.sent.now c.put_all.new.later c.put_all.result c.self.invariant
    (subst (λ w. All (λ e. w.time < e.time) c.args.sent.now) (sym c.self.view_is) c.requires) c.put_all.ensures.added c.put_all.ensures.some

pub returns-clause-added : goal.returns-clause-added
returns-clause-added g c =
    subst (λ w. OnOk c.put_all.result (IsPermutation (w.events ++ c.args.sent.now) (c.self.inside.initial ++ (c.self.inside.now ++ c.put_all.new.later)))) c.self.view_is
    (on_ok_weaker c.put_all.result (added_to_all c.self.inside.initial c.self.inside.now c.self.inside.later c.args.sent.now c.put_all.new.later) c.put_all.ensures.added)
