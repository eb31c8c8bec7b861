use Rattle.std.proofs.Common.{◌<◌, ◌++◌, [], ◌∷◌, IsPermutation, subst, sym}
use Rattle.std.specs.Prelude.{OnOk}
use Rattle.std.proofs.lemmas.Result.{on_ok_weaker}
use Rattle.rw_pending.proofs.Waiting.{added_to_all, around_put}
use Rattle.rw_pending.proofs.pending.Pending.put.Goals as goal

pub invariant_of-self : goal.invariant_of-self
invariant_of-self g c =
    let at = c.self.inside in
    around_put at.time at.initial at.now at.later c.args.event c.put.new.self c.put.result c.self.invariant (subst (λ w. w.time < c.args.event.time) (sym c.self.view_is) c.requires)
    c.put.ensures.added c.put.ensures.unchanged

pub returns-clause-added : goal.returns-clause-added
returns-clause-added g c =
    let at = c.self.inside in
    subst (λ w. OnOk c.put.result (IsPermutation (w.events ++ c.args.event ∷ []) (at.initial ++ (at.now ++ c.put.new.self)))) c.self.view_is
    (on_ok_weaker c.put.result (added_to_all at.initial at.now at.later (c.args.event ∷ []) c.put.new.self) c.put.ensures.added)
