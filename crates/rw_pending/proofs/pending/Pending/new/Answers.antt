use Rattle.std.proofs.Common.{◌++◌, append-nil, ap, refl, ◌∙◌}
use Rattle.rw_pending.proofs.Waiting.{around_none}
use Rattle.rw_pending.proofs.pending.Pending.new.Goals as goal

pub invariant_of-result : goal.invariant_of-result
invariant_of-result g c = around_none c.new.result c.new-2.result c.new-3.result c.new-2.ensures c.new-3.ensures

pub returns-clause-events : goal.returns-clause-events
returns-clause-events g c =
    let initial = c.new.result in
    ap (λ now. initial ++ (now ++ c.new-3.result)) c.new-2.ensures ∙ ap (λ later. initial ++ later) c.new-3.ensures ∙ append-nil initial ∙ c.new.ensures

pub returns-clause-time : goal.returns-clause-time
returns-clause-time g c = refl
