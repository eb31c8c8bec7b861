use Rattle.std.proofs.Common.{◌+◌, ◌∷◌, ◌++◌, [], map, ap, ◌∙◌, append_assoc}
use Rattle.std.proofs.lemmas.List.{map-append}
use Rattle.rw_vt.specs.Order.{weigh}
use Rattle.rw_vt.specs.System.{flatten}
use Rattle.rw_windows.proofs.Sums.{weigh-append}
use Rattle.rw_windows.proofs.ending.EndingParts.add.Goals as goal

pub returns-clause-events : goal.returns-clause-events
returns-clause-events g c h =
    let old = c.args.self.now.events.items in
    ap (weigh h) (c.in_ok-add_events.ensures.more ∙ append_assoc old c.share.inside.events.items _)
    ∙ weigh-append h old _
    ∙ ap (λ v. weigh h old + weigh h (v.waiting ++ flatten v.outbox)) c.share.view_is

pub returns-clause-shares : goal.returns-clause-shares
returns-clause-shares g c =
    let old = c.args.self.now.shares.items in
    ap (map (λ h. h.items)) c.in_ok-push_back.ensures.items
    ∙ map-append (λ h. h.items) old (c.from.result ∷ [])
    ∙ ap (λ x. map (λ h. h.items) old ++ x ∷ []) (c.from.ensures.0 ∙ ap (λ w. w.states) c.share.view_is)

pub returns-clause-ports : goal.returns-clause-ports
returns-clause-ports g c = c.in_ok-push.ensures.items ∙ ap (λ w. c.args.self.now.ports.items ++ w.port ∷ []) c.share.view_is
