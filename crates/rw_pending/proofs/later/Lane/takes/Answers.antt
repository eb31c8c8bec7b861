use Rattle.std.proofs.Common.{◌≤◌, All, arith, subst}
use Rattle.std.proofs.lemmas.Bool.Decides.{nat_tests}
use Rattle.std.proofs.lemmas.List.Elements.{All-weaker}
use Rattle.rw_pending.proofs.later.Lane.takes.Goals as goal

pub returns : goal.returns
returns g c = λ is.
    let last = c.self.inside.last in
    let t = c.args.time in
    let late : last ≤ t = grind (arith, nat_tests) in
    subst (All (λ e. e.time ≤ t)) c.self.view_is (All-weaker (λ e. e.time ≤ last) (λ e. e.time ≤ t) (λ e m. omega arith) c.self.inside.events.items c.self.invariant.0.within)
