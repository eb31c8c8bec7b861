use Rattle.std.proofs.Common.{sym, ap, ◌∙◌, subst}
use Rattle.std.specs.Option.{IfSome, IfNone}
use Rattle.rw_vt.specs.Order.{event_cmp}
use Rattle.rw_vt.specs.System.{rules}
use Rattle.rw_rounds.specs.Processes.{TellsNext}
use Rattle.rw_rounds.specs.Working.{HeldBack, IsNext}
use Rattle.rw_rounds.proofs.processes.Processes.next_before.Goals as goal

pub look_at_each-requires : goal.look_at_each-requires
look_at_each-requires g c = record { tells = subst (λ ls. TellsNext (event_cmp g.M.Body.Ord.cmp) ls c.self.inside.next) (sym c.deref.ensures.value) c.self.invariant }

pub returns-clause-some : goal.returns-clause-some
returns-clause-some g c =
    subst (λ ls. IfSome c.least_before.result (λ place. (m : g.row.M.Denot) → IsNext (rules g.M.Model g.M.Body.Ord.cmp m) c.args.bound ls place)) (c.deref-2.ensures.value ∙ ap (λ p. p.items) c.self.view_is)
    c.least_before.ensures.some

pub returns-clause-none : goal.returns-clause-none
returns-clause-none g c =
    subst (λ ls. IfNone c.least_before.result ((m : g.row.M.Denot) → HeldBack (rules g.M.Model g.M.Body.Ord.cmp m) c.args.bound ls)) (c.deref-2.ensures.value ∙ ap (λ p. p.items) c.self.view_is)
    c.least_before.ensures.none
