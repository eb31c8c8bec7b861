use Rattle.std.proofs.Common.{ℕ, ◌≡◌, ◌<◌, ◌^◌, [], List, true, false, length, replicate, subst, sym}
use Rattle.std.specs.Prelude.{IfOk}
use Rattle.rw_vt.specs.System.{system, IsOutcome, IsReady}
use Rattle.rw_vt.specs.declared.event.Event.{Event}
use Rattle.rw_serial.specs.Counts.{events_below}
use Rattle.rw_serial.proofs.execute_all.Goals as goal

pub execute_pending-requires-clause-ready : goal.execute_pending-requires-clause-ready
execute_pending-requires-clause-ready g c = subst (IsReady g.M.Model c.args.model.now c.args.states.now.items) (sym c.new-pending.ensures.events) c.requires.ready

pub returns-clause-outcome : goal.returns-clause-outcome
returns-clause-outcome g c =
    let starts = c.args.states.now.items in
    let ran = c.execute_pending in
    subst (λ es. IfOk ran.result (λ all.
    all ≡ true → (limit : ℕ) → g.L.Ledger.StandsFor c.args.ledger.now limit (replicate (length starts) [])
    → (journals : List (List (Event _))) × g.L.Ledger.StandsFor ran.new.ledger limit journals × IsOutcome (system g.M.Model g.M.Body.Ord.cmp c.args.model.now starts es) (2 ^ 40) journals ran.new.states.items))
    c.new-pending.ensures.events ran.ensures.outcome

pub returns-clause-used_up : goal.returns-clause-used_up
returns-clause-used_up g c =
    let starts = c.args.states.now.items in
    let ran = c.execute_pending in
    subst (λ es. IfOk ran.result (λ all.
    all ≡ false → (limit : ℕ) → g.L.Ledger.StandsFor c.args.ledger.now limit (replicate (length starts) [])
    → limit < events_below (system g.M.Model g.M.Body.Ord.cmp c.args.model.now starts es) (2 ^ 40)))
    c.new-pending.ensures.events ran.ensures.used_up

pub execute_pending-requires-clause-none : goal.execute_pending-requires-clause-none
execute_pending-requires-clause-none g c = c.requires.none
