use Rattle.std.proofs.Common.{◌≡◌, true, List, [], ◌++◌, subst, sym, ap, ◌∙◌}
use Rattle.rw_vt.specs.declared.event.Letter.{Letter}
use Rattle.rw_vt.specs.Letters.{letters_of}
use Rattle.rw_vt.specs.Order.{event_cmp}
use Rattle.rw_vt.specs.System.{rules}
use Rattle.rw_vt.proofs.EventOrder.{events_exact}
use Rattle.rw_vt.proofs.Sorting.{IsExactOrder}
use Rattle.rw_lp.specs.declared.history.Past.{Past}
use Rattle.rw_lp.specs.Cut.{IsKept, seen_of}
use Rattle.rw_lp.specs.Own.{AreFor}
use Rattle.rw_lp.specs.PendingAgain.{sent_by}
use Rattle.rw_lp.specs.Process.{ProcessState, undo_one}
use Rattle.rw_lp.specs.Calls.{LogicalProcess, process_of, Took}
use Rattle.rw_lp.specs.Sound.{Balance}
use Rattle.rw_lp.proofs.Undoing.{same_back, cancelled_own, cancelled_turn, cancelled_balance}
use Rattle.rw_lp.proofs.lp.Lp.undo_one.Goals as goal

pub undo-requires-clause-kept : goal.undo-requires-clause-kept
undo-requires-clause-kept g c = subst (IsKept g.M.Model (event_cmp g.M.Body.Ord.cmp)) (sym c.deref_mut.ensures.value) c.lp.invariant.0

pub undo-requires-clause-model : goal.undo-requires-clause-model
undo-requires-clause-model g c = c.requires.model ∙ sym (ap (λ (v : Past g.row.M.Denot g.row.M-State.Denot g.row.M-Body.Denot g.row.M-Undo.Denot). v.model.value) c.deref_mut.ensures.value ∙ ap (λ (w : LogicalProcess g.row.M.Denot g.row.M-State.Denot g.row.M-Body.Denot). w.model) c.lp.view_is)

pub invariant_of-lp : goal.invariant_of-lp
invariant_of-lp g c =
    let o : IsExactOrder (event_cmp g.M.Body.Ord.cmp) = events_exact (record { total = g.met.M.Body.Ord.total; same = g.met.M.Model.same }) in
    let p = c.deref_mut.result.now in
    let own : AreFor g.M.Model g.M.Body.Ord.cmp (seen_of p) c.lp.inside.pending c.lp.inside.debts c.lp.inside.held.value = subst (λ (v : Past g.row.M.Denot g.row.M-State.Denot g.row.M-Body.Denot g.row.M-Undo.Denot). AreFor g.M.Model g.M.Body.Ord.cmp (seen_of v) c.lp.inside.pending c.lp.inside.debts c.lp.inside.held.value) (sym c.deref_mut.ensures.value) c.lp.invariant.1 in
    (c.in_ok-undone.ensures.kept, cancelled_own g.M.Model g.M.Body.Ord.cmp o (seen_of p) (seen_of c.undo.new.self) c.lp.inside.pending c.lp.inside.debts c.cancel_undone.new.pending c.lp.inside.held.value own c.in_ok-undone.undone c.in_ok-answer.answer c.in_ok-undone.ensures.back c.in_ok-answer.ensures.pending)

pub returns-clause-turn : goal.returns-clause-turn
returns-clause-turn g c =
    let o : IsExactOrder (event_cmp g.M.Body.Ord.cmp) = events_exact (record { total = g.met.M.Body.Ord.total; same = g.met.M.Model.same }) in
    let p = c.deref_mut.result.now in
    let seen : process_of (seen_of p) c.lp.inside.pending c.lp.inside.debts c.lp.inside.held.value ≡ c.args.self = ap (λ (v : Past g.row.M.Denot g.row.M-State.Denot g.row.M-Body.Denot g.row.M-Undo.Denot). process_of (seen_of v) c.lp.inside.pending c.lp.inside.debts c.lp.inside.held.value) c.deref_mut.ensures.value ∙ c.lp.view_is in
    let now : ProcessState g.row.M-State.Denot g.row.M-Body.Denot = (process_of (seen_of c.undo.new.self) c.cancel_undone.new.pending c.lp.inside.debts c.lp.inside.held.value).process in
    subst (λ (w : LogicalProcess g.row.M.Denot g.row.M-State.Denot g.row.M-Body.Denot). (given : List (Letter g.row.M-Body.Denot)) × (c.cancel_undone.new.out.items ≡ c.args.out.now.items ++ given) × Took w.process now c.in_ok-answer.answer given (undo_one (rules g.M.Model g.M.Body.Ord.cmp w.model) w.number w.process)) seen
    (letters_of true (sent_by c.in_ok-undone.undone), c.in_ok-answer.ensures.out, cancelled_turn g.M.Model g.M.Body.Ord.cmp o (seen_of p) (seen_of c.undo.new.self) c.lp.inside.pending c.lp.inside.debts c.cancel_undone.new.pending c.lp.inside.held.value c.in_ok-undone.undone c.in_ok-answer.answer c.in_ok-undone.ensures.back c.in_ok-answer.ensures.pending)

pub returns-clause-balance : goal.returns-clause-balance
returns-clause-balance g c =
    let o : IsExactOrder (event_cmp g.M.Body.Ord.cmp) = events_exact (record { total = g.met.M.Body.Ord.total; same = g.met.M.Model.same }) in
    let p = c.deref_mut.result.now in
    let seen : process_of (seen_of p) c.lp.inside.pending c.lp.inside.debts c.lp.inside.held.value ≡ c.args.self = ap (λ (v : Past g.row.M.Denot g.row.M-State.Denot g.row.M-Body.Denot g.row.M-Undo.Denot). process_of (seen_of v) c.lp.inside.pending c.lp.inside.debts c.lp.inside.held.value) c.deref_mut.ensures.value ∙ c.lp.view_is in
    let now : ProcessState g.row.M-State.Denot g.row.M-Body.Denot = (process_of (seen_of c.undo.new.self) c.cancel_undone.new.pending c.lp.inside.debts c.lp.inside.held.value).process in
    subst (λ (w : LogicalProcess g.row.M.Denot g.row.M-State.Denot g.row.M-Body.Denot). (given : List (Letter g.row.M-Body.Denot)) × (c.cancel_undone.new.out.items ≡ c.args.out.now.items ++ given) × Balance (rules g.M.Model g.M.Body.Ord.cmp w.model) w.number w.process now [] given) seen
    (letters_of true (sent_by c.in_ok-undone.undone), c.in_ok-answer.ensures.out, cancelled_balance g.M.Model g.M.Body.Ord.cmp o (seen_of p) (seen_of c.undo.new.self) c.lp.inside.pending c.lp.inside.debts c.cancel_undone.new.pending c.lp.inside.held.value c.in_ok-undone.undone c.in_ok-answer.answer c.in_ok-undone.ensures.back c.in_ok-answer.ensures.pending)

pub returns-clause-same : goal.returns-clause-same
returns-clause-same g c =
    let seen : process_of (seen_of c.deref_mut.result.now) c.lp.inside.pending c.lp.inside.debts c.lp.inside.held.value ≡ c.args.self = ap (λ (v : Past g.row.M.Denot g.row.M-State.Denot g.row.M-Body.Denot g.row.M-Undo.Denot). process_of (seen_of v) c.lp.inside.pending c.lp.inside.debts c.lp.inside.held.value) c.deref_mut.ensures.value ∙ c.lp.view_is in
    let same = same_back g.M.Model (event_cmp g.M.Body.Ord.cmp) _ _ c.in_ok-undone.undone c.in_ok-undone.ensures.back in
    (same.0 ∙ ap (λ (w : LogicalProcess g.row.M.Denot g.row.M-State.Denot g.row.M-Body.Denot). w.model) seen, same.1 ∙ ap (λ (w : LogicalProcess g.row.M.Denot g.row.M-State.Denot g.row.M-Body.Denot). w.number) seen)
