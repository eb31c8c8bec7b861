use Rattle.std.proofs.Common.{◌≡◌, List, ◌++◌, sym, ap, ◌∙◌, subst}
use Rattle.rw_vt.specs.declared.event.Letter.{Letter}
use Rattle.rw_vt.specs.Order.{event_cmp}
use Rattle.rw_vt.specs.System.{rules}
use Rattle.rw_lp.specs.declared.history.Past.{Past}
use Rattle.rw_lp.specs.Cut.{IsKept, seen_of}
use Rattle.rw_lp.specs.Past.{IsFor}
use Rattle.rw_lp.specs.Own.{AreFor}
use Rattle.rw_lp.specs.Process.{ProcessState, deliver}
use Rattle.rw_lp.specs.Calls.{LogicalProcess, process_of, Took, letters_taken}
use Rattle.rw_lp.specs.Sound.{Balance}
use Rattle.rw_lp.proofs.lp.Lp.deliver.Goals as goal

pub meet-requires-clause-kept : goal.meet-requires-clause-kept
meet-requires-clause-kept g c =
    subst (IsKept g.M.Model (event_cmp g.M.Body.Ord.cmp)) (sym c.deref.ensures) c.lp.invariant.0

pub meet-requires-clause-own : goal.meet-requires-clause-own
meet-requires-clause-own g c =
    subst (AreFor g.M.Model g.M.Body.Ord.cmp (seen_of c.deref.result.now) c.lp.inside.pending c.lp.inside.debts) (sym c.deref_mut.ensures.value)
    (subst (λ (v : Past g.row.M.Denot g.row.M-State.Denot g.row.M-Body.Denot g.row.M-Undo.Denot). AreFor g.M.Model g.M.Body.Ord.cmp (seen_of v) c.lp.inside.pending c.lp.inside.debts c.lp.inside.held.value) (sym c.deref.ensures) c.lp.invariant.1)

pub meet-requires-clause-here : goal.meet-requires-clause-here
meet-requires-clause-here g c =
    subst (λ (v : Past g.row.M.Denot g.row.M-State.Denot g.row.M-Body.Denot g.row.M-Undo.Denot). IsFor g.M.Model v.model.value v.number c.args.letter.event) (sym c.deref.ensures)
    (subst (λ (w : LogicalProcess g.row.M.Denot g.row.M-State.Denot g.row.M-Body.Denot). IsFor g.M.Model w.model w.number c.args.letter.event) (sym c.lp.view_is) (c.requires.valid, c.requires.here))

pub invariant_of-lp : goal.invariant_of-lp
invariant_of-lp g c =
    (c.lp.invariant.0, subst (λ (v : Past g.row.M.Denot g.row.M-State.Denot g.row.M-Body.Denot g.row.M-Undo.Denot). AreFor g.M.Model g.M.Body.Ord.cmp (seen_of v) c.meet.new.pending c.meet.new.debts c.meet.new.held) c.deref.ensures c.in_ok-answer.ensures.own)

pub returns-clause-turn : goal.returns-clause-turn
returns-clause-turn g c =
    let now : Past g.row.M.Denot g.row.M-State.Denot g.row.M-Body.Denot g.row.M-Undo.Denot → ProcessState g.row.M-State.Denot g.row.M-Body.Denot = λ v. (process_of (seen_of v) c.meet.new.pending c.meet.new.debts c.meet.new.held).process in
    let before : process_of (seen_of c.deref.result.now) c.lp.inside.pending c.lp.inside.debts c.deref_mut.result.now ≡ c.args.self =
    ap (λ (v : Past g.row.M.Denot g.row.M-State.Denot g.row.M-Body.Denot g.row.M-Undo.Denot). process_of (seen_of v) c.lp.inside.pending c.lp.inside.debts c.deref_mut.result.now) c.deref.ensures ∙ ap (process_of (seen_of c.lp.inside.history.value) c.lp.inside.pending c.lp.inside.debts) c.deref_mut.ensures.value ∙ c.lp.view_is in
    subst (λ (v : Past g.row.M.Denot g.row.M-State.Denot g.row.M-Body.Denot g.row.M-Undo.Denot). let z = now v in (given : List (Letter g.row.M-Body.Denot)) × (c.meet.new.out.items ≡ c.args.out.now.items ++ given) × Took c.args.self.process z c.in_ok-answer.answer given (deliver (event_cmp g.M.Body.Ord.cmp) c.args.letter c.args.self.process)) c.deref.ensures
    (subst (λ (w : LogicalProcess g.row.M.Denot g.row.M-State.Denot g.row.M-Body.Denot). let z = now c.deref.result.now in (given : List (Letter g.row.M-Body.Denot)) × (c.meet.new.out.items ≡ c.args.out.now.items ++ given) × Took w.process z c.in_ok-answer.answer given (deliver (event_cmp g.M.Body.Ord.cmp) c.args.letter w.process)) before c.in_ok-answer.ensures.turn)

pub returns-clause-balance : goal.returns-clause-balance
returns-clause-balance g c =
    let now : Past g.row.M.Denot g.row.M-State.Denot g.row.M-Body.Denot g.row.M-Undo.Denot → ProcessState g.row.M-State.Denot g.row.M-Body.Denot = λ v. (process_of (seen_of v) c.meet.new.pending c.meet.new.debts c.meet.new.held).process in
    let before : process_of (seen_of c.deref.result.now) c.lp.inside.pending c.lp.inside.debts c.deref_mut.result.now ≡ c.args.self =
    ap (λ (v : Past g.row.M.Denot g.row.M-State.Denot g.row.M-Body.Denot g.row.M-Undo.Denot). process_of (seen_of v) c.lp.inside.pending c.lp.inside.debts c.deref_mut.result.now) c.deref.ensures ∙ ap (process_of (seen_of c.lp.inside.history.value) c.lp.inside.pending c.lp.inside.debts) c.deref_mut.ensures.value ∙ c.lp.view_is in
    subst (λ (v : Past g.row.M.Denot g.row.M-State.Denot g.row.M-Body.Denot g.row.M-Undo.Denot). let z = now v in (given : List (Letter g.row.M-Body.Denot)) × (c.meet.new.out.items ≡ c.args.out.now.items ++ given) × Balance (rules g.M.Model g.M.Body.Ord.cmp c.args.self.model) c.args.self.number c.args.self.process z (letters_taken c.in_ok-answer.answer c.args.letter) given) c.deref.ensures
    (subst (λ (w : LogicalProcess g.row.M.Denot g.row.M-State.Denot g.row.M-Body.Denot). let z = now c.deref.result.now in (given : List (Letter g.row.M-Body.Denot)) × (c.meet.new.out.items ≡ c.args.out.now.items ++ given) × Balance (rules g.M.Model g.M.Body.Ord.cmp w.model) w.number w.process z (letters_taken c.in_ok-answer.answer c.args.letter) given) before c.in_ok-answer.ensures.balance)
