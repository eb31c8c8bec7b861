use Rattle.std.proofs.Common.{◌≡◌, ◌∙◌, sym, ap, subst}
use Rattle.rw_vt.specs.Order.{event_cmp, Has}
use Rattle.rw_lp.specs.declared.history.Past.{Past}
use Rattle.rw_lp.specs.Cut.{IsKept, seen_of}
use Rattle.rw_lp.specs.Own.{AreFor}
use Rattle.rw_lp.specs.Past.{HistoryState}
use Rattle.rw_lp.specs.Process.{collect, done}
use Rattle.rw_lp.specs.Calls.{LogicalProcess, process_of}
use Rattle.rw_lp.proofs.Own.{still_for}
use Rattle.rw_lp.proofs.lp.Lp.collect.Goals as goal

pub commit-requires : goal.commit-requires
commit-requires g c = record { kept = subst (IsKept g.M.Model (event_cmp g.M.Body.Ord.cmp)) (sym c.deref_mut.ensures.value) c.lp.invariant.0 }

pub invariant_of-lp : goal.invariant_of-lp
invariant_of-lp g c =
    let p = c.deref_mut.result.now in
    let own : AreFor g.M.Model g.M.Body.Ord.cmp (seen_of p) c.lp.inside.pending c.lp.inside.debts c.lp.inside.held.value = subst (λ (v : Past g.row.M.Denot g.row.M-State.Denot g.row.M-Body.Denot g.row.M-Undo.Denot). AreFor g.M.Model g.M.Body.Ord.cmp (seen_of v) c.lp.inside.pending c.lp.inside.debts c.lp.inside.held.value) (sym c.deref_mut.ensures.value) c.lp.invariant.1 in (
      c.commit.ensures.kept,
      still_for g.M.Model (seen_of p) c.lp.inside.pending c.lp.inside.debts c.lp.inside.held.value own (seen_of c.commit.new.self)
          (ap (λ (h : HistoryState g.row.M.Denot g.row.M-State.Denot g.row.M-Body.Denot). h.model) c.commit.ensures.committed)
          (ap (λ (h : HistoryState g.row.M.Denot g.row.M-State.Denot g.row.M-Body.Denot). h.number) c.commit.ensures.committed)
          (λ e k. subst (λ l. Has (event_cmp g.M.Body.Ord.cmp) l e) c.commit.ensures.done k),
    )

pub returns-clause-collected : goal.returns-clause-collected
returns-clause-collected g c =
    let seen : process_of (seen_of c.deref_mut.result.now) c.lp.inside.pending c.lp.inside.debts c.lp.inside.held.value ≡ c.args.self = ap (λ (v : Past g.row.M.Denot g.row.M-State.Denot g.row.M-Body.Denot g.row.M-Undo.Denot). process_of (seen_of v) c.lp.inside.pending c.lp.inside.debts c.lp.inside.held.value) c.deref_mut.ensures.value ∙ c.lp.view_is in
    subst (λ (w : LogicalProcess g.row.M.Denot g.row.M-State.Denot g.row.M-Body.Denot). process_of (seen_of c.commit.new.self) c.lp.inside.pending c.lp.inside.debts c.lp.inside.held.value ≡ record { model = w.model; number = w.number; process = collect c.args.time w.process }) seen
    (ap (λ (h : HistoryState g.row.M.Denot g.row.M-State.Denot g.row.M-Body.Denot). process_of h c.lp.inside.pending c.lp.inside.debts c.lp.inside.held.value) c.commit.ensures.committed)

pub returns-clause-done : goal.returns-clause-done
returns-clause-done g c =
    let seen : process_of (seen_of c.deref_mut.result.now) c.lp.inside.pending c.lp.inside.debts c.lp.inside.held.value ≡ c.args.self = ap (λ (v : Past g.row.M.Denot g.row.M-State.Denot g.row.M-Body.Denot g.row.M-Undo.Denot). process_of (seen_of v) c.lp.inside.pending c.lp.inside.debts c.lp.inside.held.value) c.deref_mut.ensures.value ∙ c.lp.view_is in
    c.commit.ensures.done ∙ ap (λ (w : LogicalProcess g.row.M.Denot g.row.M-State.Denot g.row.M-Body.Denot). done w.process) seen
