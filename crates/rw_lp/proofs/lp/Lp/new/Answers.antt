use Rattle.std.proofs.Common.{◌≡◌, ◌<◌, [], sym, ap, ◌∙◌, subst}
use Rattle.rw_vt.specs.Order.{event_cmp, copies, in_order, AtMost, Each}
use Rattle.rw_vt.proofs.EventOrder.{events_exact}
use Rattle.rw_vt.proofs.Sorting.{IsExactOrder, each_of_all, copies-in_order}
use Rattle.rw_vt.proofs.Bags.{Each-nil}
use Rattle.std.specs.Prelude.{All}
use Rattle.std.proofs.lemmas.List.Elements.{All-nil}
use Rattle.rw_vt.specs.System.{rules}
use Rattle.rw_lp.specs.declared.held.Held.{Held}
use Rattle.rw_lp.specs.Sound.{IsHeldFor}
use Rattle.rw_lp.specs.Calls.{process_of}
use Rattle.rw_lp.specs.Cut.{seen_of}
use Rattle.rw_lp.specs.Past.{HistoryState, IsFor, done_in, history_of}
use Rattle.rw_lp.proofs.lp.Lp.new.Goals as goal

pub invariant_of-result : goal.invariant_of-result
invariant_of-result g c =
    let o : IsExactOrder (event_cmp g.M.Body.Ord.cmp) = events_exact (record { total = g.met.M.Body.Ord.total; same = g.met.M.Model.same }) in
    let none : c.in_ok-held.held.value ≡ [] = c.in_ok-held.ensures.ok ∙ c.new-3.ensures in
    let x = seen_of c.in_ok-history.history.value in (
      c.in_ok-history.ensures.kept,
      record {
        pending = λ e k.
            let there : 0 < copies (event_cmp g.M.Body.Ord.cmp) e c.args.initial.items = subst (λ n. 0 < n) (copies-in_order o e c.args.initial.items) (subst (λ l. 0 < copies (event_cmp g.M.Body.Ord.cmp) e l) c.in_ok-pending.ensures.all k) in
            subst (λ (w : HistoryState g.row.M.Denot g.row.M-State.Denot g.row.M-Body.Denot). IsFor g.M.Model w.model w.number e) (sym c.in_ok-history.ensures.is)
            (each_of_all o (IsFor g.M.Model c.args.model.now c.args.number) c.args.initial.items c.requires.initial e there);
        debts = subst (Each (event_cmp g.M.Body.Ord.cmp) (IsFor g.M.Model x.model x.number)) (sym c.in_ok-debts.ensures) (Each-nil o (IsFor g.M.Model x.model x.number));
        held = subst (All (IsHeldFor (rules g.M.Model g.M.Body.Ord.cmp x.model) c.in_ok-pending.pending)) (sym none) (All-nil (IsHeldFor (rules g.M.Model g.M.Body.Ord.cmp x.model) c.in_ok-pending.pending));
        late = subst (All (λ (h : Held g.row.M-Body.Denot). Each (event_cmp g.M.Body.Ord.cmp) (λ e. AtMost (event_cmp g.M.Body.Ord.cmp) e h.undone) (done_in x))) (sym none) (All-nil (λ (h : Held g.row.M-Body.Denot). Each (event_cmp g.M.Body.Ord.cmp) (λ e. AtMost (event_cmp g.M.Body.Ord.cmp) e h.undone) (done_in x)));
      },
    )

pub returns-clause-opened : goal.returns-clause-opened
returns-clause-opened g c =
    let past : HistoryState g.row.M.Denot g.row.M-State.Denot g.row.M-Body.Denot = history_of c.args.model.now c.args.number c.args.start [] [] c.args.start in
    let debts = c.in_ok-debts.debts in
    let held = c.in_ok-held.held.value in
    ap (λ (h : HistoryState g.row.M.Denot g.row.M-State.Denot g.row.M-Body.Denot). process_of h c.in_ok-pending.pending debts held) c.in_ok-history.ensures.is
    ∙ ap (λ l. process_of past l debts held) c.in_ok-pending.ensures.all
    ∙ ap (λ l. process_of past (in_order (event_cmp g.M.Body.Ord.cmp) c.args.initial.items) l held) c.in_ok-debts.ensures
    ∙ ap (process_of past (in_order (event_cmp g.M.Body.Ord.cmp) c.args.initial.items) []) (c.in_ok-held.ensures.ok ∙ c.new-3.ensures)
