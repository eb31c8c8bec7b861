use Rattle.std.proofs.Common.{◌≡◌, ℕ, ◌∙◌, Some, ap, length, subst, sym}
use Rattle.std.specs.List.{slice_get}
use Rattle.std.proofs.lemmas.List.{length-map}
use Rattle.rw_vt.specs.Order.{event_cmp, in_order}
use Rattle.rw_vt.specs.System.{flatten}
use Rattle.rw_vt.proofs.EventOrder.{events_exact}
use Rattle.rw_vt.proofs.Sorting.{IsExactOrder}
use Rattle.rw_vt.proofs.Laws.{laws_of}
use Rattle.rw_models.specs.Recorded.{executed_of, states_of}
use Rattle.rw_models.proofs.Recording.{each_of_records, each_of_states}
use Rattle.rw_models.proofs.Segments.{commits_in_order, states_new}
use Rattle.rw_models.proofs.Sorts.{sorted_is}
use Rattle.rw_models.proofs.recorded.Recorded.take_executed.Goals as goal

pub returns-clause-events : goal.returns-clause-events
returns-clause-events g c =
    let o : IsExactOrder (event_cmp g.M.Body.Ord.cmp) = events_exact (record { total = g.met.M.Body.Ord.total; same = g.met.M.Model.same }) in
    sorted_is o c.in_ok-events.events.items c.sort.new.self.items c.in_ok-sort.ensures.permutation c.in_ok-sort.ensures.sorted
    ∙ ap (in_order (event_cmp g.M.Body.Ord.cmp)) (c.in_ok-events.ensures ∙ ap (λ rs. flatten (executed_of rs)) c.deref.ensures.value)

pub returns-clause-states : goal.returns-clause-states
returns-clause-states g c = ap states_of c.clear_all.ensures ∙ states_new g.row.M-Body.Denot (states_of c.args.records.now.items)

pub returns-clause-ready : goal.returns-clause-ready
returns-clause-ready g c = λ m initial h.
    let old = c.args.records.now.items in
    let later = c.clear_all.new.records.items in
    let same = returns-clause-states g c in
    record {
      enough = sym (length-map later (λ r. r.state)) ∙ ap length same ∙ length-map old (λ r. r.state) ∙ h.enough;
      well_formed = each_of_records (g.M.Model.IsWellFormed m.model) later
          (subst (λ ss. (p : ℕ) (s : g.row.M-State.Denot) → slice_get ss p ≡ Some s → g.M.Model.IsWellFormed m.model p s) (sym same)
          (each_of_states (g.M.Model.IsWellFormed m.model) old h.well_formed));
      valid = h.valid;
    }

pub returns-clause-commits : goal.returns-clause-commits
returns-clause-commits g c = λ m starts initial ready.
    commits_in_order g.M.Body.Ord.cmp (laws_of g.met.M.Model g.met.M.Body.Ord.total) m starts initial ready (g.M.Model.is_valid m) c.args.records.now.items c.sort.new.self.items
    (returns-clause-events g c)
