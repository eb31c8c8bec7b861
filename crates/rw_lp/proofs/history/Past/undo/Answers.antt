use Rattle.std.proofs.Common.{◌≡◌, refl, true, [], ◌∷◌, ◌++◌, List, length, take, drop, sym, ap, ◌∙◌, subst, arith, length-append, length-drop}
use Rattle.std.proofs.lemmas.List.Elements.{All-same}
use Rattle.rw_vt.specs.declared.event.Event.{Event}
use Rattle.rw_vt.specs.Valid.{IsSentBy}
use Rattle.rw_vt.specs.Order.{event_cmp}
use Rattle.rw_vt.proofs.EventOrder.{events_exact}
use Rattle.rw_vt.proofs.Sorting.{IsExactOrder}
use Rattle.rw_lp.specs.Past.{HistoryState, IsTakenBack}
use Rattle.std.proofs.lemmas.List.{nil_from_length}
use Rattle.rw_lp.specs.Cut.{seen_of, IsKept}
use Rattle.rw_lp.proofs.Pasts.{before_of, as_many, past_pop}
use Rattle.rw_lp.proofs.history.Past.undo.Goals as goal

pub returns-in_default-clause-back : goal.returns-in_default-clause-back
returns-in_default-clause-back g c =
    let o : IsExactOrder (event_cmp g.M.Body.Ord.cmp) = events_exact (record { total = g.met.M.Body.Ord.total; same = g.met.M.Model.same }) in
    let p = c.args.self.now in
    let kept = c.requires.kept in
    let none : length p.records ≡ 0 = ap length c.in_default.ensures.0 in
    let many = as_many g.M.Model o p kept in
    let nothing : drop p.cut p.done.items ≡ [] = nil_from_length (drop p.cut p.done.items) (omega (arith, none, many)) in
    (nothing, refl)

pub unreachable-requires : goal.unreachable-requires
unreachable-requires g c =
    let o : IsExactOrder (event_cmp g.M.Body.Ord.cmp) = events_exact (record { total = g.met.M.Body.Ord.total; same = g.met.M.Model.same }) in
    let p = c.args.self.now in
    let kept = c.requires.kept in
    let many = as_many g.M.Model o p kept in
    let some : length p.records ≡ length (c.pop.new.self ++ c.in-Some.field-0 ∷ []) = ap length c.in-Some.ensures in
    let joined = length-append c.pop.new.self (c.in-Some.field-0 ∷ []) in
    let rest = length-drop p.cut p.done.items in
    let none = c.in_default-pop.ensures.cases.0 in
    omega (arith, many, some, joined, rest, none, p.done.ok)

pub reverse-requires-clause-linked : goal.reverse-requires-clause-linked
reverse-requires-clause-linked g c =
    let o : IsExactOrder (event_cmp g.M.Body.Ord.cmp) = events_exact (record { total = g.met.M.Body.Ord.total; same = g.met.M.Model.same }) in
    let p = c.args.self.now in
    let kept = c.requires.kept in
    let same : p.model.value ≡ c.args.model.now = sym c.requires.model in
    let off = past_pop g.M.Model o p kept (g.met.M.Model.keeps p.model.value) c.pop-2.new.self c.pop.new.self c.in-Some-pop.event c.in-Some.field-0 c.in-Some-pop.ensures.items c.in-Some.ensures in
    let before = before_of g.M.Model p c.pop-2.new.self in
    let links : g.M.Model.Links c.args.model.now p.number before c.in-Some-pop.event c.in-Some.field-0.undo p.state =
    subst (λ m. g.M.Model.Links m p.number before c.in-Some-pop.event c.in-Some.field-0.undo p.state) same (subst (λ s. g.M.Model.Links p.model.value p.number before c.in-Some-pop.event c.in-Some.field-0.undo s) (sym off.state) off.record_of.links) in
    let good : g.M.Model.IsWellFormed c.args.model.now p.number before = subst (λ m. g.M.Model.IsWellFormed m p.number before) same off.well_formed in
    (before, good, links)

pub reverse-requires-clause-valid : goal.reverse-requires-clause-valid
reverse-requires-clause-valid g c =
    let o : IsExactOrder (event_cmp g.M.Body.Ord.cmp) = events_exact (record { total = g.met.M.Body.Ord.total; same = g.met.M.Model.same }) in
    let p = c.args.self.now in
    let kept = c.requires.kept in
    let same : p.model.value ≡ c.args.model.now = sym c.requires.model in
    let off = past_pop g.M.Model o p kept (g.met.M.Model.keeps p.model.value) c.pop-2.new.self c.pop.new.self c.in-Some-pop.event c.in-Some.field-0 c.in-Some-pop.ensures.items c.in-Some.ensures in
    let before = before_of g.M.Model p c.pop-2.new.self in
    subst (λ m. g.M.Model.is_valid m c.in-Some-pop.event ≡ true) same off.record_of.valid

pub reverse-requires-clause-here : goal.reverse-requires-clause-here
reverse-requires-clause-here g c =
    let o : IsExactOrder (event_cmp g.M.Body.Ord.cmp) = events_exact (record { total = g.met.M.Body.Ord.total; same = g.met.M.Model.same }) in
    let p = c.args.self.now in
    let kept = c.requires.kept in
    let off = past_pop g.M.Model o p kept (g.met.M.Model.keeps p.model.value) c.pop-2.new.self c.pop.new.self c.in-Some-pop.event c.in-Some.field-0 c.in-Some-pop.ensures.items c.in-Some.ensures in
    let before = before_of g.M.Model p c.pop-2.new.self in
    off.record_of.here

pub returns-clause-kept : goal.returns-clause-kept
returns-clause-kept g c =
    let o : IsExactOrder (event_cmp g.M.Body.Ord.cmp) = events_exact (record { total = g.met.M.Body.Ord.total; same = g.met.M.Model.same }) in
    let p = c.args.self.now in
    let kept = c.requires.kept in
    let same : p.model.value ≡ c.args.model.now = sym c.requires.model in
    let off = past_pop g.M.Model o p kept (g.met.M.Model.keeps p.model.value) c.pop-2.new.self c.pop.new.self c.in-Some-pop.event c.in-Some.field-0 c.in-Some-pop.ensures.items c.in-Some.ensures in
    let before = before_of g.M.Model p c.pop-2.new.self in
    let links : g.M.Model.Links c.args.model.now p.number before c.in-Some-pop.event c.in-Some.field-0.undo p.state =
    subst (λ m. g.M.Model.Links m p.number before c.in-Some-pop.event c.in-Some.field-0.undo p.state) same (subst (λ s. g.M.Model.Links p.model.value p.number before c.in-Some-pop.event c.in-Some.field-0.undo s) (sym off.state) off.record_of.links) in
    let good : g.M.Model.IsWellFormed c.args.model.now p.number before = subst (λ m. g.M.Model.IsWellFormed m p.number before) same off.well_formed in
    let is : c.reverse.new.state ≡ before = c.in_ok-reverse.ensures.before before good links in
    subst (λ s. IsKept g.M.Model (event_cmp g.M.Body.Ord.cmp) (record p { done = c.pop-2.new.self; records = c.pop.new.self; state = s })) (sym is) off.left

pub returns-clause-back : goal.returns-clause-back
returns-clause-back g c =
    let o : IsExactOrder (event_cmp g.M.Body.Ord.cmp) = events_exact (record { total = g.met.M.Body.Ord.total; same = g.met.M.Model.same }) in
    let p = c.args.self.now in
    let kept = c.requires.kept in
    let same : p.model.value ≡ c.args.model.now = sym c.requires.model in
    let off = past_pop g.M.Model o p kept (g.met.M.Model.keeps p.model.value) c.pop-2.new.self c.pop.new.self c.in-Some-pop.event c.in-Some.field-0 c.in-Some-pop.ensures.items c.in-Some.ensures in
    let before = before_of g.M.Model p c.pop-2.new.self in
    let links : g.M.Model.Links c.args.model.now p.number before c.in-Some-pop.event c.in-Some.field-0.undo p.state =
    subst (λ m. g.M.Model.Links m p.number before c.in-Some-pop.event c.in-Some.field-0.undo p.state) same (subst (λ s. g.M.Model.Links p.model.value p.number before c.in-Some-pop.event c.in-Some.field-0.undo s) (sym off.state) off.record_of.links) in
    let good : g.M.Model.IsWellFormed c.args.model.now p.number before = subst (λ m. g.M.Model.IsWellFormed m p.number before) same off.well_formed in
    let is : c.reverse.new.state ≡ before = c.in_ok-reverse.ensures.before before good links in
    let sends : List (Event g.row.M-Body.Denot) = c.in-Some.field-0.sends in
    let z : HistoryState g.row.M.Denot g.row.M-State.Denot g.row.M-Body.Denot = record { model = p.model.value; number = p.number; start = p.start.value; committed = take p.cut c.pop-2.new.self.items; processed = drop p.cut c.pop-2.new.self.items; state = c.reverse.new.state } in
    let back : IsTakenBack g.M.Model (event_cmp g.M.Body.Ord.cmp) (seen_of p) z c.in-Some-pop.event sends =
    record {
      last = off.last;
      rest = ap (λ s. let v : HistoryState g.row.M.Denot g.row.M-State.Denot g.row.M-Body.Denot = record { model = p.model.value; number = p.number; start = p.start.value; committed = take p.cut c.pop-2.new.self.items; processed = z.processed; state = s } in v) is
          ∙ ap (λ l. let v : HistoryState g.row.M.Denot g.row.M-State.Denot g.row.M-Body.Denot = record { model = p.model.value; number = p.number; start = p.start.value; committed = l; processed = z.processed; state = before } in v) off.same;
      valid = off.record_of.valid;
      here = off.record_of.here;
      order = kept.linked.order;
      sent = off.record_of.sends;
      future = All-same (λ (m : Event g.row.M-Body.Denot). IsSentBy p.number c.in-Some-pop.event m × (g.M.Model.is_valid p.model.value m ≡ true)) sends (g.M.Model.step p.model.value p.number before c.in-Some-pop.event).1 off.record_of.sends
          (g.met.M.Model.future p.model.value p.number before c.in-Some-pop.event off.well_formed off.record_of.valid off.record_of.here);
    } in
    back
