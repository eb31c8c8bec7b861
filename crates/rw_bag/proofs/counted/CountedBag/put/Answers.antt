use Rattle.std.proofs.Common.{◌≡◌, ◌+◌, ◌<◌, cond, sym, ap, ◌∙◌, arith}
use Rattle.std.specs.Prelude.{Some, None, unwrap_or}
use Rattle.std.specs.Map.{lookup}
use Rattle.std.specs.BTreeMap.{is_at}
use Rattle.rw_vt.specs.declared.event.Event.{Event}
use Rattle.rw_vt.specs.Order.{event_cmp, copies, insert_in_order}
use Rattle.rw_vt.proofs.EventOrder.{events_exact}
use Rattle.rw_vt.proofs.Sorting.{IsExactOrder}
use Rattle.rw_bag.specs.Bags.{copies_of}
use Rattle.rw_bag.proofs.Counting.{hidden, copies-copies_of, counted_more, counted_same, counted_there, counts_changed}
use Rattle.rw_bag.proofs.counted.CountedBag.put.Goals as goal

pub invariant_of-self-in_default : goal.invariant_of-self-in_default
invariant_of-self-in_default g c =
    let o : IsExactOrder (event_cmp g.M.Body.Ord.cmp) = events_exact (record { total = g.met.M.Body.Ord.total; same = g.met.M.Model.same }) in
    let cmp = event_cmp g.M.Body.Ord.cmp in
    let e = c.args.event in
    let es = c.self.inside.counts.entries in
    (c.insert.ensures.ordered, counts_changed o e (Some 1) es c.insert.new.self.entries c.self.invariant.1 (λ k q. let same : 1 ≡ k = cc in (omega arith, omega arith)) c.in_ok-count.ensures.updates.0)

pub returns-in_default-clause-ok : goal.returns-in_default-clause-ok
returns-in_default-clause-ok g c =
    let o : IsExactOrder (event_cmp g.M.Body.Ord.cmp) = events_exact (record { total = g.met.M.Body.Ord.total; same = g.met.M.Model.same }) in
    let cmp = event_cmp g.M.Body.Ord.cmp in
    let e = c.args.event in
    let es = c.self.inside.counts.entries in
    let none : lookup (is_at (cmp e)) es ≡ None = sym c.in_ok-count.ensures.old ∙ c.in_default.is in
    let no : 0 ≡ copies cmp e (copies_of es) = sym (copies-copies_of o e es c.self.invariant.0 ∙ ap (λ r. unwrap_or r 0) none) in
    counted_more o e 0 es c.insert.new.self.entries c.self.invariant.0 c.insert.ensures.ordered no c.in_ok-count.ensures.updates.0
    ∙ ap (insert_in_order cmp e) c.self.view_is

pub invariant_of-self-then-count-ge-MOST_COPIES : goal.invariant_of-self-then-count-ge-MOST_COPIES
invariant_of-self-then-count-ge-MOST_COPIES g c =
    let o : IsExactOrder (event_cmp g.M.Body.Ord.cmp) = events_exact (record { total = g.met.M.Body.Ord.total; same = g.met.M.Model.same }) in
    let cmp = event_cmp g.M.Body.Ord.cmp in
    let e = c.args.event in
    let es = c.self.inside.counts.entries in
    let n = c.in-Some.count in
    let is : lookup (is_at (cmp e)) es ≡ Some n = sym c.in_ok-count.ensures.old ∙ c.in-Some.is in
    let bounds : (0 < n) × (n < 4611686018427387904) = c.self.invariant.1 e n is in
    let set = λ (q : Event g.row.M-Body.Denot). c.set.ensures.set.0 q ∙ ap (λ r. cond (is_at (cmp e) q) (Some n) r) (c.in_ok-count.ensures.updates.0 q) ∙ hidden (is_at (cmp e) q) (Some n) (Some 1) (lookup (is_at (cmp q)) es) in
    (c.set.ensures.ordered, counts_changed o e (Some n) es c.set.new.counts.entries c.self.invariant.1 (λ k q. let same : n ≡ k = cc in (omega arith, omega arith)) set)

pub returns-then-count-ge-MOST_COPIES-clause-err : goal.returns-then-count-ge-MOST_COPIES-clause-err
returns-then-count-ge-MOST_COPIES-clause-err g c =
    let o : IsExactOrder (event_cmp g.M.Body.Ord.cmp) = events_exact (record { total = g.met.M.Body.Ord.total; same = g.met.M.Model.same }) in
    let cmp = event_cmp g.M.Body.Ord.cmp in
    let e = c.args.event in
    let es = c.self.inside.counts.entries in
    let n = c.in-Some.count in
    let is : lookup (is_at (cmp e)) es ≡ Some n = sym c.in_ok-count.ensures.old ∙ c.in-Some.is in
    let bounds : (0 < n) × (n < 4611686018427387904) = c.self.invariant.1 e n is in
    let set = λ (q : Event g.row.M-Body.Denot). c.set.ensures.set.0 q ∙ ap (λ r. cond (is_at (cmp e) q) (Some n) r) (c.in_ok-count.ensures.updates.0 q) ∙ hidden (is_at (cmp e) q) (Some n) (Some 1) (lookup (is_at (cmp q)) es) in
    counted_same o e n es c.set.new.counts.entries c.self.invariant.0 c.set.ensures.ordered is set ∙ c.self.view_is

pub invariant_of-self-2 : goal.invariant_of-self-2
invariant_of-self-2 g c =
    let o : IsExactOrder (event_cmp g.M.Body.Ord.cmp) = events_exact (record { total = g.met.M.Body.Ord.total; same = g.met.M.Model.same }) in
    let cmp = event_cmp g.M.Body.Ord.cmp in
    let e = c.args.event in
    let es = c.self.inside.counts.entries in
    let n = c.in-Some.count in
    let is : lookup (is_at (cmp e)) es ≡ Some n = sym c.in_ok-count.ensures.old ∙ c.in-Some.is in
    let bounds : (0 < n) × (n < 4611686018427387904) = c.self.invariant.1 e n is in
    let set = λ (q : Event g.row.M-Body.Denot). c.set-2.ensures.set.0 q ∙ ap (λ r. cond (is_at (cmp e) q) (Some (n + 1)) r) (c.in_ok-count.ensures.updates.0 q) ∙ hidden (is_at (cmp e) q) (Some (n + 1)) (Some 1) (lookup (is_at (cmp q)) es) in
    (c.set-2.ensures.ordered, counts_changed o e (Some (n + 1)) es c.set-2.new.counts.entries c.self.invariant.1 (λ k q. let same : n + 1 ≡ k = cc in (omega arith, omega arith)) set)

pub returns-clause-ok : goal.returns-clause-ok
returns-clause-ok g c =
    let o : IsExactOrder (event_cmp g.M.Body.Ord.cmp) = events_exact (record { total = g.met.M.Body.Ord.total; same = g.met.M.Model.same }) in
    let cmp = event_cmp g.M.Body.Ord.cmp in
    let e = c.args.event in
    let es = c.self.inside.counts.entries in
    let n = c.in-Some.count in
    let is : lookup (is_at (cmp e)) es ≡ Some n = sym c.in_ok-count.ensures.old ∙ c.in-Some.is in
    let bounds : (0 < n) × (n < 4611686018427387904) = c.self.invariant.1 e n is in
    let set = λ (q : Event g.row.M-Body.Denot). c.set-2.ensures.set.0 q ∙ ap (λ r. cond (is_at (cmp e) q) (Some (n + 1)) r) (c.in_ok-count.ensures.updates.0 q) ∙ hidden (is_at (cmp e) q) (Some (n + 1)) (Some 1) (lookup (is_at (cmp q)) es) in
    counted_more o e n es c.set-2.new.counts.entries c.self.invariant.0 c.set-2.ensures.ordered (sym (counted_there o e n es c.self.invariant.0 c.self.invariant.1 is)) set
    ∙ ap (insert_in_order cmp e) c.self.view_is
