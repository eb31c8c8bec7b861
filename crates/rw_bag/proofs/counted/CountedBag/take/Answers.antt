use Rattle.std.proofs.Common.{◌≡◌, true, false, cond, ◌-◌, ◌<◌, sym, ap, ◌∙◌, subst, arith, ℕ}
use Rattle.std.specs.Prelude.{Some, None, is_some}
use Rattle.std.specs.BTreeMap.{WritesThrough, is_at}
use Rattle.std.specs.Map.{lookup}
use Rattle.std.proofs.Common.{BTreeMap}
use Rattle.rw_vt.specs.declared.event.Event.{Event}
use Rattle.rw_vt.specs.Order.{event_cmp, copies, has, without}
use Rattle.rw_vt.proofs.EventOrder.{events_exact}
use Rattle.rw_vt.proofs.Sorting.{IsExactOrder}
use Rattle.rw_bag.specs.Bags.{copies_of}
use Rattle.rw_bag.proofs.Counting.{hidden, counted_less, counts_changed, counted_there, counted_none, has_some}
use Rattle.rw_bag.proofs.Falling.{without_absent}
use Rattle.rw_bag.proofs.counted.CountedBag.take.Goals as goal

pub returns-in_default-clause-there : goal.returns-in_default-clause-there
returns-in_default-clause-there g c =
    let o : IsExactOrder (event_cmp g.M.Body.Ord.cmp) = events_exact (record { total = g.met.M.Body.Ord.total; same = g.met.M.Model.same }) in
    sym (subst (λ l. has (event_cmp g.M.Body.Ord.cmp) c.args.event l ≡ false) c.self.view_is (counted_none o c.args.event c.self.inside.counts.entries c.self.invariant.0 (sym c.in_default.ensures.value)))

pub returns-in_default-clause-rest : goal.returns-in_default-clause-rest
returns-in_default-clause-rest g c =
    let o : IsExactOrder (event_cmp g.M.Body.Ord.cmp) = events_exact (record { total = g.met.M.Body.Ord.total; same = g.met.M.Model.same }) in
    ap (λ (m : BTreeMap (Event g.row.M-Body.Denot) ℕ). copies_of m.entries) c.get_mut.follows.holds-at-none
    ∙ c.self.view_is
    ∙ sym (without_absent (event_cmp g.M.Body.Ord.cmp) c.args.event c.args.self.now
    (subst (λ l. has (event_cmp g.M.Body.Ord.cmp) c.args.event l ≡ false) c.self.view_is (counted_none o c.args.event c.self.inside.counts.entries c.self.invariant.0 (sym c.in_default.ensures.value))))

pub invariant_of-self-then-count-gt1 : goal.invariant_of-self-then-count-gt1
invariant_of-self-then-count-gt1 g c =
    let o : IsExactOrder (event_cmp g.M.Body.Ord.cmp) = events_exact (record { total = g.met.M.Body.Ord.total; same = g.met.M.Model.same }) in
    let es = c.self.inside.counts.entries in
    let n = c.in-Some.count.now in
    let is : copies (event_cmp g.M.Body.Ord.cmp) c.args.event (copies_of es) ≡ n = counted_there o c.args.event n es c.self.invariant.0 c.self.invariant.1 (sym c.in-Some.ensures.value) in
    let bounds : (0 < n) × (n < 4611686018427387904) = c.self.invariant.1 c.args.event n (sym c.in-Some.ensures.value) in
    let written : WritesThrough (event_cmp g.M.Body.Ord.cmp) (event_cmp g.M.Body.Ord.cmp c.args.event) c.self.inside.counts (n - 1) (c.get_mut.follows.lender (n - 1)) = c.get_mut.follows.holds (n - 1) in
    let changed = written.3 (ap is_some (sym c.in-Some.ensures.value)) in (
      written.4,
      counts_changed o c.args.event (Some (n - 1)) es (c.get_mut.follows.lender (n - 1)).entries c.self.invariant.1
          (λ k q. let same : n - 1 ≡ k = cc in (omega arith, omega arith)) changed.0,
    )

pub returns-then-count-gt1-clause-there : goal.returns-then-count-gt1-clause-there
returns-then-count-gt1-clause-there g c =
    let o : IsExactOrder (event_cmp g.M.Body.Ord.cmp) = events_exact (record { total = g.met.M.Body.Ord.total; same = g.met.M.Model.same }) in
    let es = c.self.inside.counts.entries in
    let n = c.in-Some.count.now in
    let is : copies (event_cmp g.M.Body.Ord.cmp) c.args.event (copies_of es) ≡ n = counted_there o c.args.event n es c.self.invariant.0 c.self.invariant.1 (sym c.in-Some.ensures.value) in
    let bounds : (0 < n) × (n < 4611686018427387904) = c.self.invariant.1 c.args.event n (sym c.in-Some.ensures.value) in
    sym (subst (λ l. has (event_cmp g.M.Body.Ord.cmp) c.args.event l ≡ true) c.self.view_is (has_some o c.args.event (copies_of es) (omega arith)))

pub returns-then-count-gt1-clause-rest : goal.returns-then-count-gt1-clause-rest
returns-then-count-gt1-clause-rest g c =
    let o : IsExactOrder (event_cmp g.M.Body.Ord.cmp) = events_exact (record { total = g.met.M.Body.Ord.total; same = g.met.M.Model.same }) in
    let es = c.self.inside.counts.entries in
    let n = c.in-Some.count.now in
    let is : copies (event_cmp g.M.Body.Ord.cmp) c.args.event (copies_of es) ≡ n = counted_there o c.args.event n es c.self.invariant.0 c.self.invariant.1 (sym c.in-Some.ensures.value) in
    let bounds : (0 < n) × (n < 4611686018427387904) = c.self.invariant.1 c.args.event n (sym c.in-Some.ensures.value) in
    let written : WritesThrough (event_cmp g.M.Body.Ord.cmp) (event_cmp g.M.Body.Ord.cmp c.args.event) c.self.inside.counts (n - 1) (c.get_mut.follows.lender (n - 1)) = c.get_mut.follows.holds (n - 1) in
    let changed = written.3 (ap is_some (sym c.in-Some.ensures.value)) in
    counted_less o c.args.event (Some (n - 1)) es (c.get_mut.follows.lender (n - 1)).entries c.self.invariant.0 written.4 (omega arith) changed.0
    ∙ ap (without (event_cmp g.M.Body.Ord.cmp) c.args.event) c.self.view_is

pub invariant_of-self-2 : goal.invariant_of-self-2
invariant_of-self-2 g c =
    let o : IsExactOrder (event_cmp g.M.Body.Ord.cmp) = events_exact (record { total = g.met.M.Body.Ord.total; same = g.met.M.Model.same }) in
    let es = c.self.inside.counts.entries in
    let n = c.in-Some.count.now in
    let is : copies (event_cmp g.M.Body.Ord.cmp) c.args.event (copies_of es) ≡ n = counted_there o c.args.event n es c.self.invariant.0 c.self.invariant.1 (sym c.in-Some.ensures.value) in
    let bounds : (0 < n) × (n < 4611686018427387904) = c.self.invariant.1 c.args.event n (sym c.in-Some.ensures.value) in
    let same : WritesThrough (event_cmp g.M.Body.Ord.cmp) (event_cmp g.M.Body.Ord.cmp c.args.event) c.self.inside.counts n (c.get_mut.follows.lender n) = c.get_mut.follows.holds n in
    let gone = λ (q : Event g.row.M-Body.Denot).
    c.remove-last.ensures.updates.0 q
    ∙ ap (λ r. cond (is_at (event_cmp g.M.Body.Ord.cmp c.args.event) q) None r) ((same.3 (ap is_some (sym c.in-Some.ensures.value))).0 q)
    ∙ hidden (is_at (event_cmp g.M.Body.Ord.cmp c.args.event) q) None (Some n) (lookup (is_at (event_cmp g.M.Body.Ord.cmp q)) es) in (
      c.remove-last.ensures.ordered,
      counts_changed o c.args.event None es c.remove-last.new.self.entries c.self.invariant.1 (λ k q. absurd (cc)) gone,
    )

pub returns-clause-there : goal.returns-clause-there
returns-clause-there g c =
    let o : IsExactOrder (event_cmp g.M.Body.Ord.cmp) = events_exact (record { total = g.met.M.Body.Ord.total; same = g.met.M.Model.same }) in
    let es = c.self.inside.counts.entries in
    let n = c.in-Some.count.now in
    let is : copies (event_cmp g.M.Body.Ord.cmp) c.args.event (copies_of es) ≡ n = counted_there o c.args.event n es c.self.invariant.0 c.self.invariant.1 (sym c.in-Some.ensures.value) in
    let bounds : (0 < n) × (n < 4611686018427387904) = c.self.invariant.1 c.args.event n (sym c.in-Some.ensures.value) in
    sym (subst (λ l. has (event_cmp g.M.Body.Ord.cmp) c.args.event l ≡ true) c.self.view_is (has_some o c.args.event (copies_of es) (omega arith)))

pub returns-clause-rest : goal.returns-clause-rest
returns-clause-rest g c =
    let o : IsExactOrder (event_cmp g.M.Body.Ord.cmp) = events_exact (record { total = g.met.M.Body.Ord.total; same = g.met.M.Model.same }) in
    let es = c.self.inside.counts.entries in
    let n = c.in-Some.count.now in
    let is : copies (event_cmp g.M.Body.Ord.cmp) c.args.event (copies_of es) ≡ n = counted_there o c.args.event n es c.self.invariant.0 c.self.invariant.1 (sym c.in-Some.ensures.value) in
    let bounds : (0 < n) × (n < 4611686018427387904) = c.self.invariant.1 c.args.event n (sym c.in-Some.ensures.value) in
    let same : WritesThrough (event_cmp g.M.Body.Ord.cmp) (event_cmp g.M.Body.Ord.cmp c.args.event) c.self.inside.counts n (c.get_mut.follows.lender n) = c.get_mut.follows.holds n in
    let gone = λ (q : Event g.row.M-Body.Denot).
    c.remove-last.ensures.updates.0 q
    ∙ ap (λ r. cond (is_at (event_cmp g.M.Body.Ord.cmp c.args.event) q) None r) ((same.3 (ap is_some (sym c.in-Some.ensures.value))).0 q)
    ∙ hidden (is_at (event_cmp g.M.Body.Ord.cmp c.args.event) q) None (Some n) (lookup (is_at (event_cmp g.M.Body.Ord.cmp q)) es) in
    counted_less o c.args.event None es c.remove-last.new.self.entries c.self.invariant.0 c.remove-last.ensures.ordered (omega arith) gone
    ∙ ap (without (event_cmp g.M.Body.Ord.cmp) c.args.event) c.self.view_is
