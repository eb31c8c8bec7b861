use Rattle.std.proofs.Common.{◌≡◌, ◌+◌, ◌<◌, true, false, true≢false, get_or, refl, sym, ap, ◌∙◌, subst, arith}
use Rattle.std.specs.Prelude.{OnSome}
use Rattle.std.specs.Ordering.{is_ne, is_le}
use Rattle.std.specs.List as lists
use Rattle.std.specs.List.{position_or_len}
use Rattle.rw_vt.specs.Order.{event_cmp, IsAscending, has, without}
use Rattle.rw_vt.proofs.EventOrder.{events_exact}
use Rattle.rw_vt.proofs.Sorting.{IsExactOrder}
use Rattle.rw_vt.proofs.Bags.{IsAscending-without}
use Rattle.rw_bag.proofs.Rising.{none_at, taken_at}
use Rattle.rw_bag.proofs.ascending.Ascending.take.Goals as goal

pub returns-in_default-clause-there : goal.returns-in_default-clause-there
returns-in_default-clause-there g c =
    let o : IsExactOrder (event_cmp g.M.Body.Ord.cmp) = events_exact (record { total = g.met.M.Body.Ord.total; same = g.met.M.Model.same }) in
    let cmp = event_cmp g.M.Body.Ord.cmp in
    let e = c.args.event in
    let events = c.self.inside.events in
    let n = c.place-at.result in
    let at : n ≡ position_or_len (λ y. is_le (cmp e y)) events.items = c.place-at.ensures ∙ ap (position_or_len (λ y. is_le (cmp e y))) (sym c.self.view_is) in
    sym (ap (has cmp e) (sym c.self.view_is) ∙ (none_at o e events.items n e c.self.invariant.0 at (λ l. absurd (true≢false (sym (c.in_default.ensures.variant.1 (omega (arith, l, events.ok.0))))))).0)

pub returns-in_default-clause-rest : goal.returns-in_default-clause-rest
returns-in_default-clause-rest g c =
    let o : IsExactOrder (event_cmp g.M.Body.Ord.cmp) = events_exact (record { total = g.met.M.Body.Ord.total; same = g.met.M.Model.same }) in
    let cmp = event_cmp g.M.Body.Ord.cmp in
    let e = c.args.event in
    let events = c.self.inside.events in
    let n = c.place-at.result in
    let at : n ≡ position_or_len (λ y. is_le (cmp e y)) events.items = c.place-at.ensures ∙ ap (position_or_len (λ y. is_le (cmp e y))) (sym c.self.view_is) in
    sym (ap (without cmp e) (sym c.self.view_is) ∙ (none_at o e events.items n e c.self.invariant.0 at (λ l. absurd (true≢false (sym (c.in_default.ensures.variant.1 (omega (arith, l, events.ok.0))))))).1 ∙ c.self.view_is)

pub returns-then-is_ne-clause-there : goal.returns-then-is_ne-clause-there
returns-then-is_ne-clause-there g c =
    let o : IsExactOrder (event_cmp g.M.Body.Ord.cmp) = events_exact (record { total = g.met.M.Body.Ord.total; same = g.met.M.Model.same }) in
    let cmp = event_cmp g.M.Body.Ord.cmp in
    let e = c.args.event in
    let events = c.self.inside.events in
    let n = c.place-at.result in
    let at : n ≡ position_or_len (λ y. is_le (cmp e y)) events.items = c.place-at.ensures ∙ ap (position_or_len (λ y. is_le (cmp e y))) (sym c.self.view_is) in
    let other = c.in-Some.other.now in
    let differs : is_ne (cmp e (get_or events.items n other)) ≡ true = sym (ap (λ y. is_ne (cmp e y)) c.in-Some.ensures.lookup) ∙ sym (c.is_ne.ensures ∙ ap is_ne c.cmp.ensures) ∙ c.if-is_ne.true in
    sym (ap (has cmp e) (sym c.self.view_is) ∙ (none_at o e events.items n other c.self.invariant.0 at (λ l. differs)).0)

pub returns-then-is_ne-clause-rest : goal.returns-then-is_ne-clause-rest
returns-then-is_ne-clause-rest g c =
    let o : IsExactOrder (event_cmp g.M.Body.Ord.cmp) = events_exact (record { total = g.met.M.Body.Ord.total; same = g.met.M.Model.same }) in
    let cmp = event_cmp g.M.Body.Ord.cmp in
    let e = c.args.event in
    let events = c.self.inside.events in
    let n = c.place-at.result in
    let at : n ≡ position_or_len (λ y. is_le (cmp e y)) events.items = c.place-at.ensures ∙ ap (position_or_len (λ y. is_le (cmp e y))) (sym c.self.view_is) in
    let other = c.in-Some.other.now in
    let differs : is_ne (cmp e (get_or events.items n other)) ≡ true = sym (ap (λ y. is_ne (cmp e y)) c.in-Some.ensures.lookup) ∙ sym (c.is_ne.ensures ∙ ap is_ne c.cmp.ensures) ∙ c.if-is_ne.true in
    sym (ap (without cmp e) (sym c.self.view_is) ∙ (none_at o e events.items n other c.self.invariant.0 at (λ l. differs)).1 ∙ c.self.view_is)

pub invariant_of-self : goal.invariant_of-self
invariant_of-self g c =
    let o : IsExactOrder (event_cmp g.M.Body.Ord.cmp) = events_exact (record { total = g.met.M.Body.Ord.total; same = g.met.M.Model.same }) in
    let cmp = event_cmp g.M.Body.Ord.cmp in
    let e = c.args.event in
    let events = c.self.inside.events in
    let n = c.place-at.result in
    let at : n ≡ position_or_len (λ y. is_le (cmp e y)) events.items = c.place-at.ensures ∙ ap (position_or_len (λ y. is_le (cmp e y))) (sym c.self.view_is) in
    let other = c.in-Some.other.now in
    let same : is_ne (cmp e (get_or events.items n other)) ≡ false = sym (ap (λ y. is_ne (cmp e y)) c.in-Some.ensures.lookup) ∙ sym (c.is_ne.ensures ∙ ap is_ne c.cmp.ensures) ∙ c.if-is_ne.false in
    let within : n < events.len = c.in-Some.ensures.variant.0 refl in
    let taken = taken_at cmp e events.items n other at (omega (arith, within, events.ok.0)) same in
    let left : c.remove-taken.new.self.items ≡ without cmp e events.items = subst (λ r. OnSome r (c.remove-taken.new.self.items ≡ lists.remove events.items n)) (c.remove-taken.ensures.succeeds other within) c.remove-taken.ensures.items ∙ taken.1 in
    let fewer : c.remove-taken.new.self.len + 1 ≡ events.len = subst (λ r. OnSome r (c.remove-taken.new.self.len + 1 ≡ events.len)) (c.remove-taken.ensures.succeeds other within) c.remove-taken.ensures.len in (
      subst (IsAscending cmp) (sym left) (IsAscending-without o e events.items c.self.invariant.0),
      omega (arith, fewer, events.ok.0, c.remove-taken.new.self.ok.0, c.self.invariant.1),
    )

pub returns-clause-there : goal.returns-clause-there
returns-clause-there g c =
    let o : IsExactOrder (event_cmp g.M.Body.Ord.cmp) = events_exact (record { total = g.met.M.Body.Ord.total; same = g.met.M.Model.same }) in
    let cmp = event_cmp g.M.Body.Ord.cmp in
    let e = c.args.event in
    let events = c.self.inside.events in
    let n = c.place-at.result in
    let at : n ≡ position_or_len (λ y. is_le (cmp e y)) events.items = c.place-at.ensures ∙ ap (position_or_len (λ y. is_le (cmp e y))) (sym c.self.view_is) in
    let other = c.in-Some.other.now in
    let same : is_ne (cmp e (get_or events.items n other)) ≡ false = sym (ap (λ y. is_ne (cmp e y)) c.in-Some.ensures.lookup) ∙ sym (c.is_ne.ensures ∙ ap is_ne c.cmp.ensures) ∙ c.if-is_ne.false in
    let within : n < events.len = c.in-Some.ensures.variant.0 refl in
    let taken = taken_at cmp e events.items n other at (omega (arith, within, events.ok.0)) same in
    let left : c.remove-taken.new.self.items ≡ without cmp e events.items = subst (λ r. OnSome r (c.remove-taken.new.self.items ≡ lists.remove events.items n)) (c.remove-taken.ensures.succeeds other within) c.remove-taken.ensures.items ∙ taken.1 in
    sym (ap (has cmp e) (sym c.self.view_is) ∙ taken.0)

pub returns-clause-rest : goal.returns-clause-rest
returns-clause-rest g c =
    let o : IsExactOrder (event_cmp g.M.Body.Ord.cmp) = events_exact (record { total = g.met.M.Body.Ord.total; same = g.met.M.Model.same }) in
    let cmp = event_cmp g.M.Body.Ord.cmp in
    let e = c.args.event in
    let events = c.self.inside.events in
    let n = c.place-at.result in
    let at : n ≡ position_or_len (λ y. is_le (cmp e y)) events.items = c.place-at.ensures ∙ ap (position_or_len (λ y. is_le (cmp e y))) (sym c.self.view_is) in
    let other = c.in-Some.other.now in
    let same : is_ne (cmp e (get_or events.items n other)) ≡ false = sym (ap (λ y. is_ne (cmp e y)) c.in-Some.ensures.lookup) ∙ sym (c.is_ne.ensures ∙ ap is_ne c.cmp.ensures) ∙ c.if-is_ne.false in
    let within : n < events.len = c.in-Some.ensures.variant.0 refl in
    let taken = taken_at cmp e events.items n other at (omega (arith, within, events.ok.0)) same in
    let left : c.remove-taken.new.self.items ≡ without cmp e events.items = subst (λ r. OnSome r (c.remove-taken.new.self.items ≡ lists.remove events.items n)) (c.remove-taken.ensures.succeeds other within) c.remove-taken.ensures.items ∙ taken.1 in
    left ∙ ap (without cmp e) c.self.view_is
