use Rattle.std.proofs.Common.{◌≡◌, ◌+◌, true, false, length, sym, ap, ◌∙◌, subst, arith, get_or}
use Rattle.std.specs.List.{position_or_len}
use Rattle.std.specs.Ordering.{is_eq, is_le}
use Rattle.rw_vt.specs.Order.{event_cmp, IsAscending}
use Rattle.rw_vt.proofs.EventOrder.{events_exact}
use Rattle.rw_vt.proofs.Sorting.{IsExactOrder}
use Rattle.rw_bag.proofs.Falling.{read_back, found, present, absent_above, absent_if}
use Rattle.rw_bag.proofs.descending.Descending.find.Goals as goal

pub returns-in_err-at : goal.returns-in_err-at
returns-in_err-at g c =
    let all : position_or_len (λ y. is_le (event_cmp g.M.Body.Ord.cmp c.args.event y)) c.args.self.now ≡ length c.args.self.now = omega arith in
    rw c.from_residual.ensures (record { there = sym (absent_above (event_cmp g.M.Body.Ord.cmp) c.args.event c.args.self.now all); at = tt })

pub returns-then-is_eq : goal.returns-then-is_eq
returns-then-is_eq g c =
    let cmp = event_cmp g.M.Body.Ord.cmp in
    let p = position_or_len (λ y. is_le (cmp c.args.event y)) c.args.self.now in
    let at : c.in_ok-at.at + 1 + p ≡ length c.args.self.now = omega arith in
    let read : get_or c.args.self.now p c.index-other.result.now ≡ c.index-other.result.now = read_back c.self.inside.events.items c.args.self.now c.in_ok-at.at p c.index-other.result.now c.self.view_is at ∙ sym c.index-other.ensures in
    let here : is_eq (cmp c.args.event (get_or c.args.self.now p c.index-other.result.now)) ≡ true = ap (λ y. is_eq (cmp c.args.event y)) read ∙ sym (ap is_eq c.cmp.ensures) ∙ sym c.is_eq.ensures ∙ c.if-is_eq.true in
    let same : position_or_len (λ y. is_eq (cmp c.args.event y)) c.args.self.now ≡ p = found cmp c.args.event c.args.self.now c.index-other.result.now here in
    let copy : c.in_ok-at.at + 1 + position_or_len (λ y. is_eq (cmp c.args.event y)) c.args.self.now ≡ length c.args.self.now = omega arith in
    record { there = sym (present cmp c.args.event c.args.self.now c.in_ok-at.at copy); at = copy }

pub returns-clause-there : goal.returns-clause-there
returns-clause-there g c =
    let o : IsExactOrder (event_cmp g.M.Body.Ord.cmp) = events_exact (record { total = g.met.M.Body.Ord.total; same = g.met.M.Model.same }) in
    let cmp = event_cmp g.M.Body.Ord.cmp in
    let p = position_or_len (λ y. is_le (cmp c.args.event y)) c.args.self.now in
    let at : c.in_ok-at.at + 1 + p ≡ length c.args.self.now = omega arith in
    let read : get_or c.args.self.now p c.index-other.result.now ≡ c.index-other.result.now = read_back c.self.inside.events.items c.args.self.now c.in_ok-at.at p c.index-other.result.now c.self.view_is at ∙ sym c.index-other.ensures in
    let other : is_eq (cmp c.args.event (get_or c.args.self.now p c.index-other.result.now)) ≡ false = ap (λ y. is_eq (cmp c.args.event y)) read ∙ sym (ap is_eq c.cmp.ensures) ∙ sym c.is_eq.ensures ∙ c.if-is_eq.false in
    sym (absent_if o c.args.event c.args.self.now c.index-other.result.now (subst (IsAscending cmp) c.self.view_is c.self.invariant) (λ l. other))
