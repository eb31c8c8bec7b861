use Rattle.std.proofs.Common.{◌≡◌, ◌∷◌, true, sym, ap, ◌∙◌, arith}
use Rattle.rw_vt.specs.Order.{event_cmp, copies, has, without}
use Rattle.rw_vt.proofs.EventOrder.{events_exact}
use Rattle.rw_vt.proofs.Sorting.{IsExactOrder}
use Rattle.rw_vt.proofs.Bags.{copies-without}
use Rattle.rw_bag.proofs.Together.{takes, takes_last}
use Rattle.rw_bag.proofs.stock.Stock.take.Goals as goal

pub returns-then-take_if_first : goal.returns-then-take_if_first
returns-then-take_if_first g c =
    let o : IsExactOrder (event_cmp g.M.Body.Ord.cmp) = events_exact (record { total = g.met.M.Body.Ord.total; same = g.met.M.Model.same }) in
    let cmp = event_cmp g.M.Body.Ord.cmp in
    let xs = c.self.inside.descending in
    let ys = c.self.inside.ascending in
    let zs = c.self.inside.counted in
    let taken : xs ≡ c.args.event ∷ c.take_if_first.new.self = c.take_if_first.ensures.taken c.if-take_if_first.true in
    let one = takes o c.args.event xs ys zs c.take_if_first.new.self ys zs c.args.self.now c.self.view_is (λ q. omega (arith, ap (copies cmp q) taken)) in
    record { there = sym one.0; rest = one.1; kept = λ h. absurd (cc) }

pub returns-then-take_if_first-2 : goal.returns-then-take_if_first-2
returns-then-take_if_first-2 g c =
    let o : IsExactOrder (event_cmp g.M.Body.Ord.cmp) = events_exact (record { total = g.met.M.Body.Ord.total; same = g.met.M.Model.same }) in
    let cmp = event_cmp g.M.Body.Ord.cmp in
    let xs = c.self.inside.descending in
    let ys = c.self.inside.ascending in
    let zs = c.self.inside.counted in
    let left : c.take_if_first.new.self ≡ xs = c.take_if_first.ensures.kept c.if-take_if_first.false in
    let taken : ys ≡ c.args.event ∷ c.take_if_first-2.new.self = c.take_if_first-2.ensures.taken c.if-take_if_first-2.true in
    let one = takes o c.args.event xs ys zs c.take_if_first.new.self c.take_if_first-2.new.self zs c.args.self.now c.self.view_is (λ q. omega (arith, ap (copies cmp q) left, ap (copies cmp q) taken)) in
    record { there = sym one.0; rest = one.1; kept = λ h. absurd (cc) }

pub returns-then-take : goal.returns-then-take
returns-then-take g c =
    let o : IsExactOrder (event_cmp g.M.Body.Ord.cmp) = events_exact (record { total = g.met.M.Body.Ord.total; same = g.met.M.Model.same }) in
    let cmp = event_cmp g.M.Body.Ord.cmp in
    let e = c.args.event in
    let xs = c.self.inside.descending in
    let ys = c.self.inside.ascending in
    let zs = c.self.inside.counted in
    let left : c.take_if_first.new.self ≡ xs = c.take_if_first.ensures.kept c.if-take_if_first.false in
    let left_too : c.take_if_first-2.new.self ≡ ys = c.take_if_first-2.ensures.kept c.if-take_if_first-2.false in
    let there : has cmp e zs ≡ true = sym c.take.ensures.there ∙ c.if-take.true in
    let one = takes o e xs ys zs c.take_if_first.new.self c.take_if_first-2.new.self c.take.new.self c.args.self.now c.self.view_is (λ q. omega (arith, ap (copies cmp q) left, ap (copies cmp q) left_too, ap (copies cmp q) c.take.ensures.rest, copies-without o q e zs there)) in
    record { there = sym one.0; rest = one.1; kept = λ h. absurd (cc) }

pub returns-then-take-2 : goal.returns-then-take-2
returns-then-take-2 g c =
    let o : IsExactOrder (event_cmp g.M.Body.Ord.cmp) = events_exact (record { total = g.met.M.Body.Ord.total; same = g.met.M.Model.same }) in
    let cmp = event_cmp g.M.Body.Ord.cmp in
    let e = c.args.event in
    let xs = c.self.inside.descending in
    let ys = c.self.inside.ascending in
    let zs = c.self.inside.counted in
    let left : c.take_if_first.new.self ≡ xs = c.take_if_first.ensures.kept c.if-take_if_first.false in
    let left_too : c.take_if_first-2.new.self ≡ ys = c.take_if_first-2.ensures.kept c.if-take_if_first-2.false in
    let counted : c.take.new.self ≡ zs = c.take.ensures.kept c.if-take.false in
    let there : has cmp e ys ≡ true = ap (has cmp e) (sym left_too) ∙ sym c.take-2.ensures.there ∙ c.if-take-2.true in
    let rest : c.take-2.new.self ≡ without cmp e ys = c.take-2.ensures.rest ∙ ap (without cmp e) left_too in
    let one = takes o e xs ys zs c.take_if_first.new.self c.take-2.new.self c.take.new.self c.args.self.now c.self.view_is (λ q. omega (arith, ap (copies cmp q) left, ap (copies cmp q) counted, ap (copies cmp q) rest, copies-without o q e ys there)) in
    record { there = sym one.0; rest = one.1; kept = λ h. absurd (cc) }

pub returns-clause-there : goal.returns-clause-there
returns-clause-there g c =
    let o : IsExactOrder (event_cmp g.M.Body.Ord.cmp) = events_exact (record { total = g.met.M.Body.Ord.total; same = g.met.M.Model.same }) in
    let cmp = event_cmp g.M.Body.Ord.cmp in
    let e = c.args.event in
    let xs = c.self.inside.descending in
    let ys = c.self.inside.ascending in
    let zs = c.self.inside.counted in
    let left : c.take_if_first.new.self ≡ xs = c.take_if_first.ensures.kept c.if-take_if_first.false in
    let left_too : c.take_if_first-2.new.self ≡ ys = c.take_if_first-2.ensures.kept c.if-take_if_first-2.false in
    let counted : c.take.new.self ≡ zs = c.take.ensures.kept c.if-take.false in
    let ascending : c.take-2.new.self ≡ ys = c.take-2.ensures.kept c.if-take-2.false ∙ left_too in
    let rest : c.take-3.new.self ≡ without cmp e xs = c.take-3.ensures.rest ∙ ap (without cmp e) left in
    let one = takes_last o e xs ys zs c.take-3.new.self c.take-2.new.self c.take.new.self c.args.self.now c.self.view_is rest ascending counted
    (ap (has cmp e) (sym left_too) ∙ sym c.take-2.ensures.there ∙ c.if-take-2.false) (sym c.take.ensures.there ∙ c.if-take.false) in
    c.take-3.ensures.there ∙ ap (has cmp e) left ∙ sym one.0

pub returns-clause-rest : goal.returns-clause-rest
returns-clause-rest g c =
    let o : IsExactOrder (event_cmp g.M.Body.Ord.cmp) = events_exact (record { total = g.met.M.Body.Ord.total; same = g.met.M.Model.same }) in
    let cmp = event_cmp g.M.Body.Ord.cmp in
    let e = c.args.event in
    let xs = c.self.inside.descending in
    let ys = c.self.inside.ascending in
    let zs = c.self.inside.counted in
    let left : c.take_if_first.new.self ≡ xs = c.take_if_first.ensures.kept c.if-take_if_first.false in
    let left_too : c.take_if_first-2.new.self ≡ ys = c.take_if_first-2.ensures.kept c.if-take_if_first-2.false in
    let counted : c.take.new.self ≡ zs = c.take.ensures.kept c.if-take.false in
    let ascending : c.take-2.new.self ≡ ys = c.take-2.ensures.kept c.if-take-2.false ∙ left_too in
    let rest : c.take-3.new.self ≡ without cmp e xs = c.take-3.ensures.rest ∙ ap (without cmp e) left in
    let one = takes_last o e xs ys zs c.take-3.new.self c.take-2.new.self c.take.new.self c.args.self.now c.self.view_is rest ascending counted
    (ap (has cmp e) (sym left_too) ∙ sym c.take-2.ensures.there ∙ c.if-take-2.false) (sym c.take.ensures.there ∙ c.if-take.false) in
    one.1
