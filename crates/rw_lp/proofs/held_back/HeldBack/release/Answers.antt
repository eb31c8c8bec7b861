use Rattle.std.proofs.Common.{◌≡◌, true, arith, ap, sym, ◌∙◌, subst, true≢false}
use Rattle.std.specs.List.{remove}
use Rattle.rw_vt.specs.Order.{event_cmp, has, copies}
use Rattle.rw_vt.proofs.EventOrder.{events_exact}
use Rattle.rw_vt.proofs.Sorting.{IsExactOrder}
use Rattle.rw_vt.proofs.Bags.{one_if-itself, copies-without}
use Rattle.rw_lp.specs.HeldMessages.{held_messages, holds, held_without_first}
use Rattle.rw_lp.specs.HeldBack.{AreFalling, AreCounted}
use Rattle.rw_lp.proofs.HeldRuns.{held_test, falling_released, counts_released, count_released, zero_if}
use Rattle.rw_lp.proofs.held_back.HeldBack.release.Goals as goal

pub returns-then-not-take-clause-there : goal.returns-then-not-take-clause-there
returns-then-not-take-clause-there g c =
    let o : IsExactOrder (event_cmp g.M.Body.Ord.cmp) = events_exact (record { total = g.met.M.Body.Ord.total; same = g.met.M.Model.same }) in
    let cmp = event_cmp g.M.Body.Ord.cmp in
    let m = c.args.message in
    let hs = c.self.inside.pairs.items in
    let ms = c.self.inside.messages in
    sym (ap (holds cmp m) (sym c.self.view_is) ∙ sym (held_test o m ms hs c.self.invariant.1) ∙ sym c.take.ensures.there ∙ c.if-not-take.true)

pub place_of-requires : goal.place_of-requires
place_of-requires g c = record {
  alone = λ none.
      let o : IsExactOrder (event_cmp g.M.Body.Ord.cmp) = events_exact (record { total = g.met.M.Body.Ord.total; same = g.met.M.Model.same }) in
      let cmp = event_cmp g.M.Body.Ord.cmp in
      let m = c.args.message in
      let hs = c.self.inside.pairs.items in
      let ms = c.self.inside.messages in
      let there : has cmp m ms ≡ true = sym c.take.ensures.there ∙ c.if-not-take.false in
      let zero : c.copies-is_alone.result ≡ 0 = zero_if c.copies-is_alone.result none in
      let left : copies cmp m c.take.new.self ≡ 0 = sym c.copies-is_alone.ensures.copies ∙ zero in
      let rest = ap (copies cmp m) c.take.ensures.rest in
      let slice = ap (λ l. copies cmp m (held_messages l)) c.as_slice.ensures.value in
      omega (arith, c.self.invariant.1 m, copies-without o m m ms there, one_if-itself o m, left, rest, slice);
}

pub unreachable-requires : goal.unreachable-requires
unreachable-requires g c =
    let o : IsExactOrder (event_cmp g.M.Body.Ord.cmp) = events_exact (record { total = g.met.M.Body.Ord.total; same = g.met.M.Model.same }) in
    let cmp = event_cmp g.M.Body.Ord.cmp in
    let m = c.args.message in
    let hs = c.self.inside.pairs.items in
    let ms = c.self.inside.messages in
    true≢false (sym c.if-not-take.false ∙ c.take.ensures.there ∙ held_test o m ms hs c.self.invariant.1 ∙ ap (holds cmp m) (sym c.as_slice.ensures.value) ∙ c.in_default.ensures)

pub invariant_of-self-2 : goal.invariant_of-self-2
invariant_of-self-2 g c =
    let o : IsExactOrder (event_cmp g.M.Body.Ord.cmp) = events_exact (record { total = g.met.M.Body.Ord.total; same = g.met.M.Model.same }) in
    let cmp = event_cmp g.M.Body.Ord.cmp in
    let m = c.args.message in
    let hs = c.self.inside.pairs.items in
    let ms = c.self.inside.messages in
    let there : has cmp m ms ≡ true = sym c.take.ensures.there ∙ c.if-not-take.false in
    let held : holds cmp m hs ≡ true = sym (held_test o m ms hs c.self.invariant.1) ∙ there in
    let left : c.remove-released.new.self.items ≡ held_without_first cmp m hs = c.remove-released.ensures.items ∙ ap (λ l. remove l c.in-Some.at) (sym c.as_slice.ensures.value) ∙ c.in-Some.ensures.1 ∙ ap (held_without_first cmp m) c.as_slice.ensures.value in (
      subst (AreFalling cmp) (sym left) (falling_released o m hs c.self.invariant.0),
      subst (λ l. AreCounted cmp c.take.new.self (held_messages l)) (sym left) (counts_released o m ms c.take.new.self hs c.self.invariant.1 there c.take.ensures.rest (λ a. count_released o a m hs held)),
    )

pub returns-clause-there : goal.returns-clause-there
returns-clause-there g c =
    let o : IsExactOrder (event_cmp g.M.Body.Ord.cmp) = events_exact (record { total = g.met.M.Body.Ord.total; same = g.met.M.Model.same }) in
    let cmp = event_cmp g.M.Body.Ord.cmp in
    let m = c.args.message in
    let hs = c.self.inside.pairs.items in
    let ms = c.self.inside.messages in
    sym (ap (holds cmp m) (sym c.self.view_is) ∙ sym (held_test o m ms hs c.self.invariant.1) ∙ sym c.take.ensures.there ∙ c.if-not-take.false)

pub returns-clause-rest : goal.returns-clause-rest
returns-clause-rest g c = λ yes.
    let cmp = event_cmp g.M.Body.Ord.cmp in
    let m = c.args.message in
    let hs = c.self.inside.pairs.items in
    c.remove-released.ensures.items ∙ ap (λ l. remove l c.in-Some.at) (sym c.as_slice.ensures.value) ∙ c.in-Some.ensures.1 ∙ ap (held_without_first cmp m) (c.as_slice.ensures.value ∙ c.self.view_is)
