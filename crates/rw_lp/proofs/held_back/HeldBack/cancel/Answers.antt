use Rattle.std.proofs.Common.{◌≡◌, true, ◌++◌, arith, ap, sym, ◌∙◌, subst}
use Rattle.std.specs.Prelude.{slice_range}
use Rattle.rw_vt.specs.Order.{event_cmp, copies}
use Rattle.rw_vt.specs.Letters.{letters_of}
use Rattle.rw_vt.proofs.EventOrder.{events_exact}
use Rattle.rw_vt.proofs.Sorting.{IsExactOrder}
use Rattle.rw_lp.specs.HeldMessages.{held_messages, held_with, held_without}
use Rattle.rw_lp.specs.HeldBack.{AreFalling, IsRunOf}
use Rattle.rw_lp.proofs.HeldRuns.{count_parts, falling_without}
use Rattle.rw_lp.proofs.held_back.HeldBack.cancel.Goals as goal

pub forget-requires : goal.forget-requires
forget-requires g c = record {
  there = λ m.
      let cmp = event_cmp g.M.Body.Ord.cmp in
      let hs = c.self.inside.pairs.items in
      let run : IsRunOf cmp c.args.event hs c.run_of-from.result.0 c.run_of-from.result.1 = subst (λ l. IsRunOf cmp c.args.event l c.run_of-from.result.0 c.run_of-from.result.1) c.as_slice.ensures.value c.run_of-from.ensures in
      let slice : copies cmp m (held_messages (slice_range c.deref.result.now c.run_of-from.result.0 c.run_of-from.result.1)) ≡ copies cmp m (held_with cmp c.args.event hs) = ap (λ l. copies cmp m (held_messages (slice_range l c.run_of-from.result.0 c.run_of-from.result.1))) c.deref.ensures.value ∙ ap (copies cmp m) (sym run.there) in
      omega (arith, slice, count_parts cmp m c.args.event hs, c.self.invariant.1 m);
}

pub invariant_of-self : goal.invariant_of-self
invariant_of-self g c =
    let o : IsExactOrder (event_cmp g.M.Body.Ord.cmp) = events_exact (record { total = g.met.M.Body.Ord.total; same = g.met.M.Model.same }) in
    let cmp = event_cmp g.M.Body.Ord.cmp in
    let hs = c.self.inside.pairs.items in
    let run : IsRunOf cmp c.args.event hs c.run_of-from.result.0 c.run_of-from.result.1 = subst (λ l. IsRunOf cmp c.args.event l c.run_of-from.result.0 c.run_of-from.result.1) c.as_slice.ensures.value c.run_of-from.ensures in
    let left : c.drop_between.new.values.items ≡ held_without cmp c.args.event hs = c.drop_between.ensures ∙ sym run.others in (
      subst (AreFalling cmp) (sym left) (falling_without o c.args.event hs c.self.invariant.0),
      λ m.
          let slice : copies cmp m (held_messages (slice_range c.deref.result.now c.run_of-from.result.0 c.run_of-from.result.1)) ≡ copies cmp m (held_with cmp c.args.event hs) = ap (λ l. copies cmp m (held_messages (slice_range l c.run_of-from.result.0 c.run_of-from.result.1))) c.deref.ensures.value ∙ ap (copies cmp m) (sym run.there) in
          let rest : copies cmp m (held_messages c.drop_between.new.values.items) ≡ copies cmp m (held_messages (held_without cmp c.args.event hs)) = ap (λ l. copies cmp m (held_messages l)) left in
          omega (arith, slice, rest, count_parts cmp m c.args.event hs, c.self.invariant.1 m, c.forget.ensures.less m),
    )

pub returns-clause-out : goal.returns-clause-out
returns-clause-out g c =
    let cmp = event_cmp g.M.Body.Ord.cmp in
    let hs = c.self.inside.pairs.items in
    let run : IsRunOf cmp c.args.event hs c.run_of-from.result.0 c.run_of-from.result.1 = subst (λ l. IsRunOf cmp c.args.event l c.run_of-from.result.0 c.run_of-from.result.1) c.as_slice.ensures.value c.run_of-from.ensures in
    c.in_ok-give_antis.ensures.given
    ∙ ap (λ l. c.args.out.now.items ++ letters_of true l) (ap (λ l. held_messages (slice_range l c.run_of-from.result.0 c.run_of-from.result.1)) c.deref.ensures.value ∙ sym run.there ∙ ap (held_with cmp c.args.event) c.self.view_is)

pub returns-clause-left : goal.returns-clause-left
returns-clause-left g c =
    let cmp = event_cmp g.M.Body.Ord.cmp in
    let hs = c.self.inside.pairs.items in
    let run : IsRunOf cmp c.args.event hs c.run_of-from.result.0 c.run_of-from.result.1 = subst (λ l. IsRunOf cmp c.args.event l c.run_of-from.result.0 c.run_of-from.result.1) c.as_slice.ensures.value c.run_of-from.ensures in
    c.drop_between.ensures ∙ sym run.others ∙ ap (held_without cmp c.args.event) c.self.view_is
