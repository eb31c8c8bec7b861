use Rattle.std.proofs.Common.{◌≡◌, ◌≤◌, ◌++◌, [], ◌∷◌, ◌∙◌, IfSome, ap, append_assoc, arith, subst}
use Rattle.std.proofs.lemmas.List.Elements.{All-push}
use Rattle.std.proofs.lemmas.List.Sorted.{IsPermutation-pop_more, length_permutation}
use Rattle.rw_pending.proofs.ByTime.{late_left, least_or_other, on_err}
use Rattle.rw_pending.proofs.Waiting.{taken_at}
use Rattle.rw_pending.proofs.slot.Slot.take_each.Goals as goal

pub loop-next-smaller : goal.loop-next-smaller
loop-next-smaller g c = omega (arith, length_permutation c.loop-next.self (c.in-Some.event ∷ c.take_one.new.self) (taken_at c.in-Some.is c.take_one.ensures.taken))

pub take_one-requires : goal.take_one-requires
take_one-requires g c = late_left (λ e. c.args.time ≤ e.time) c.args.self.now c.loop-next.invariant.0 c.loop-next.self c.loop-next.invariant.2 c.requires

pub loop-next-preserved : goal.loop-next-preserved
loop-next-preserved g c =
    let inv = c.loop-next.invariant in
    let t = c.args.time in
    let x = c.in-Some.event in
    let at = subst (λ o. IfSome o (λ e. e.time ≡ t)) c.in-Some.is c.take_one.ensures.of_time in (
      inv.0 ++ x ∷ [],
      c.in_ok-push.ensures.items ∙ ap (λ l. l ++ x ∷ []) inv.1 ∙ append_assoc c.args.taken.now.items inv.0 (x ∷ []),
      IsPermutation-pop_more c.args.self.now inv.0 c.loop-next.self c.take_one.new.self x inv.2 (taken_at c.in-Some.is c.take_one.ensures.taken),
      All-push (λ e. e.time ≡ t) inv.0 x inv.3 at,
    )

pub returns-in_err-push-clause-left : goal.returns-in_err-push-clause-left
returns-in_err-push-clause-left g c =
    let inv = c.loop-next.invariant in
    let x = c.in-Some.event in
    on_err c.from_residual.result (record { gone = inv.0 ++ x ∷ []; parts = IsPermutation-pop_more c.args.self.now inv.0 c.loop-next.self c.take_one.new.self x inv.2 (taken_at c.in-Some.is c.take_one.ensures.taken) })

pub returns-clause-moved : goal.returns-clause-moved
returns-clause-moved g c =
    let inv = c.loop-next.invariant in
    let t = c.args.time in
    let late = late_left (λ e. t ≤ e.time) c.args.self.now inv.0 c.loop-next.self inv.2 c.requires in
    record {
      moved = inv.0;
      behind = inv.1;
      parts = inv.2;
      of_time = inv.3;
      later = least_or_other c.loop-next.self t c.least.ensures late c.loop-next-test.false;
    }
