use Rattle.std.proofs.Common.{◌≡◌, ◌≤◌, ◌++◌, [], ◌∷◌, ◌∙◌, ap, append_assoc, arith}
use Rattle.std.proofs.lemmas.List.Elements.{All-push}
use Rattle.std.proofs.lemmas.List.Sorted.{IsPermutation-pop_more, length_permutation}
use Rattle.rw_pending.proofs.ByTime.{at_least, late_left, on_err}
use Rattle.rw_pending.proofs.later.Lane.take.Goals as goal

pub loop-self-smaller-in-Continue-1 : goal.loop-self-smaller-in-Continue-1
loop-self-smaller-in-Continue-1 g c = omega (arith, length_permutation c.loop-self.self (c.in-Some.event ∷ c.pop.new.self) c.in-Some.ensures.taken)

pub loop-self-preserved-in-Continue-1 : goal.loop-self-preserved-in-Continue-1
loop-self-preserved-in-Continue-1 g c =
    let inv = c.loop-self.invariant in
    let t = c.args.time in
    let x = c.in-Some.event in
    let late = late_left (λ e. t ≤ e.time) c.args.self.now inv.0 c.loop-self.self inv.2 c.requires in
    let least = c.has.ensures.least c.loop-self-test.true in (
      inv.0 ++ x ∷ [],
      c.in_ok-push.ensures.items ∙ ap (λ l. l ++ x ∷ []) inv.1 ∙ append_assoc c.args.taken.now.items inv.0 (x ∷ []),
      IsPermutation-pop_more c.args.self.now inv.0 c.loop-self.self c.pop.new.self x inv.2 c.in-Some.ensures.taken,
      All-push (λ e. e.time ≡ t) inv.0 x inv.3 (at_least t c.loop-self.self c.pop.new.self x late least c.in-Some.ensures.taken c.in-Some.ensures.least),
    )

pub returns-in_err-push-clause-left : goal.returns-in_err-push-clause-left
returns-in_err-push-clause-left g c =
    let inv = c.loop-self.invariant in
    let x = c.in-Some.event in
    on_err c.from_residual.result (record { gone = inv.0 ++ x ∷ []; parts = IsPermutation-pop_more c.args.self.now inv.0 c.loop-self.self c.pop.new.self x inv.2 c.in-Some.ensures.taken })

pub returns-clause-moved : goal.returns-clause-moved
returns-clause-moved g c =
    let inv = c.loop-self.invariant in
    let t = c.args.time in
    let late = late_left (λ e. t ≤ e.time) c.args.self.now inv.0 c.loop-self.self inv.2 c.requires in
    record {
      moved = inv.0;
      behind = inv.1;
      parts = inv.2;
      of_time = inv.3;
      later = c.has.ensures.later c.loop-self-test.false late;
    }
