use Rattle.std.proofs.Common.{◌≡◌, true, false, ap, sym, ◌∙◌, arith, get_or}
use Rattle.std.specs.Ordering.{is_eq}
use Rattle.rw_vt.specs.Order.{event_cmp}
use Rattle.rw_lp.specs.declared.held.Held.{Held}
use Rattle.rw_lp.proofs.HeldRuns.{first_place, holds_more}
use Rattle.rw_lp.proofs.held_back.place_of.Goals as goal

pub returns-then-is_eq : goal.returns-then-is_eq
returns-then-is_eq g c =
    let cmp = event_cmp g.B.Ord.cmp in
    let m = c.args.message.now in
    let here : is_eq (cmp m (get_or c.args.pairs.now c.loop-at.at c.index-pairs-at.result).message) ≡ true = ap (λ (h : Held g.row.B.Denot). is_eq (cmp m h.message)) (sym c.index-pairs-at.is) ∙ sym (ap is_eq c.cmp.ensures) ∙ sym c.is_eq.ensures ∙ c.if-is_eq.true in
    (omega (arith, c.loop-at-test.true), first_place cmp m c.args.pairs.now c.loop-at.at c.index-pairs-at.result c.loop-at.invariant (omega (arith, c.loop-at-test.true)) here)

pub loop-at-preserved : goal.loop-at-preserved
loop-at-preserved g c =
    let cmp = event_cmp g.B.Ord.cmp in
    let m = c.args.message.now in
    let other : is_eq (cmp m (get_or c.args.pairs.now c.loop-at.at c.index-pairs-at.result).message) ≡ false = ap (λ (h : Held g.row.B.Denot). is_eq (cmp m h.message)) (sym c.index-pairs-at.is) ∙ sym (ap is_eq c.cmp.ensures) ∙ sym c.is_eq.ensures ∙ c.if-is_eq.false in
    holds_more cmp m c.args.pairs.now c.loop-at.at c.index-pairs-at.result (omega (arith, c.loop-at-test.true)) c.loop-at.invariant other
