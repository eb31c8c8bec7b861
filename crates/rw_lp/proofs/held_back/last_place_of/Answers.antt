use Rattle.std.proofs.Common.{◌≡◌, ◌-◌, true, ap, sym, ◌∙◌, arith, get_or}
use Rattle.std.specs.Ordering.{is_eq}
use Rattle.rw_vt.specs.Order.{event_cmp}
use Rattle.rw_lp.proofs.HeldRuns.{only_place}
use Rattle.rw_lp.proofs.held_back.last_place_of.Goals as goal

pub returns-then-is_eq : goal.returns-then-is_eq
returns-then-is_eq g c =
    let cmp = event_cmp g.B.Ord.cmp in
    let m = c.args.message.now in
    let here : is_eq (cmp m (get_or c.args.pairs.now (c.loop-at.at - 1) c.index-pairs-at.result).message) ≡ true = sym (ap is_eq c.cmp.ensures) ∙ sym c.is_eq.ensures ∙ c.if-is_eq.true in
    (omega (arith, c.loop-at-test.true, c.loop-at.auto.at), only_place cmp m c.args.pairs.now (c.loop-at.at - 1) c.index-pairs-at.result c.requires.alone (omega (arith, c.loop-at-test.true, c.loop-at.auto.at)) here)
