use Rattle.std.proofs.Common.{◌≡◌, ◌-◌, ◌++◌, List, ℕ, suc, sym, ◌∙◌, ap, arith, append_assoc, take}
use Rattle.rw_report.specs.Intervals.{interval_lines, lines_of}
use Rattle.rw_report.specs.declared.moments.Moment.{Moment}
use Rattle.rw_report.proofs.Told.{lines-more}
use Rattle.rw_report.proofs.intervals.write_intervals.Goals as goal

pub loop-next-preserved : goal.loop-next-preserved
loop-next-preserved c =
    let n = c.loop-next.next in
    let k = c.args.config.now in
    let before : List ℕ = c.args.before.now in
    let ms : List Moment = c.args.moments.now in
    let text : List ℕ = c.args.text.now.items in
    let first = c.index-moments-next.result in
    let second = c.index-moments-next-in-loop-next.result in
    let some = c.loop-next.auto.next in
    let is : n ≡ suc (n - 1) = omega (arith, some) in
    c.in_ok-write_interval.ensures
    ∙ (λ i. c.loop-next.invariant i ++ interval_lines k before (c.index-moments-next.is i) (c.index-moments-next-in-loop-next.is i))
    ∙ append_assoc text (lines_of k before (take n ms)) _
    ∙ ap (λ l. text ++ l) (sym (lines-more k before ms n (n - 1) first second is c.loop-next-test.true))
