use Rattle.std.proofs.Common.{◌≡◌, ◌+◌, ◌<◌, ◌++◌, ◌∷◌, [], List, suc, sym, ◌∙◌, arith, length, min}
use Rattle.rw_photo.specs.declared.counters.Counters.{Counters}
use Rattle.rw_photo.specs.Counts.{no_counts}
use Rattle.rw_report.proofs.Told.{counted-all, counted-more}
use Rattle.rw_report.proofs.intervals.count_each.Goals as goal

pub loop-index-preserved : goal.loop-index-preserved
loop-index-preserved c =
    let n = c.loop-index.index in
    let es : List Counters = c.args.earlier.now in
    let ls : List Counters = c.args.later.now in
    let next : n + 1 ≡ suc n = omega arith in
    let count = c.min-count.ensures in
    let l : n < length es = omega (arith, c.loop-index-test.true, count) in
    let m : n < length ls = omega (arith, c.loop-index-test.true, count) in
    rw next (c.in_ok-push.ensures.items ∙ (λ i. c.loop-index.invariant i ++ c.take_off.ensures i ∷ []) ∙ sym (counted-more n es ls no_counts no_counts l m))

pub returns : goal.returns
returns c =
    let n = c.loop-index.index in
    let count = c.min-count.ensures in
    let all : n ≡ min (length c.args.earlier.now) (length c.args.later.now) = omega (arith, c.loop-index-test.false, c.loop-index.auto.index-end, count) in
    c.loop-index.invariant ∙ counted-all n c.args.earlier.now c.args.later.now all
