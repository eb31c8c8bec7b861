use Rattle.std.proofs.Common.{arith, sym}
use Rattle.std.proofs.lemmas.List.FromFn.{map-range_with_len_more}
use Rattle.rw_phold.specs.Beginning.{first_holder}
use Rattle.rw_phold.proofs.opening.holders.Goals as goal

pub loop-process-preserved : goal.loop-process-preserved
loop-process-preserved c =
    let n = c.loop-process.process in
    rw (c.in_ok-push.ensures.items, c.loop-process.invariant)
    (rw (c.draw-in-loop-process.ensures, c.draw.ensures, c.from.ensures)
    (sym (map-range_with_len_more (first_holder c.args.seed) 0 n n (omega arith))))
