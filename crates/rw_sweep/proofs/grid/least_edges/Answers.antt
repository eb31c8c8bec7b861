use Rattle.std.proofs.Common.{ℕ, List, ap, arith, get_or, min, sym, take, ◌∙◌}
use Rattle.std.proofs.lemmas.List.{take_more}
use Rattle.rw_photo.specs.Limits.{most_edges}
use Rattle.rw_sweep.specs.Grids.{least_of}
use Rattle.rw_sweep.proofs.Fewest.{least-more}
use Rattle.rw_sweep.proofs.grid.least_edges.Goals as goal

pub loop-number-preserved : goal.loop-number-preserved
loop-number-preserved c =
    let ns : List ℕ = c.args.numbers.now in
    let i : ℕ = c.loop-number.number-index in
    let n : ℕ = get_or ns i 0 in
    let more = take_more ns i 0 c.loop-number-test.true in
    let few = c.loop-number.invariant.few in
    let is = c.min-least.ensures in
    record {
      least = is ∙ (ap (λ k. min k n) c.loop-number.invariant.least ∙ (sym (least-more most_edges (take i ns) n) ∙ sym (ap (least_of most_edges) more)));
      few = omega (arith, few, is);
    }
