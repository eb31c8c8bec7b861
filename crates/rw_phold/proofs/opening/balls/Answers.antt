use Rattle.std.proofs.Common.{arith, sym, ◌≡◌, ◌+◌, ◌∙◌}
use Rattle.std.proofs.lemmas.List.FromFn.{map-range_with_len_more}
use Rattle.std.specs.Fn.{iterate}
use Rattle.rw_phold.specs.Beginning.{first_ball}
use Rattle.rw_phold.specs.Draws.{drawn, draw_more}
use Rattle.rw_phold.proofs.opening.balls.Goals as goal

pub loop-number-preserved : goal.loop-number-preserved
loop-number-preserved c =
    let n = c.loop-number.number in
    let seed = c.args.seed in
    let drawn_on : drawn c.loop-number.random ≡ iterate drawn (n + 1) seed =
    rw c.loop-number.invariant.random (sym (draw_more n seed)) in
    let random : c.draw-random.result ≡ iterate drawn (n + 1) seed = c.draw-random.ensures ∙ drawn_on in
    record {
      random = random;
      balls = rw (c.in_ok-push.ensures.items, c.loop-number.invariant.balls, random, c.from.ensures)
          (sym (map-range_with_len_more (first_ball c.args.phold.now seed) 0 n n (omega arith)));
    }
