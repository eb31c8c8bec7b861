use Rattle.std.proofs.Common.{◌≡◌, ◌∷◌, ◌++◌, length, map, sym, ap, ◌∙◌, arith, Ok}
use Rattle.rw_pool.proofs.Lists.{one_done, all_walked}
use Rattle.rw_pool.proofs.job.outputs_of.Goals as goal

pub loop-result-preserved : goal.loop-result-preserved
loop-result-preserved g c =
    let known = c.loop-result.invariant in
    let rest' = c.next.new.self.rest.items in
    let r : c.loop-result.result-iterator.rest.items ≡ c.in-Some.result ∷ rest' = c.in-Some.ensures.steps.0 in
    record {
      room = c.push_reserved.ensures.capacity ∙ known.room;
      count = omega (arith, ap length r, c.push_reserved.ensures.len, known.count);
      done = one_done (λ w. Ok w) c.loop-result.outputs.items _ _ rest' _ c.in-Some.result c.in_ok-output.output known.done r (sym c.in_ok-output.was) c.push_reserved.ensures.items;
    }

pub loop-result-init : goal.loop-result-init
loop-result-init g c = record {
  room = omega (arith, c.in_ok-outputs.ensures.exact, c.len.ensures);
  count = omega (arith, c.in_ok-outputs.ensures.len, ap length c.into_iter-result-iterator.ensures.into_iter_gives.0, c.args.results.ok.0);
  done = ap (λ z. map (λ w. Ok w) z ++ c.into_iter-result-iterator.result.rest.items) c.in_ok-outputs.ensures.items ∙ c.into_iter-result-iterator.ensures.into_iter_gives.0;
}

pub push_reserved-requires : goal.push_reserved-requires
push_reserved-requires g c = omega (arith, c.loop-result.invariant.room, c.loop-result.invariant.count, ap length c.in-Some.ensures.steps.0)

pub returns : goal.returns
returns g c =
    let rest = c.loop-result.result-iterator.rest in
    all_walked _ rest.items _ c.loop-result.invariant.done (sym rest.ok.0 ∙ c.in-None.ensures.steps.0)
