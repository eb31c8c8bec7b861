use Rattle.std.proofs.Common.{length, ap, sym, ◌∙◌, arith, subst, get_or}
use Rattle.std.proofs.lemmas.List.Elements.{All-rest, All-same}
use Rattle.std.specs.List.{AllZip}
use Rattle.std.specs.Arc.{arc_value}
use Rattle.rw_pool.specs.Notes.{IsAsked}
use Rattle.rw_pool.proofs.Zipped.{walk_on, walk_start, walked_all}
use Rattle.rw_pool.proofs.pool.submit_each.Goals as goal

pub loop-input-preserved : goal.loop-input-preserved
loop-input-preserved g c =
    let inv = c.loop-input.invariant in
    let next = c.in-Some.ensures.steps.0 in
    record {
      takes = All-rest (λ t. g.J.Job.Takes (arc_value c.args.job.now) t) _ _ _ next inv.takes;
      room = c.push_reserved.ensures.capacity ∙ inv.room;
      count = omega (arith, inv.count, ap length next, c.push_reserved.ensures.len);
      asked = walk_on (λ t a. IsAsked (arc_value c.args.job.now) t a.notes) _ _ _ _ _ _ _ inv.asked next c.push_reserved.ensures.items c.in_ok-answer.ensures.asked;
    }

pub loop-input-init : goal.loop-input-init
loop-input-init g c =
    let begin = c.into_iter-input-iterator.ensures.into_iter_gives.0 in
    record {
      takes = All-same (λ t. g.J.Job.Takes (arc_value c.args.job.now) t) _ _ begin c.requires.takes;
      room = omega (arith, c.in_ok-awaited.ensures.exact, c.len.ensures, c.args.inputs.ok.0, ap length begin);
      count = omega (arith, c.in_ok-awaited.ensures.len);
      asked = walk_start (λ t a. IsAsked (arc_value c.args.job.now) t a.notes) _ _ c.in_ok-awaited.ensures.items;
    }

pub submit-requires : goal.submit-requires
submit-requires g c =
    let next = c.in-Some.ensures.steps.0 in
    let input = c.in-Some.input in record {
      takes = subst (λ xs. g.J.Job.Takes (arc_value c.args.job.now) (get_or xs 0 input)) next (c.loop-input.invariant.takes 0 input (omega (arith, ap length next)));
    }

pub push_reserved-requires : goal.push_reserved-requires
push_reserved-requires g c = omega (arith, c.loop-input.invariant.room, c.loop-input.invariant.count, ap length c.in-Some.ensures.steps.0)

pub returns : goal.returns
returns g c =
    let rest = c.loop-input.input-iterator.rest in
    let each = walked_all (λ t a. IsAsked (arc_value c.args.job.now) t a.notes) _ _ c.loop-input.awaited.items c.loop-input.invariant.asked (sym rest.ok.0 ∙ c.in-None.ensures.steps.0) in
    record {
      asked = subst (λ xs. AllZip (λ t a. IsAsked (arc_value c.args.job.now) t a.notes) xs c.loop-input.awaited.items) c.into_iter-input-iterator.ensures.into_iter_gives.0 each;
    }
