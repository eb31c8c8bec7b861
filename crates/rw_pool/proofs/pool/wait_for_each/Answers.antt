use Rattle.std.proofs.Common.{length, ap, sym, subst, ◌∙◌, arith}
use Rattle.std.specs.List.{AllZip}
use Rattle.rw_pool.specs.Notes.{may_answer_with}
use Rattle.rw_pool.specs.declared.note.Note.TheVariants.{Done}
use Rattle.rw_pool.proofs.Zipped.{walk_on, walk_start, walked_all}
use Rattle.rw_pool.proofs.pool.wait_for_each.Goals as goal

pub loop-answer-preserved : goal.loop-answer-preserved
loop-answer-preserved g c =
    let inv = c.loop-answer.invariant in
    let next = c.in-Some.ensures.steps.0 in
    record {
      room = omega (arith, inv.room, c.push_reserved.ensures.capacity);
      count = omega (arith, inv.count, ap length next, c.push_reserved.ensures.len);
      answered = walk_on (λ a r. may_answer_with g.J.Job.Gives a.notes (Done r)) _ _ _ _ _ _ _ inv.answered next c.push_reserved.ensures.items c.in-Some-wait.ensures.answer;
    }

pub loop-answer-init : goal.loop-answer-init
loop-answer-init g c = record {
  room = omega (arith, c.in_ok-results.ensures.exact, c.len.ensures, c.args.awaited.ok.0, ap length c.into_iter-answer-iterator.ensures.into_iter_gives.0);
  count = omega (arith, c.in_ok-results.ensures.len);
  answered = walk_start (λ a r. may_answer_with g.J.Job.Gives a.notes (Done r)) _ _ c.in_ok-results.ensures.items;
}

pub push_reserved-requires : goal.push_reserved-requires
push_reserved-requires g c = omega (arith, c.loop-answer.invariant.room, c.loop-answer.invariant.count, ap length c.in-Some.ensures.steps.0)

pub returns : goal.returns
returns g c =
    let inv = c.loop-answer.invariant in
    let rest = c.loop-answer.answer-iterator.rest in
    let results = c.loop-answer.results.items in
    let none = sym rest.ok.0 ∙ c.in-None.ensures.steps.0 in
    let each = walked_all (λ a r. may_answer_with g.J.Job.Gives a.notes (Done r)) _ _ results inv.answered none in
    record {
      answers = subst (λ xs. AllZip (λ a r. may_answer_with g.J.Job.Gives a.notes (Done r)) xs results) c.into_iter-answer-iterator.ensures.into_iter_gives.0 each;
      room = omega (arith, inv.room, inv.count, none, ap length c.into_iter-answer-iterator.ensures.into_iter_gives.0);
    }
