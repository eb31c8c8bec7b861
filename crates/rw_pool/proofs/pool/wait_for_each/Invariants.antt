use Rattle.std.proofs.Common.{◌≡◌, ◌+◌, ◌≤◌, length, vec_len, vec_capacity}
use Rattle.rw_pool.specs.Notes.{may_answer_with}
use Rattle.rw_pool.specs.declared.note.Note.TheVariants.{Done}
use Rattle.rw_pool.proofs.Zipped.{IsWalkedWith}
use Rattle.rw_pool.proofs.pool.wait_for_each.Given as goal

abbrev pub invariant-loop-answer : goal.invariant-loop-answer
invariant-loop-answer g l =
    let awaited = l.initial.answer-iterator.rest.items in
    let rest = l.answer-iterator.rest.items in record {
      room : length awaited + 1 ≤ vec_capacity l.results;
      count : vec_len l.results + length rest ≡ length awaited;
      answered : IsWalkedWith (λ a r. may_answer_with g.J.Job.Gives a.notes (Done r)) awaited rest l.results.items;
    }
