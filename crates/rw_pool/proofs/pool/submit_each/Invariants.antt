use Rattle.std.proofs.Common.{◌≡◌, ◌+◌, All, length, vec_len, vec_capacity}
use Rattle.std.specs.Arc.{arc_value}
use Rattle.rw_pool.specs.Notes.{IsAsked}
use Rattle.rw_pool.proofs.Zipped.{IsWalkedWith}
use Rattle.rw_pool.proofs.pool.submit_each.Given as goal

abbrev pub invariant-loop-input : goal.invariant-loop-input
invariant-loop-input g l =
    let inputs = l.initial.input-iterator.rest.items in
    let rest = l.input-iterator.rest.items in record {
      takes : All (λ t. g.J.Job.Takes (arc_value l.job) t) rest;
      room : vec_capacity l.awaited ≡ length inputs;
      count : vec_len l.awaited + length rest ≡ length inputs;
      asked : IsWalkedWith (λ t a. IsAsked (arc_value l.job) t a.notes) inputs rest l.awaited.items;
    }
