use Rattle.std.proofs.Common.{◌∙◌, ap, nat_eq, length}
use Rattle.std.specs.Prelude.{not}
use Rattle.rw_blocks.specs.State.{QueueState}
use Rattle.rw_blocks.specs.Index.{objects_of, place_of}
use Rattle.rw_blocks.proofs.Sums.{objects-rows}
use Rattle.rw_blocks.proofs.queue.Queue.is_placed.Goals as goal

pub returns : goal.returns
returns c =
    c.is_placed.ensures
    ∙ (ap (λ (q : QueueState). not (nat_eq (length (objects_of place_of c.args.serial q.rows)) 0)) c.self.view_is
    ∙ ap (λ n. not (nat_eq n 0)) (objects-rows place_of c.args.serial c.args.self.now.rows))
