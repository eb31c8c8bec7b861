use Rattle.std.proofs.Common.{sym, ap, ◌∙◌}
use Rattle.rw_blocks.specs.declared.Kind.TheVariants.{Virtual}
use Rattle.rw_blocks.specs.State.{QueueState}
use Rattle.rw_blocks.specs.Index.{bytes_of, place_of}
use Rattle.rw_blocks.proofs.Kept.{bytes_held-is}
use Rattle.rw_blocks.proofs.queue.Queue.place_bytes.Goals as goal

pub returns : goal.returns
returns c = c.place_bytes.ensures ∙ (ap (λ (q : QueueState). bytes_of place_of c.args.serial q.rows) c.self.view_is ∙ sym (bytes_held-is Virtual c.args.self.now c.args.serial))
