use Rattle.std.proofs.Common.{sym, ap, ◌∙◌}
use Rattle.rw_blocks.specs.declared.Kind.TheVariants.{Device}
use Rattle.rw_blocks.specs.State.{QueueState}
use Rattle.rw_blocks.specs.Index.{bytes_of, home_of}
use Rattle.rw_blocks.proofs.Kept.{bytes_held-is}
use Rattle.rw_blocks.proofs.queue.Queue.home_bytes.Goals as goal

pub returns : goal.returns
returns c = c.home_bytes.ensures ∙ (ap (λ (q : QueueState). bytes_of home_of c.args.serial q.rows) c.self.view_is ∙ sym (bytes_held-is Device c.args.self.now c.args.serial))
