use Rattle.std.proofs.Common.{ap, ◌∙◌, ℕ, max}
use Rattle.rw_blocks.specs.declared.Kind.TheVariants.{Device}
use Rattle.rw_blocks.specs.Sums.{bytes_held}
use Rattle.rw_blocks.proofs.Fills.{fill-of, fill-active}
use Rattle.rw_blocks.proofs.Greater.{fill-greater}
use Rattle.rw_blocks.proofs.queue.Queue.fill.Goals as goal

pub returns-clause-fill : goal.returns-clause-fill
returns-clause-fill c =
    c.max.ensures
    ∙ (ap (λ (n : ℕ). max n c.place_bytes.result) c.home_bytes.ensures
    ∙ (ap (λ (n : ℕ). max (bytes_held Device c.args.self.now c.args.serial) n) c.place_bytes.ensures
    ∙ fill-greater c.args.self.now c.args.serial c.requires))

pub returns-clause-of_kind : goal.returns-clause-of_kind
returns-clause-of_kind c = λ kind once. returns-clause-fill c ∙ fill-of c.args.self.now kind c.args.serial c.requires once

pub returns-clause-active : goal.returns-clause-active
returns-clause-active c = λ kind i lt is. returns-clause-fill c ∙ fill-active c.args.self.now kind i c.args.serial c.requires lt is
