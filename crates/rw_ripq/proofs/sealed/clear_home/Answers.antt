use Rattle.std.proofs.Common.{◌∙◌, sym}
use Rattle.rw_ripq.proofs.Abandoned.{abandoned-there, abandoned-free, abandoned-then, abandoned-else}
use Rattle.rw_ripq.proofs.sealed.clear_home.Goals as goal

pub take_out-requires-clause-sealed : goal.take_out-requires-clause-sealed
take_out-requires-clause-sealed g c = abandoned-there c.args.queue.now c.args.block (sym c.is_abandoned.ensures ∙ c.if-is_abandoned.true)

pub take_out-requires-clause-free : goal.take_out-requires-clause-free
take_out-requires-clause-free g c =
    abandoned-free c.args.queue.now c.args.block c.requires (sym c.is_abandoned.ensures ∙ c.if-is_abandoned.true)

pub returns-in_ok-take_out-clause-effect : goal.returns-in_ok-take_out-clause-effect
returns-in_ok-take_out-clause-effect g c =
    c.in_ok-take_out.ensures.effect ∙ abandoned-then c.args.queue.now c.args.block (sym c.is_abandoned.ensures ∙ c.if-is_abandoned.true)

pub returns-else-is_abandoned-clause-effect : goal.returns-else-is_abandoned-clause-effect
returns-else-is_abandoned-clause-effect g c =
    abandoned-else c.args.queue.now c.args.block (sym c.is_abandoned.ensures ∙ c.if-is_abandoned.false)
