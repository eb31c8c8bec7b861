use Rattle.std.proofs.Common.{◌∙◌, sym}
use Rattle.rw_ripq.proofs.Moves.{cleared-parts, cleared-then, cleared-else}
use Rattle.rw_ripq.proofs.sealed.clear.Goals as goal

pub take_out-requires-clause-sealed : goal.take_out-requires-clause-sealed
take_out-requires-clause-sealed g c =
    (cleared-parts c.args.queue.now c.args.block c.requires (sym c.is_emptied.ensures ∙ c.if-is_emptied.true)).0

pub take_out-requires-clause-free : goal.take_out-requires-clause-free
take_out-requires-clause-free g c =
    (cleared-parts c.args.queue.now c.args.block c.requires (sym c.is_emptied.ensures ∙ c.if-is_emptied.true)).1

pub returns-in_ok-take_out-clause-effect : goal.returns-in_ok-take_out-clause-effect
returns-in_ok-take_out-clause-effect g c =
    c.in_ok-take_out.ensures.effect ∙ cleared-then c.args.queue.now c.args.block (sym c.is_emptied.ensures ∙ c.if-is_emptied.true)

pub returns-else-is_emptied-clause-effect : goal.returns-else-is_emptied-clause-effect
returns-else-is_emptied-clause-effect g c =
    cleared-else c.args.queue.now c.args.block (sym c.is_emptied.ensures ∙ c.if-is_emptied.false)
