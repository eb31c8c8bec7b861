use Rattle.std.proofs.Common.{rules, ◌<◌, length, refl, sym, ap, ◌∙◌, arith}
use Rattle.std.specs.Prelude.{slice_set}
use Rattle.std.proofs.lemmas.List.{set-get_or}
use Rattle.rw_rounds.proofs.tournament.play.Goals as goal

pub winner_below-won-requires : goal.winner_below-won-requires
winner_below-won-requires g c = c.requires

pub bounds-nodes-node : goal.bounds-nodes-node
bounds-nodes-node g c = omega (arith, c.requires)

-- to put what stands there already changes nothing
pub returns-then-is_same-clause-won : goal.returns-then-is_same-clause-won
returns-then-is_same-clause-won g c =
    sym (set-get_or c.args.nodes.now c.args.node _)
    ∙ ap (slice_set c.args.nodes.now c.args.node) (c.is_same.ensures c.if-is_same.true ∙ c.winner_below-won.ensures)

pub returns-then-is_same-clause-same : goal.returns-then-is_same-clause-same
returns-then-is_same-clause-same g c = λ is. refl

pub bounds-nodes-node-2 : goal.bounds-nodes-node-2
bounds-nodes-node-2 g c = omega (arith, c.requires)

pub returns-clause-won : goal.returns-clause-won
returns-clause-won g c = ap (slice_set c.args.nodes.now c.args.node) c.winner_below-won.ensures

pub returns-clause-same : goal.returns-clause-same
returns-clause-same g c = λ is. cc

pub offset_bounds-nodes-node : goal.offset_bounds-nodes-node
offset_bounds-nodes-node g c = let within : c.args.node < length c.args.nodes.now = omega (arith, c.requires) in search rules

pub offset_bounds-nodes-node-2 : goal.offset_bounds-nodes-node-2
offset_bounds-nodes-node-2 g c = let within : c.args.node < length c.args.nodes.now = omega (arith, c.requires) in search rules
