-- How a list of choices is made, one axis after another.
use Rattle.std.specs.Prelude.{ℕ, List, map}
use Rattle.rw_ripq.specs.declared.Policy.{Policy}
use Rattle.rw_sweep.specs.declared.choice.Choice.{Choice}
use Rattle.rw_sweep.specs.declared.axes.Axis.{Axis}
use Rattle.rw_sweep.specs.declared.axes.Axis.TheVariants.{Sections, Block, EdgeBlocks, OriginBlocks, Edges, Origins, Up, Down, Back}
use Rattle.rw_sweep.specs.Grids.{along, choice_of}

-- a policy with nothing chosen yet
abbrev pub first_choice : Policy → Choice
first_choice policy = choice_of policy 0 0 0 0 0 0 0 0 0

-- a choice with another number at this axis
abbrev pub with_number : Axis → Choice → ℕ → Choice
with_number Sections x n = record x { sections = n }
with_number Block x n = record x { block = n }
with_number EdgeBlocks x n = record x { edge_blocks = n }
with_number OriginBlocks x n = record x { origin_blocks = n }
with_number Edges x n = record x { edges = n }
with_number Origins x n = record x { origins = n }
with_number Up x n = record x { up = n }
with_number Down x n = record x { down = n }
with_number Back x n = record x { back = n }

-- each choice with each of the numbers at this axis
abbrev pub widened : Axis → List ℕ → List Choice → List Choice
widened axis ns xs = along xs (λ x. map (with_number axis x) ns)
