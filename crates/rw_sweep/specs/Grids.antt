-- The configurations of a grid.
use Rattle.std.specs.Prelude.{◌≡◌, List, [], ◌∷◌, map, min}
use Rattle.std.specs.List.{flat_map}
use Rattle.rw_numbers.specs.Words.{Count, Size}
use Rattle.rw_vt.specs.Words.{Time}
use Rattle.rw_blocks.specs.State.{IsShape, shape_state}
use Rattle.rw_photo.specs.Limits.{most_edges}
use Rattle.rw_photo.specs.Ranges.{IsConfig}
use Rattle.rw_photo.specs.declared.config.Config.{Config}
use Rattle.rw_ripq.specs.declared.Policy.{Policy}
use Rattle.rw_sweep.specs.declared.choice.Choice.{Choice}
use Rattle.rw_sweep.specs.declared.axes.Axes.{Axes}

-- what is made of each element, joined in order
abbrev pub along : {A B : Type 0} → List A → (A → List B) → List B
along xs made = flat_map made xs

abbrev pub choice_of : Policy → Count → Size → Count → Count → Count → Count → Time → Time → Time
    → Choice
choice_of policy sections block edge_blocks origin_blocks edges origins up down back =
    record {
      policy = policy;
      sections = sections;
      block = block;
      edge_blocks = edge_blocks;
      origin_blocks = origin_blocks;
      edges = edges;
      origins = origins;
      up = up;
      down = down;
      back = back;
    }

-- every choice of one value from each list: the policies change slowest, then the sections, the block, the blocks of an
-- edge, the blocks of an origin, the edges, the origins, and the delays up, down, and back fastest
abbrev pub combinations : Axes → List Choice
combinations a =
    along a.policies.items (λ policy.
    along a.sections.items (λ sections.
    along a.blocks.items (λ block.
    along a.edge_blocks.items (λ edge_blocks.
    along a.origin_blocks.items (λ origin_blocks.
    along a.edges.items (λ edges.
    along a.origins.items (λ origins.
    along a.up.items (λ up.
    along a.down.items (λ down.
    map (λ back.
    choice_of policy sections block edge_blocks origin_blocks edges origins up down back)
    a.back.items)))))))))

-- the least of some numbers and one more
abbrev pub least_of : Count → List Count → Count
least_of most [] = most
least_of most (n ∷ ns) = min n (least_of most ns)

-- the fewest edges of a configuration; of none, the most that one can have
abbrev pub least_edges : Axes → Count
least_edges a = least_of most_edges a.edges.items

-- a choice makes a configuration: its counts and delays are in their ranges, and so are both shapes
pub record IsInGridRanges (x : Choice) : Type 0 where
  pub counts : IsConfig x.edges x.origins x.up x.down x.back
  pub edge_shape : IsShape x.sections x.block x.edge_blocks
  pub origin_shape : IsShape x.sections x.block x.origin_blocks

-- the configuration of a choice; whether purges reclaim is the same of all
pub record IsConfigOf (a : Axes) (x : Choice) (c : Config) : Type 0 where
  pub edges : c.edges ≡ x.edges
  pub origins : c.origins ≡ x.origins
  pub policy : c.policy ≡ x.policy
  pub edge_shape : c.edge_shape ≡ shape_state x.sections x.block x.edge_blocks
  pub origin_shape : c.origin_shape ≡ shape_state x.sections x.block x.origin_blocks
  pub up : c.up ≡ x.up
  pub down : c.down ≡ x.down
  pub back : c.back ≡ x.back
  pub reclaim : c.reclaim ≡ a.reclaim
