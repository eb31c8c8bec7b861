use Rattle.rw_blocks.specs.Index.{home_of, place_of}
use Rattle.rw_blocks.specs.Lists.{homed_in, placed_in}
use Rattle.rw_blocks.proofs.Follows.{Follows-covered}
use Rattle.rw_blocks.proofs.rows.Rows.trim.Goals as goal

pub invariant_of-self : goal.invariant_of-self
invariant_of-self c =
    record {
      homed = Follows-covered home_of c.self.inside.rows (homed_in c.self.inside.lists) (homed_in c.trim.new.self) c.self.inside.lists c.trim.new.self c.self.invariant.homed c.trim.ensures.homed c.trim.ensures.homes_list;
      placed = Follows-covered place_of c.self.inside.rows (placed_in c.self.inside.lists) (placed_in c.trim.new.self) c.self.inside.lists c.trim.new.self c.self.invariant.placed c.trim.ensures.placed c.trim.ensures.places_list;
      whole = c.self.invariant.whole;
      ordered = c.self.invariant.ordered;
      sized = c.self.invariant.sized;
    }
