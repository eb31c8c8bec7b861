use Rattle.std.proofs.Common.{refl}
use Rattle.std.specs.List.Sorted.{IsStrictlySortedBy}
use Rattle.std.proofs.lemmas.List.Elements.{All-nil}
use Rattle.rw_blocks.specs.Index.{home_of, place_of}
use Rattle.rw_blocks.specs.Lists.{list_in}
use Rattle.rw_blocks.proofs.Covering.{covers-none}
use Rattle.rw_blocks.proofs.rows.Rows.new.Goals as goal

pub invariant_of-result : goal.invariant_of-result
unfolding IsStrictlySortedBy
invariant_of-result c =
    rw c.new.ensures
    (record {
      homed = record { bytes = c.new-2.ensures.homed; covers = λ b. covers-none home_of b (list_in c.new-2.result b) };
      placed = record { bytes = c.new-2.ensures.placed; covers = λ b. covers-none place_of b (list_in c.new-2.result b) };
      whole = refl;
      ordered = tt;
      sized = All-nil _;
    })
