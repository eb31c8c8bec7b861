use Rattle.std.proofs.Common.{◌≡◌, ◌++◌, take}
use Rattle.std.specs.List.{flat_map}
use Rattle.rw_sweep.specs.Lists.{list_header, listed_line}
use Rattle.rw_sweep.specs.Parts.{dealt}
use Rattle.rw_sweep.proofs.listing.list.Given as goal

abbrev pub invariant-loop-place : goal.invariant-loop-place
invariant-loop-place l = l.text.items ≡ list_header ++ flat_map (λ at. listed_line (at.0, at.1.choice)) (dealt l.part.index l.part.count (take l.place l.point-items))
