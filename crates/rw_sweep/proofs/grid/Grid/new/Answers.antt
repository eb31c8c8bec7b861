use Rattle.std.proofs.Common.{sym, ◌∙◌}
use Rattle.std.proofs.lemmas.List.Elements.{All-same}
use Rattle.rw_sweep.specs.Grids.{IsInGridRanges}
use Rattle.rw_sweep.proofs.grid.Grid.new.Goals as goal

pub returns-clause-in_range : goal.returns-clause-in_range
returns-clause-in_range c =
    All-same IsInGridRanges _ _ (sym (c.as_slice.ensures.value ∙ c.in_ok-choices.ensures)) c.in_ok-points.ensures.in_range
