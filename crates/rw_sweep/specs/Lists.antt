-- The list of a sweep's configurations, each beside its place.
use Rattle.std.specs.Prelude.{◌++◌, codes}
use Rattle.std.specs.List.{flat_map}
use Rattle.rw_vt.specs.Words.{Count, Position}
use Rattle.rw_trace.specs.Words.{Text}
use Rattle.rw_sweep.specs.declared.axes.Axes.{Axes}
use Rattle.rw_sweep.specs.declared.choice.Choice.{Choice}
use Rattle.rw_sweep.specs.Grids.{combinations}
use Rattle.rw_sweep.specs.Parts.{dealt, placed_line}
use Rattle.rw_sweep.specs.Table.{choice_columns, choice_names}

-- the names of the list's columns
abbrev pub list_header : Text
list_header = codes "place," ++ choice_names ++ codes "\n"

-- the line of the configuration at a place
abbrev pub listed_line : Position × Choice → Text
listed_line at = placed_line at.0 (choice_columns at.1 ++ codes "\n")

-- the list of the configurations of a part, in order
abbrev pub list_of_part : Axes → Position → Count → Text
list_of_part a index count =
    list_header ++ flat_map listed_line (dealt index count (combinations a))
