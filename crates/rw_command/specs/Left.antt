-- What a command leaves behind that fails, but not by the writer.
use Rattle.std.specs.Prelude.{◌≡◌, ◌⊎◌, ℕ, Option}
use Rattle.rw_trace.specs.Words.{Text}
use Rattle.rw_import.specs.Streamed.{GainsNoTrace}
use Rattle.rw_report.specs.declared.intervals.Outlook.{Outlook}
use Rattle.rw_sweep.specs.declared.axes.Axes.{Axes}
use Rattle.rw_sweep.specs.declared.part.Part.{Part}
use Rattle.rw_sweep.specs.InMemory.{HasSweptFirstUnder}

-- the header of some sweep, or of a part of it, and what is told of its first combinations, whole, and nothing more
abbrev pub HasSweptSome : Option Text → Option Text → Type 0
HasSweptSome before after =
    (a : Axes) × (part : Option Part) × (o : Outlook) × (bytes : Text)
    × HasSweptFirstUnder a part o bytes before after

-- where memory was refused, or a cache is exhausted, these lines
abbrev pub LeavesLines : ℕ → Option Text → Option Text → Type 0
LeavesLines status before after = ((status ≡ 5) ⊎ (status ≡ 7)) × HasSweptSome before after

-- where a log was refused or cannot be read on, or memory was refused, a text that is no trace; it may be empty
abbrev pub LeavesNoTrace : ℕ → Option Text → Option Text → Type 0
LeavesNoTrace status before after =
    ((status ≡ 3) ⊎ (status ≡ 4) ⊎ (status ≡ 5)) × GainsNoTrace before after

-- what a command may have left that has written something: such lines, or such a text
abbrev pub LeavesSome : ℕ → Option Text → Option Text → Type 0
LeavesSome status before after = LeavesLines status before after ⊎ LeavesNoTrace status before after
