-- What a sweep of a trace in memory has written, by what its outlook asks for.
use Rattle.std.specs.Prelude.{◌≡◌, ◌⊎◌, None, Option, MatchOption}
use Rattle.rw_trace.specs.Words.{Text}
use Rattle.rw_report.specs.declared.format.Format.TheVariants as format
use Rattle.rw_report.specs.declared.intervals.Outlook.{Outlook}
use Rattle.rw_report.specs.declared.sim_fault.SimFault.{SimFault}
use Rattle.rw_sweep.specs.declared.axes.Axes.{Axes}
use Rattle.rw_sweep.specs.declared.part.Part.{Part}
use Rattle.rw_sweep.specs.OverTime.{HasBegunOverTime, HasSweptFirstOverTime, HasSweptOverTime, IsOverTimeFault}
use Rattle.rw_sweep.specs.Parts.{HasSweptPart, HasSweptPartBeginning, HasSweptPartFirst, IsPartSweepFault}
use Rattle.rw_sweep.specs.Sweep.{HasSwept, HasSweptBeginning, HasSweptFirst, IsSweepFault}

-- ---- the counts of the whole run, of a grid or of a part of it
-- a finished sweep has written its table, between what the writer held before and what it holds after
abbrev pub HasSweptCounts : Axes → Option Part → Text → Option Text → Option Text → Type 0
HasSweptCounts a part bytes before after =
    MatchOption part (HasSwept a bytes before after)
    (λ p. HasSweptPart a p.index p.count bytes before after)

-- it has written the header and the lines of its first combinations, whole, and nothing more
abbrev pub HasSweptFirstCounts : Axes → Option Part → Text → Option Text → Option Text → Type 0
HasSweptFirstCounts a part bytes before after =
    MatchOption part (HasSweptFirst a bytes before after)
    (λ p. HasSweptPartFirst a p.index p.count bytes before after)

-- what went out, where the writer cut it off, is a beginning of that
abbrev pub HasBegunCounts : Axes → Option Part → Text → Option Text → Option Text → Type 0
HasBegunCounts a part bytes before after =
    MatchOption part (HasSweptBeginning a bytes before after)
    (λ p. HasSweptPartBeginning a p.index p.count bytes before after)

-- why the table is not written; want of memory may come anywhere
abbrev pub IsCountsFault : Axes → Option Part → Text → SimFault → Type 0
IsCountsFault a part bytes e =
    MatchOption part (IsSweepFault a bytes e) (λ p. IsPartSweepFault a p.index p.count bytes e)

-- ---- what any outlook asks for
-- no more is asked for than the counts of the whole run, as text
abbrev pub AsksForCounts : Outlook → Type 0
AsksForCounts o = (o.warm_up ≡ None) × (o.every ≡ None) × (o.format ≡ format.Text)

-- the one where no more is asked for, and else the other
abbrev pub ByOutlook : Outlook → Type 0 → Type 0 → Type 0
ByOutlook o Plain Other = (AsksForCounts o × Plain) ⊎ ((AsksForCounts o → ⊥) × Other)

-- a finished sweep has written its table
abbrev pub HasSweptUnder : Axes → Option Part → Outlook → Text → Option Text → Option Text → Type 0
HasSweptUnder a part o bytes before after =
    ByOutlook o (HasSweptCounts a part bytes before after)
    (HasSweptOverTime a part o bytes before after)

-- it has written the header and what is told of its first combinations, whole, and nothing more
abbrev pub HasSweptFirstUnder : Axes → Option Part → Outlook → Text → Option Text → Option Text
    → Type 0
HasSweptFirstUnder a part o bytes before after =
    ByOutlook o (HasSweptFirstCounts a part bytes before after)
    (HasSweptFirstOverTime a part o bytes before after)

-- what went out, where the writer cut it off, is a beginning of that
abbrev pub HasBegunUnder : Axes → Option Part → Outlook → Text → Option Text → Option Text → Type 0
HasBegunUnder a part o bytes before after =
    ByOutlook o (HasBegunCounts a part bytes before after)
    (HasBegunOverTime a part o bytes before after)

-- why the table is not written
abbrev pub IsFaultUnder : Axes → Option Part → Outlook → Text → SimFault → Type 0
IsFaultUnder a part o bytes e =
    ByOutlook o (IsCountsFault a part bytes e) (IsOverTimeFault a part o bytes e)
