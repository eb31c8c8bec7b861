-- What is told of a run: a table with three lines for each interval between two marks; or what was counted in all, or
-- from a time on, as a report or a table.
use Rattle.std.specs.Prelude.{◌≡◌, ◌≤◌, ◌<◌, List, [], ◌∷◌, ◌++◌, Option, Some, None, codes, decimal, fold, map, unwrap_or}
use Rattle.rw_vt.specs.Limits.{end_of_time}
use Rattle.rw_vt.specs.System.{IsOutcome}
use Rattle.rw_vt.specs.Words.{Time}
use Rattle.rw_vt.specs.declared.event.Event.{Event}
use Rattle.rw_trace.specs.Words.{Text}
use Rattle.rw_trace.specs.declared.Row.{Row}
use Rattle.rw_photo.specs.declared.config.Config.{Config}
use Rattle.rw_photo.specs.declared.counters.Counters.{Counters}
use Rattle.rw_photo.specs.declared.body.Body.{Body}
use Rattle.rw_photo.specs.Cache.{Cache}
use Rattle.rw_photo.specs.Counts.{difference_of, no_counts, sum_of}
use Rattle.rw_photo.specs.Simulation.{simulation}
use Rattle.rw_report.specs.declared.columns.Caches.{Caches}
use Rattle.rw_report.specs.declared.columns.Caches.TheVariants.{Edges, Origins, All}
use Rattle.rw_report.specs.declared.format.Format.{Format}
use Rattle.rw_report.specs.declared.format.Format.TheVariants as format
use Rattle.rw_report.specs.declared.intervals.Outlook.{Outlook}
use Rattle.rw_report.specs.declared.moments.Moment.{Moment}
use Rattle.rw_report.specs.declared.sums.Sums.{Sums}
use Rattle.rw_report.specs.Columns.{counts_names, those_of}
use Rattle.rw_report.specs.Formats.{caches_header, caches_lines, json_lines}
use Rattle.rw_report.specs.History.{IsHistory}
use Rattle.rw_report.specs.Report.{report_text, totals}
use Rattle.rw_report.specs.Sums.{sums_line}

-- what these caches have counted together from one moment to a later one
abbrev pub counted_between : Config → Caches → Moment → Moment → Counters
counted_between c caches a b =
    difference_of (totals (those_of c caches b.counters.items))
    (totals (those_of c caches a.counters.items))

-- the same of the edges, of the origins, and of all
abbrev pub sums_between : Config → Moment → Moment → Sums
sums_between c a b =
    record {
      edges = counted_between c Edges a b;
      origins = counted_between c Origins a b;
      all = counted_between c All a b;
    }

-- what stands before the caches in each line of an interval, behind a text
abbrev pub interval_start : Text → Moment → Moment → Text
interval_start before a b = before ++ decimal a.time ++ codes "," ++ decimal b.time ++ codes ","

-- the line of an interval for these caches, behind a text
abbrev pub interval_line : Config → Text → Moment → Moment → Caches → Text
interval_line c before a b caches =
    interval_start before a b ++ sums_line c (sums_between c a b) caches

-- the three lines of an interval, each behind a text
abbrev pub interval_lines : Config → Text → Moment → Moment → Text
interval_lines c before a b =
    interval_line c before a b Edges
    ++ interval_line c before a b Origins
    ++ interval_line c before a b All

-- the lines from a moment on, from each moment to the next one
abbrev pub lines_from : Config → Text → Moment → List Moment → Text
lines_from c before a [] = []
lines_from c before a (b ∷ ms) = interval_lines c before a b ++ lines_from c before b ms

abbrev pub lines_of : Config → Text → List Moment → Text
lines_of c before [] = []
lines_of c before (a ∷ ms) = lines_from c before a ms

-- the names of the columns
abbrev pub intervals_header : Text
intervals_header = codes "from,to,caches," ++ counts_names ++ codes "\n"

-- the counters of each cache by the first moment
abbrev pub first_counters : List Moment → List Counters
first_counters [] = []
first_counters (m ∷ ms) = m.counters.items

-- the counters of each cache by the last moment
abbrev pub last_counters : List Moment → List Counters
last_counters [] = []
last_counters (m ∷ []) = m.counters.items
last_counters (m ∷ n ∷ ms) = last_counters (n ∷ ms)

-- what each cache has counted from one time to another
abbrev pub counted_by_each : List Counters → List Counters → List Counters
counted_by_each [] later = []
counted_by_each (k ∷ ks) [] = []
counted_by_each (k ∷ ks) (l ∷ ls) = difference_of l k ∷ counted_by_each ks ls

-- what each cache has counted by the last moment, from the first one on where the caches warm up till then
abbrev pub counted_from : Option Time → List Moment → List Counters
counted_from None ms = last_counters ms
counted_from (Some start) ms = counted_by_each (first_counters ms) (last_counters ms)

-- the names of the columns of a table: of intervals where they are asked for, and else of caches
abbrev pub table_header : Option Time → Text
table_header None = caches_header
table_header (Some every) = intervals_header

-- its lines
abbrev pub table_lines : Config → Option Time → Option Time → List Moment → Text
table_lines c warm_up None ms = caches_lines c (counted_from warm_up ms)
table_lines c warm_up (Some every) ms = lines_of c [] ms

-- what is told in a format, where the caches warm up or not, and where intervals are asked for or not: as text the
-- report, or the table of intervals; as CSV the table; as JSON its lines as objects
abbrev pub told : Config → Format → Option Time → Option Time → List Moment → Text
told c format.Text warm_up None ms = report_text c (counted_from warm_up ms)
told c format.Text warm_up (Some every) ms =
    table_header (Some every) ++ table_lines c warm_up (Some every) ms
told c format.Csv warm_up every ms = table_header every ++ table_lines c warm_up every ms
told c format.Json warm_up every ms =
    json_lines (table_header every) (table_lines c warm_up every ms)

-- what an outlook asks to be told of the moments of a run
abbrev pub told_of : Config → Outlook → List Moment → Text
told_of c o ms = told c o.format o.warm_up o.every ms

-- the numbers of an outlook are in their ranges
pub record AreMarks (o : Outlook) : Type 0 where
  pub early : unwrap_or o.warm_up 0 ≤ end_of_time
  pub some : 0 < unwrap_or o.every end_of_time
  pub few : unwrap_or o.every end_of_time ≤ end_of_time

-- what these caches have counted in each interval from a moment on
abbrev pub intervals_from : Config → Caches → Moment → List Moment → List Counters
intervals_from c caches a [] = []
intervals_from c caches a (b ∷ ms) = counted_between c caches a b ∷ intervals_from c caches b ms

-- the last moment
abbrev pub last_moment : Moment → List Moment → Moment
last_moment a [] = a
last_moment a (b ∷ ms) = last_moment b ms

-- what is counted in the intervals adds up to what is counted from the first moment to the last
abbrev pub AddUp : Config → List Moment → Type 0
AddUp c [] = Unit {0}
AddUp c (m ∷ ms) =
    (caches : Caches)
    → fold sum_of no_counts (intervals_from c caches m ms)
    ≡ counted_between c caches m (last_moment m ms)

-- the report of a run of these rows: executing their requests, and all that follows from them, in order of time leaves
-- the caches in these states, and the text tells what they have counted
pub record ReportsRun (c : Config) (rows : List Row) (text : Text) : Type 0 where
  pub journals : List (List (Event Body))
  pub states : List Cache
  pub outcome : IsOutcome (simulation c rows) end_of_time journals states
  pub told : text ≡ report_text c (map (λ s. s.counters) states)

-- the text tells of a run of these rows what an outlook asks for; where it asks for nothing else, the report as text;
-- and the intervals add up
pub record TellsOf (c : Config) (o : Outlook) (rows : List Row) (text : Text) : Type 0 where
  pub history : List Moment
  pub is : IsHistory (simulation c rows) (unwrap_or o.warm_up 0) (unwrap_or o.every end_of_time)
      history
  pub told : text ≡ told_of c o history
  pub report : o.warm_up ≡ None → o.every ≡ None → o.format ≡ format.Text
      → ReportsRun c rows text
  pub add_up : AddUp c history
