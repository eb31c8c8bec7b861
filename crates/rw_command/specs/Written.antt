-- What a command has written that runs a trace on one thread.
use Rattle.std.specs.Prelude.{◌≡◌, ◌⊎◌, Option, None, Some, codes}
use Rattle.clap.specs.Matches.{first_value, found_of, one_text}
use Rattle.clap.specs.declared.parser.matches.ArgMatches.{ArgMatches}
use Rattle.rw_trace.specs.Words.{Text}
use Rattle.rw_photo.specs.declared.config.Config.{Config}
use Rattle.rw_report.specs.declared.intervals.Outlook.{Outlook}
use Rattle.rw_trace.specs.Pieces.{Ahead}
use Rattle.rw_report.specs.Replay.{HasReported, HasStreamed, HasTold, HasToldOfRows}

-- the report of some trace, under some configuration
abbrev pub HasWrittenReport : Option Text → Option Text → Type 0
HasWrittenReport before after = (c : Config) × (bytes : Text) × HasReported c bytes before after

-- what some outlook asks for, of a trace in memory
abbrev pub HasWrittenOverTime : Option Text → Option Text → Type 0
HasWrittenOverTime before after =
    (c : Config) × (o : Outlook) × (bytes : Text) × HasTold c o bytes before after

-- the same, of a trace that was read as it was run, where a reader may know the bytes
abbrev pub HasWrittenStream : Option Text → Option Text → Type 0
HasWrittenStream before after =
    (c : Config) × (o : Outlook) × (known : Option Text) × HasStreamed c o known before after

-- the same, of all rows that a log had to give
abbrev pub HasWrittenOfLog : Option Text → Option Text → Type 0
HasWrittenOfLog before after =
    (c : Config) × (o : Outlook) × (ahead : Ahead) × HasToldOfRows c o ahead before after

-- one of the three, of a trace
abbrev pub HasWrittenOfTrace : Option Text → Option Text → Type 0
HasWrittenOfTrace before after =
    HasWrittenReport before after ⊎ HasWrittenOverTime before after ⊎ HasWrittenStream before after

-- one of these four
abbrev pub HasWrittenSome : Option Text → Option Text → Type 0
HasWrittenSome before after = HasWrittenOfTrace before after ⊎ HasWrittenOfLog before after

-- an option has no value
abbrev pub HasNoValue : ArgMatches → Text → Type 0
HasNoValue options name = first_value (found_of options) name ≡ None

-- a flag has none, or the one that says no
abbrev pub IsUnset : ArgMatches → Text → Type 0
IsUnset options name =
    (one_text (found_of options) name ≡ None)
    ⊎ (one_text (found_of options) name ≡ Some (codes "false"))

-- the report of the whole run is asked for as text, and nothing over time
abbrev pub AsksForReport : ArgMatches → Type 0
AsksForReport options =
    HasNoValue options (codes "warm-up") × HasNoValue options (codes "every")
    × HasNoValue options (codes "format")
