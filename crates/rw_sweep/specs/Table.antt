-- The text of a sweep: a header, and three lines for each configuration.
use Rattle.std.specs.Prelude.{ℕ, ◌+◌, ◌-◌, ◌*◌, ◌/◌, ◌^◌, ◌==◌, if◌then◌else◌, List, [], ◌∷◌, ◌++◌, Option, None, Some, codes, cond, decimal, min, unwrap_or}
use Rattle.rw_vt.specs.Words.{Count, Time}
use Rattle.rw_trace.specs.Words.{Text}
use Rattle.rw_photo.specs.declared.config.Config.{Config}
use Rattle.rw_photo.specs.declared.counters.Counters.{Counters}
use Rattle.rw_photo.specs.Counts.{minus}
use Rattle.rw_ripq.specs.declared.Policy.{Policy}
use Rattle.rw_ripq.specs.declared.Policy.TheVariants.{Off, Lru, Slru}
use Rattle.rw_report.specs.Report.{totals}
use Rattle.rw_sweep.specs.declared.choice.Choice.{Choice}
use Rattle.rw_sweep.specs.declared.facts.Facts.{Facts}
use Rattle.rw_sweep.specs.Facts.{span_from, span_of}
use Rattle.rw_report.specs.declared.columns.Caches.{Caches}
use Rattle.rw_report.specs.declared.columns.Measured.{Measured}
use Rattle.rw_report.specs.declared.columns.Caches.TheVariants.{Edges, Origins, All}
pub use Rattle.rw_report.specs.Columns.{caches_name, columns_of, counts_columns, counts_names, counts_of, measured_columns, those_of, with_decimals}

-- the names of the columns that say which configuration
abbrev pub choice_names : Text
choice_names = codes "policy,sections,block,edge_blocks,origin_blocks,edges,origins,up,down,back"

-- the names of the columns
abbrev pub header_line : Text
header_line =
    choice_names ++ codes ",caches," ++ counts_names
    ++ codes ",drive_writes_a_day,reclaim,warm_up,ticks_a_second,rows,span,digest\n"

-- a policy as the command line names it
abbrev pub policy_name : Policy → Text
policy_name Off = codes "off"
policy_name Lru = codes "lru"
policy_name (Slru levels) = codes "slru" ++ decimal levels.segments

-- the bytes of all sealed device blocks of these caches
abbrev pub flash_bytes : Config → Choice → Caches → ℕ
flash_bytes c x Edges = c.edges * x.edge_blocks * x.block
flash_bytes c x Origins = c.origins * x.origin_blocks * x.block
flash_bytes c x All = c.edges * x.edge_blocks * x.block + c.origins * x.origin_blocks * x.block

-- how often these caches asked the backend, from what the origins have counted: once for each miss at an origin
abbrev pub asked : Caches → Counters → Count
asked Edges origins = 0
asked Origins origins = origins.misses
asked All origins = origins.misses

-- the bytes that they had of it, modulo 2^64: those of each miss at an origin
abbrev pub fetched : Caches → Counters → ℕ
fetched Edges origins = 0
fetched Origins origins = minus origins.request_bytes origins.hit_bytes
fetched All origins = minus origins.request_bytes origins.hit_bytes

-- what is measured of these caches, which have counted so much together, the origins so much
abbrev pub measured : Config → Choice → Caches → Counters → Counters → Measured
measured c x caches k origins =
    record {
      flash_bytes = flash_bytes c x caches;
      written_bytes = k.writes * x.block;
      backend_requests = asked caches origins;
      backend_bytes = fetched caches origins;
    }

-- under what conditions was counted: how many ticks a second has, where that is known, from when on was counted, where
-- caches warmed up till then, and what trace
pub record Conditions : Type 0 where
  pub ticks_a_second : Option Count
  pub warm_up : Option Time
  pub facts : Facts

abbrev pub conditions : Option Count → Option Time → Facts → Conditions
conditions ticks_a_second warm_up facts =
    record { ticks_a_second = ticks_a_second; warm_up = warm_up; facts = facts }

-- for how many ticks was counted: from the earliest row, or from when on was counted, to the latest row
abbrev pub counted_span : Conditions → Time
counted_span n = span_from n.facts (unwrap_or n.warm_up 0)

-- how often a day caches write as many bytes as their flash has, in millionths, rounded down, if the ticks of a second
-- are known, and there are flash and time; the bytes written in 86400000000 seconds stop at 2^128 - 1
abbrev pub daily_writes : Option Count → Time → ℕ → ℕ → Option ℕ
daily_writes None span flash written = None
daily_writes (Some ticks) span flash written =
    if flash == 0 then None else if span == 0 then None
    else Some (min (written * (ticks * 86400000000)) (2 ^ 128 - 1) / flash / span)

-- so many millionths, where there are any
abbrev pub if_some : Option ℕ → Text
if_some None = []
if_some (Some millionths) = with_decimals millionths

-- the columns that say under what conditions was counted: how often a day the flash is written, whether purges reclaim,
-- from when on was counted, the ticks of a second, and of the trace its rows, its ticks and its digest; 0 stands for
-- what is not given
abbrev pub conditions_columns : Config → Conditions → Measured → Text
conditions_columns c n m =
    codes ","
    ++ if_some (daily_writes n.ticks_a_second (counted_span n) m.flash_bytes m.written_bytes)
    ++ columns_of (cond c.reclaim 1 0 ∷ unwrap_or n.warm_up 0 ∷ unwrap_or n.ticks_a_second 0
    ∷ n.facts.rows ∷ span_of n.facts ∷ n.facts.digest ∷ [])

-- the columns that say which configuration
abbrev pub choice_columns : Choice → Text
choice_columns x =
    policy_name x.policy
    ++ columns_of (x.sections ∷ x.block ∷ x.edge_blocks ∷ x.origin_blocks ∷ x.edges ∷ x.origins
    ∷ x.up ∷ x.down ∷ x.back ∷ [])

-- a configuration's line for these caches, from what they and the origins have counted together
abbrev pub line_with : Config → Choice → Conditions → Caches → Counters → Counters → Text
line_with c x n caches k origins =
    choice_columns x
    ++ codes "," ++ caches_name caches
    ++ measured_columns k (measured c x caches k origins)
    ++ conditions_columns c n (measured c x caches k origins)
    ++ codes "\n"

-- the same, from the counters of all the caches of the configuration
abbrev pub sweep_line : Config → Choice → Conditions → List Counters → Caches → Text
sweep_line c x n ks caches =
    line_with c x n caches (totals (those_of c caches ks)) (totals (those_of c Origins ks))

-- a configuration's three lines
abbrev pub sweep_lines : Config → Choice → Conditions → List Counters → List Text
sweep_lines c x n ks =
    sweep_line c x n ks Edges ∷ sweep_line c x n ks Origins ∷ sweep_line c x n ks All ∷ []
