-- The text of a report.
use Rattle.std.specs.Prelude.{◌-◌, ◌%◌, ◌^◌, nat_lt, if◌then◌else◌, List, ◌++◌, codes, decimal, sum_by}
use Rattle.rw_vt.specs.Words.{Count, Process}
use Rattle.rw_vt.specs.System.{map_from, flatten}
use Rattle.rw_trace.specs.Words.{Text}
use Rattle.rw_photo.specs.declared.config.Config.{Config}
use Rattle.rw_photo.specs.declared.counters.Counters.{Counters}
use Rattle.rw_photo.specs.Counts.{counters_by}

-- a name and the counts of a cache, as one line
abbrev pub line : Text → Counters → Text
line name k =
    name
    ++ codes " requests " ++ decimal k.requests
    ++ codes " hits " ++ decimal k.hits
    ++ codes " misses " ++ decimal k.misses
    ++ codes " coalesced " ++ decimal k.coalesced
    ++ codes " late " ++ decimal k.late
    ++ codes " bypassed " ++ decimal k.bypassed
    ++ codes " inserted " ++ decimal k.inserted
    ++ codes " evicted " ++ decimal k.evicted
    ++ codes " reinserted " ++ decimal k.reinserted
    ++ codes " promoted " ++ decimal k.promoted
    ++ codes " writes " ++ decimal k.writes
    ++ codes " splits " ++ decimal k.splits
    ++ codes " merges " ++ decimal k.merges
    ++ codes "\n"

-- edges and origins are numbered apart
abbrev pub name_of : Config → Process → Text
name_of c p =
    if nat_lt p c.edges
    then codes "edge " ++ decimal p
    else codes "origin " ++ decimal (p - c.edges)

-- one of the counts of all caches together, modulo 2 ^ 64
abbrev pub total_of : (Counters → Count) → List Counters → Count
total_of count ks = sum_by count ks % 2 ^ 64

-- the counts of all caches together
abbrev pub totals : List Counters → Counters
totals ks = counters_by (λ which. total_of which ks)

-- the lines of these caches, of which the first has this number
abbrev pub cache_lines : Config → Process → List Counters → Text
cache_lines c p ks = flatten (map_from p (λ q k. line (name_of c q) k) ks)

-- a line for each edge, for each origin, and for all together
abbrev pub report_text : Config → List Counters → Text
report_text c ks = cache_lines c 0 ks ++ line (codes "total") (totals ks)
