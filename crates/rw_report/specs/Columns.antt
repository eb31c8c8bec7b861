-- The columns that tables have in common: what some caches have counted, ratios, bytes, and requests to the backend.
use Rattle.std.specs.Prelude.{ℕ, ◌*◌, ◌/◌, ◌%◌, ◌+◌, ◌==◌, if◌then◌else◌, List, [], ◌∷◌, ◌++◌, codes, decimal, drop, map, take}
use Rattle.std.specs.List.{flat_map}
use Rattle.rw_vt.specs.Words.{Count}
use Rattle.rw_trace.specs.Words.{Text}
use Rattle.rw_photo.specs.declared.config.Config.{Config}
use Rattle.rw_photo.specs.declared.counters.Counters.{Counters}
use Rattle.rw_report.specs.declared.columns.Caches.{Caches}
use Rattle.rw_report.specs.declared.columns.Caches.TheVariants.{Edges, Origins, All}
use Rattle.rw_report.specs.declared.columns.Measured.{Measured}

-- the names of these columns, from the counts on
abbrev pub counts_names : Text
counts_names =
    codes "requests,hits,misses,coalesced,late,bypassed,inserted,evicted,reinserted,promoted,writes,splits,merges,hit_bytes,request_bytes,hit_ratio,byte_hit_ratio,flash_bytes,written_bytes,backend_requests,backend_bytes,inserted_bytes"

abbrev pub caches_name : Caches → Text
caches_name Edges = codes "edges"
caches_name Origins = codes "origins"
caches_name All = codes "all"

-- each number behind a comma
abbrev pub columns_of : List ℕ → Text
columns_of ns = flat_map (λ n. codes "," ++ decimal n) ns

-- how many millionths a part is of the whole, rounded down; none of nothing
abbrev pub millionths : Count → Count → ℕ
millionths part whole = if whole == 0 then 0 else part * 1000000 / whole

-- the last six digits of a number
abbrev pub six_digits : ℕ → Text
six_digits n = map (λ unit. 48 + n / unit % 10) (100000 ∷ 10000 ∷ 1000 ∷ 100 ∷ 10 ∷ 1 ∷ [])

-- so many millionths, with six decimals
abbrev pub with_decimals : ℕ → Text
with_decimals n = decimal (n / 1000000) ++ codes "." ++ six_digits n

-- which part of the whole, with six decimals, rounded down
abbrev pub ratio_text : Count → Count → Text
ratio_text part whole = with_decimals (millionths part whole)

-- of what is said of each cache, edges first, that of the edges, of the origins, or of all
abbrev pub those_of : {A : Type 0} → Config → Caches → List A → List A
those_of c Edges xs = take c.edges xs
those_of c Origins xs = drop c.edges xs
those_of c All xs = xs

-- the counts of a line, in the order of its columns
abbrev pub counts_of : Counters → List Count
counts_of k =
    k.requests ∷ k.hits ∷ k.misses ∷ k.coalesced ∷ k.late ∷ k.bypassed ∷ k.inserted ∷ k.evicted
    ∷ k.reinserted ∷ k.promoted ∷ k.writes ∷ k.splits ∷ k.merges ∷ k.hit_bytes ∷ k.request_bytes
    ∷ []

-- the columns of counts, of the two ratios, and of bytes and requests: what was counted, the bytes of the flash, those
-- written to it, how often the backend was asked and for how many bytes, and the bytes of the objects stored
abbrev pub counts_columns : Counters → ℕ → ℕ → Count → Count → Text
counts_columns k flash written asked fetched =
    columns_of (counts_of k)
    ++ codes "," ++ ratio_text k.hits k.requests
    ++ codes "," ++ ratio_text k.hit_bytes k.request_bytes
    ++ columns_of (flash ∷ written ∷ asked ∷ fetched ∷ k.inserted_bytes ∷ [])

-- the same columns, of caches of which this is measured
abbrev pub measured_columns : Counters → Measured → Text
measured_columns k m =
    counts_columns k m.flash_bytes m.written_bytes m.backend_requests m.backend_bytes
