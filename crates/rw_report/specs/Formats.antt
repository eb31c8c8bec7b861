-- How what is told of a run is written: tables of caches, and the lines of a table as JSON objects.
use Rattle.std.specs.Prelude.{ℕ, not, ◌==◌, if◌then◌else◌, List, ◌++◌, codes, filter, length, map, slice_index}
use Rattle.std.specs.Char.{is_ascii_digit}
use Rattle.std.specs.List.{before_first, flat_map, join_with_byte, slice_split, zip}
use Rattle.rw_vt.specs.Words.{Process}
use Rattle.rw_vt.specs.System.{map_from, flatten}
use Rattle.rw_trace.specs.Words.{Text}
use Rattle.rw_photo.specs.declared.config.Config.{Config}
use Rattle.rw_photo.specs.declared.counters.Counters.{Counters}
use Rattle.rw_photo.specs.Cache.{is_edge}
use Rattle.rw_report.specs.declared.columns.Caches.TheVariants.{Edges, Origins, All}
use Rattle.rw_report.specs.declared.columns.Measured.{Measured}
use Rattle.rw_report.specs.declared.sums.Sums.{Sums}
use Rattle.rw_report.specs.Columns.{counts_names, measured_columns, those_of}
use Rattle.rw_report.specs.Report.{name_of, totals}
use Rattle.rw_report.specs.Sums.{edges_measured, origins_measured, sums_line}

-- ---- a table of caches
-- the names of the columns
abbrev pub caches_header : Text
caches_header = codes "cache," ++ counts_names ++ codes "\n"

-- what is measured of the cache of process p
abbrev pub measured_at : Config → Process → Counters → Measured
measured_at c p k = if is_edge c p then edges_measured c 1 k else origins_measured c 1 k

-- the line of the cache of process p
abbrev pub cache_line : Config → Process → Counters → Text
cache_line c p k = name_of c p ++ measured_columns k (measured_at c p k) ++ codes "\n"

-- a line for each of these caches, of which the first has this number
abbrev pub each_line : Config → Process → List Counters → Text
each_line c p ks = flatten (map_from p (cache_line c) ks)

-- what the edges, the origins and all caches have counted together
abbrev pub sums_of : Config → List Counters → Sums
sums_of c ks =
    record {
      edges = totals (those_of c Edges ks);
      origins = totals (those_of c Origins ks);
      all = totals (those_of c All ks);
    }

-- the lines of the edges, of the origins, and of all caches
abbrev pub sums_lines : Config → Sums → Text
sums_lines c s = sums_line c s Edges ++ sums_line c s Origins ++ sums_line c s All

-- a line for each cache, the edges before the origins, and for the edges, the origins and all caches together
abbrev pub caches_lines : Config → List Counters → Text
caches_lines c ks = each_line c 0 ks ++ sums_lines c (sums_of c ks)

-- ---- JSON Lines
-- the byte between two fields
abbrev pub comma : ℕ
comma = 44

-- the byte at the end of a line
abbrev pub newline : ℕ
newline = 10

-- the fields of a line without its end: what stands between its commas
abbrev pub fields_of : Text → List Text
fields_of line = slice_split (λ b. b == comma) line

-- what stands before the first newline of a text, or all of it where there is none
abbrev pub first_line : Text → Text
first_line text = before_first (λ b. b == newline) text

-- the lines of a text without their ends; none is empty
abbrev pub lines_in : Text → List Text
lines_in text = filter (λ line. not (length line == 0)) (slice_split (λ b. b == newline) text)

abbrev pub quoted : Text → Text
quoted text = codes "\"" ++ text ++ codes "\""

-- a field as a JSON value: nothing of an empty one; a number, which begins with a digit, as it is; any other in quotes
abbrev pub json_value : Text → Text
json_value field =
    if length field == 0 then codes "null"
    else if is_ascii_digit (slice_index field 0) then field
    else quoted field

-- a name and a field
abbrev pub json_member : Text × Text → Text
json_member m = quoted m.0 ++ codes ":" ++ json_value m.1

-- the object of a line: each of its fields behind the name of its column
abbrev pub json_object : Text → Text → Text
json_object names line =
    codes "{"
    ++ join_with_byte comma (map json_member (zip (fields_of names) (fields_of line)))
    ++ codes "}\n"

-- the objects of some lines, one on each line, with the names of a header
abbrev pub json_lines : Text → Text → Text
json_lines header lines = flat_map (json_object (first_line header)) (lines_in lines)
