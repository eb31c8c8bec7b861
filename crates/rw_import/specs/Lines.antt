-- The lines of a trace, as they are written.
use Rattle.std.specs.Prelude.{◌++◌, ℕ, List, [], ◌∷◌, Bool, codes, if◌then◌else◌}
use Rattle.std.specs.Fmt.{decimal}
use Rattle.std.specs.List.{flat_map}
use Rattle.rw_trace.specs.Trace.{word_of}
use Rattle.rw_trace.specs.Words.{Text}
use Rattle.rw_trace.specs.declared.Row.{Row}

-- a number and the byte behind it
abbrev pub number_text : ℕ → ℕ → Text
number_text n end = decimal n ++ (end ∷ [])

-- the numbers of a row, with a comma behind each but the last, which has this byte
abbrev pub numbers_text : ℕ → Row → Text
numbers_text end row =
    number_text row.time 44 ++ number_text row.edge 44 ++ number_text row.object 44
    ++ number_text row.size end

-- the line of a row, with its kind or without
unfoldable pub row_line : Bool → Row → Text
row_line kinds row =
    if kinds then numbers_text 44 row ++ (word_of row.kind ++ (10 ∷ []))
    else numbers_text 10 row

-- the line of a header, with the kind or without
unfoldable pub trace_header : Bool → Text
trace_header kinds =
    if kinds then codes "time,edge,object,size,kind\n" else codes "time,edge,object,size\n"

-- the lines of a trace
abbrev pub trace_lines : Bool → List Row → Text
trace_lines kinds rows = trace_header kinds ++ flat_map (row_line kinds) rows
