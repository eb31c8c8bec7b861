use Rattle.std.proofs.Common.{◌≡◌, ◌<◌, ℕ, [], false}
use Rattle.std.specs.List.{list_any}
use Rattle.std.specs.Prelude.{slice_index_or}
use Rattle.csv.specs.Records.{fields_of}
use Rattle.rw_import.specs.Csv.{is_line_end}
use Rattle.rw_import.proofs.csv_row.is_on_one_line.Given as goal

abbrev pub invariant-loop-place : goal.invariant-loop-place
invariant-loop-place l = (k : ℕ) → k < l.place → list_any is_line_end (slice_index_or (fields_of l.fields) k []) ≡ false
