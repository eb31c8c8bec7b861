use Rattle.std.proofs.Common.{◌≡◌, ◌<◌, ℕ, [], false}
use Rattle.std.specs.Prelude.{slice_index_or}
use Rattle.csv.specs.Records.{fields_of}
use Rattle.rw_import.specs.Csv.{is_same_text}
use Rattle.rw_import.proofs.csv_log.find.Given as goal

abbrev pub invariant-loop-place : goal.invariant-loop-place
invariant-loop-place l = (k : ℕ) → k < l.place → is_same_text (slice_index_or (fields_of l.header) k []) l.name ≡ false
