-- Lists that are dealt out to so many workers.
use Rattle.std.specs.Prelude.{◌/◌, ◌%◌, List, [], slice_get, slice_index_or, Option}
use Rattle.rw_vt.specs.Words.{Count, Position}

-- item q of n shares, of which share i has items i, i + n, i + 2n, ..
abbrev pub of_shares : {A : Type 0} → Count → List (List A) → Position → Option A
of_shares n shares q = slice_get (slice_index_or shares (q % n) []) (q / n)
