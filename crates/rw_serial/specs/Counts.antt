-- How many events a run has.
use Rattle.std.specs.Prelude.{◌≡◌, ◌≤◌, List, length, sum_by}
use Rattle.rw_vt.specs.Words.{Count, Time}
use Rattle.rw_vt.specs.System.{System, journal_below, map_from}

-- how many events the processes execute where all of times below t are executed in order
abbrev pub events_below : {S B : Type 0} → System S B → Time → Count
events_below y t = sum_by length (map_from 0 (λ q _. journal_below y t q) y.starts)

-- as many events have been entered as these journals have, of so many that may be
pub record IsCountOf {E : Type 0} (entered most limit : Count)
    (journals : List (List E)) : Type 0 where
  pub limited : most ≡ limit
  pub counted : entered ≡ sum_by length journals
  pub within : entered ≤ limit
