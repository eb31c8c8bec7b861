-- A stack of values in runs.
use Rattle.std.specs.Prelude.{◌≡◌, ℕ, ◌+◌, ◌<◌, ◌≤◌, List, [], ◌∷◌, ◌++◌, length, drop}
use Rattle.std.specs.Global.{Vec}
use Rattle.rw_lp.specs.Limits.{longest_run}

-- the values of runs, those of the first run first
abbrev pub values_of : {T : Type 0} → List (Vec T) → List T
values_of [] = []
values_of (run ∷ runs) = run.items ++ values_of runs

-- each run has a value, and no more than a run may have
abbrev pub AreFilled : {T : Type 0} → List (Vec T) → Type 0
AreFilled [] = Unit {0}
AreFilled (run ∷ runs) = (0 < length run.items) × (length run.items ≤ longest_run) × AreFilled runs

-- the runs before the last one are filled, and the last one has no more values than a run may have
pub record AreRuns {T : Type 0} (older : List (Vec T)) (last : Vec T) : Type 0 where
  pub older_filled : AreFilled older
  pub last_within : length last.items ≤ longest_run

-- the first run, if there is one, has more than n values
abbrev pub IsWithinFront : {T : Type 0} → ℕ → List (Vec T) → Type 0
IsWithinFront n [] = Unit {0}
IsWithinFront n (run ∷ runs) = n < length run.items

-- without its first n values, whatever follows, old is new without its first m
pub record IsLeftAfter {T : Type 0} (n : ℕ) (old : List (Vec T)) (m : ℕ)
    (new : List (Vec T)) : Type 0 where
  pub count : n + length (values_of new) ≡ m + length (values_of old)
  pub rest : (behind : List T) → drop n (values_of old ++ behind) ≡ drop m (values_of new ++ behind)
