-- How much flash reaches a hit ratio: what a search tries, and what its answer says.
use Rattle.std.specs.Prelude.{◌≡◌, ◌⊎◌, ◌≤◌, ◌-◌, ◌*◌, ◌++◌, ◌&&◌, nat_lt, nat_le, Bool, true, false, List, [], ◌∷◌, map}
use Rattle.std.specs.List.{Any}
use Rattle.rw_numbers.specs.Words.{Count}
use Rattle.rw_blocks.specs.Limits.{most_blocks}
use Rattle.rw_blocks.specs.State.{shape_state}
use Rattle.rw_vt.specs.declared.event.Event.{Event}
use Rattle.rw_vt.specs.Limits.{end_of_time}
use Rattle.rw_vt.specs.System.{IsOutcome, Meets}
use Rattle.rw_trace.specs.declared.Row.{Row}
use Rattle.rw_photo.specs.declared.body.Body.{Body}
use Rattle.rw_photo.specs.declared.config.Config.{Config}
use Rattle.rw_photo.specs.declared.counters.Counters.{Counters}
use Rattle.rw_photo.specs.Cache.{Cache, is_exhausted}
use Rattle.rw_photo.specs.Simulation.{simulation}
use Rattle.rw_report.specs.Columns.{those_of}
use Rattle.rw_report.specs.Report.{totals}
use Rattle.rw_sweep.specs.declared.sizing.Search.{Search}
use Rattle.rw_sweep.specs.declared.sizing.Tier.{Tier}
use Rattle.rw_sweep.specs.declared.sizing.Tier.TheVariants as tier
use Rattle.rw_sweep.specs.declared.sizing.Try.{Try}

-- a whole, in millionths
abbrev pub whole : Count
whole = 1000000

-- the numbers of a search are in their ranges: block counts of a queue, the least one first, and a share of a whole
pub record IsSearch (s : Search) : Type 0 where
  pub some : 1 ≤ s.least
  pub in_order : s.least ≤ s.most
  pub few : s.most ≤ most_blocks
  pub share : s.target ≤ whole

-- the configuration in which each cache of a tier has so many sealed device blocks
abbrev pub config_with : Config → Tier → Count → Config
config_with c tier.Edges n =
    record c { edge_shape = shape_state c.edge_shape.sections c.edge_shape.block n }
config_with c tier.Origins n =
    record c { origin_shape = shape_state c.origin_shape.sections c.origin_shape.block n }

-- ---- what is tried
-- the counters are those of a configuration at work on these rows: executing their requests, and all that follows from
-- them, in order of time leaves the caches in some states, and these have counted them
pub record AreCountersOf (c : Config) (rows : List Row) (counters : List Counters) : Type 0 where
  pub journals : List (List (Event Body))
  pub states : List Cache
  pub outcome : IsOutcome (simulation c rows) end_of_time journals states
  pub counted : counters ≡ map (λ s. s.counters) states

-- the try is a run of these rows, with as many blocks as the search allows
pub record IsTryOf (s : Search) (rows : List Row) (t : Try) : Type 0 where
  pub least : s.least ≤ t.blocks
  pub most : t.blocks ≤ s.most
  pub counted : AreCountersOf (config_with s.config s.tier t.blocks) rows t.counters.items

-- whether there are requests, and at least so many millionths of them hit
abbrev pub has_share : Count → Counters → Bool
has_share target k = nat_lt 0 k.requests && nat_le (target * k.requests) (k.hits * whole)

-- whether the target is reached where each cache has counted so much
abbrev pub is_reached : Search → List Counters → Bool
is_reached s ks = has_share s.target (totals (those_of s.config s.caches ks))

-- a try has so many blocks, and reaches the target or does not
abbrev pub IsTriedAt : Search → List Try → Count → Bool → Type 0
IsTriedAt s tries n reached =
    Any (λ t. (t.blocks ≡ n) × (is_reached s t.counters.items ≡ reached)) tries

-- ---- what is answered
-- the target is reached with so many blocks, and is not with one block less, or there are no fewer
pub record IsCrossing (s : Search) (tries : List Try) (n : Count) : Type 0 where
  pub reached : IsTriedAt s tries n true
  pub crossed : (n ≡ s.least) ⊎ IsTriedAt s tries (n - 1) false

-- executing these rows with as many blocks as the search allows comes to a cache that can take no further event
pub record IsExhaustingSearch (s : Search) (rows : List Row) : Type 0 where
  pub blocks : Count
  pub least : s.least ≤ blocks
  pub most : blocks ≤ s.most
  pub met : Meets (simulation (config_with s.config s.tier blocks) rows) end_of_time is_exhausted

-- ---- on the way
-- one more try, with so many blocks, which reaches the target or does not
pub record AddsTry (s : Search) (rows : List Row) (n : Count) (reached : Bool)
    (before after : List Try) : Type 0 where
  pub added : Try
  pub is_try : IsTryOf s rows added
  pub blocks : added.blocks ≡ n
  pub told : reached ≡ is_reached s added.counters.items
  pub after_is : after ≡ before ++ added ∷ []
