-- Sweeps of the counts of the whole run, of a grid or of a part of it.
use Rattle.std.proofs.Common.{◌≡◌, ℕ, Bool, true, List, Option, None, Some, Result, Err, sym, subst, All}
use Rattle.std.specs.Prelude.{IfSome, MatchOption}
use Rattle.std.specs.Option.{is_some}
use Rattle.std.specs.Result.{IfErr}
use Rattle.rw_report.specs.Intervals.{AreMarks}
use Rattle.rw_report.specs.declared.sim_fault.SimFault.{SimFault}
use Rattle.rw_report.specs.declared.sim_fault.SimFault.TheVariants as sim
use Rattle.rw_sweep.specs.declared.axes.Axes.{Axes}
use Rattle.rw_sweep.specs.declared.part.Part.{Part}
use Rattle.rw_sweep.specs.declared.point.Point.{Point}
use Rattle.rw_sweep.specs.InMemory.{HasSweptCounts, IsCountsFault}
use Rattle.rw_sweep.specs.OverTime.{header_under}
use Rattle.rw_sweep.specs.Parts.{IsPartSweepOfFirst}
use Rattle.rw_sweep.specs.Points.{ArePoints, IsOfGrid, chosen_points}
use Rattle.rw_sweep.specs.Sweep.{IsSweepOfFirst}
use Rattle.rw_sweep.specs.Working.{HasTaken, HasTakenFirst, IsAcceptedWith, IsFaultOfPoints, Takes}
use Rattle.rw_sweep.proofs.Slots.{fault-of-sweep}
use Rattle.rw_sweep.proofs.Tables.{fault-of-part, first-of-part, first-of-table, of-grid, part-of, part-of-grid, part-unmarked, table-of, unmarked}

-- the configurations are of the grid
pub chosen-of : (a : Axes) (part : Option Part) (points own : List Point) → ArePoints a points → own ≡ chosen_points part points → All (IsOfGrid a) own
chosen-of a None points own are is = subst (All (IsOfGrid a)) (sym is) (of-grid a points are)
chosen-of a (Some part) points own are is = part-of-grid a part.index part.count points own are is

-- and nothing but their lines is asked of them
pub chosen-unmarked : (a : Axes) (part : Option Part) (points own : List Point) → ArePoints a points → own ≡ chosen_points part points → All (λ p. IfSome p.outlook AreMarks) own
chosen-unmarked a None points own are is = subst (All (λ p. IfSome p.outlook AreMarks)) (sym is) (unmarked a points are)
chosen-unmarked a (Some part) points own are is = part-unmarked a part.index part.count points own are is

-- what a writer has taken of them is the table
pub plain-table : (a : Axes) (bytes : List ℕ) (part : Option Part) (points own : List Point) (header : List ℕ) (before after : Option (List ℕ)) → ArePoints a points → own ≡ chosen_points part points → header ≡ header_under (is_some part) None
    → IsAcceptedWith a bytes (λ rows. HasTaken true rows own header before after) → HasSweptCounts a part bytes before after
plain-table a bytes None points own header before after are is head h =
    table-of a bytes points header before after are head (subst (λ ps. IsAcceptedWith a bytes (λ rows. HasTaken true rows ps header before after)) is h)
plain-table a bytes (Some part) points own header before after are is head h = part-of a bytes part.index part.count points own header before after are is head h

-- or the first ones of it
pub plain-first : (a : Axes) (bytes : List ℕ) (part : Option Part) (points own : List Point) (header : List ℕ) (whole : Bool) (before after : Option (List ℕ)) → ArePoints a points → own ≡ chosen_points part points
    → header ≡ header_under (is_some part) None → IsAcceptedWith a bytes (λ rows. HasTakenFirst whole rows own header before after)
    → MatchOption part ((text : List ℕ) × IsSweepOfFirst a bytes text × Takes whole before after text) (λ p. (text : List ℕ) × IsPartSweepOfFirst a p.index p.count bytes text × Takes whole before after text)
plain-first a bytes None points own header whole before after are is head h =
    first-of-table a bytes points header whole before after are head (subst (λ ps. IsAcceptedWith a bytes (λ rows. HasTakenFirst whole rows ps header before after)) is h)
plain-first a bytes (Some part) points own header whole before after are is head h = first-of-part a bytes part.index part.count points own header whole before after are is head h

-- a fault of theirs is one of the sweep
pub plain-fault : {T : Type 0} (r : Result T SimFault) (a : Axes) (bytes : List ℕ) (part : Option Part) (points own : List Point) → ArePoints a points → own ≡ chosen_points part points → IfErr r (IsFaultOfPoints a bytes own)
    → IfErr r (IsCountsFault a part bytes)
plain-fault r a bytes None points own are is h = fault-of-sweep r a bytes own (chosen-of a None points own are is) h
plain-fault r a bytes (Some part) points own are is h = fault-of-part r a bytes part.index part.count points own are is h

-- which is never the plan's
pub no-plan : {T : Type 0} (r : Result T SimFault) (a : Axes) (part : Option Part) (bytes : List ℕ) → IfErr r (IsCountsFault a part bytes) → r ≡ Err sim.Plan → ⊥
no-plan r a part bytes h same = by part (subst (λ x. IfErr x (IsCountsFault a part bytes)) same h)
  where
    by : (part : Option Part) → IsCountsFault a part bytes sim.Plan → ⊥
    by None never = never
    by (Some p) never = never
