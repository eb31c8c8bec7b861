-- Slots that are filled entry by entry, and faults of configurations.
use Rattle.std.proofs.Common.{◌≡◌, ℕ, ◌<◌, ◌⊎◌, inl, inr, List, length, get_or, set, Option, Some, None, Result, Ok, Err, sym, ap, subst, ◌∙◌, arith, All}
use Rattle.std.specs.Prelude.{IfSome, OnOk, replicate}
use Rattle.std.specs.List.{Any}
use Rattle.std.specs.Result.{IfErr}
use Rattle.std.proofs.lemmas.List.{get_or-set_same, get_or-set_other, length-set, length-replicate, get_or-replicate}
use Rattle.std.proofs.lemmas.Bool.{cases_eq}
use Rattle.std.specs.Global.{Vec}
use Rattle.rw_vt.specs.declared.refusal.Refusal.{Refusal}
use Rattle.rw_trace.specs.declared.Row.{Row}
use Rattle.rw_report.specs.declared.sim_fault.SimFault.{SimFault}
use Rattle.rw_report.specs.declared.sim_fault.SimFault.TheVariants as sim
use Rattle.rw_sweep.specs.declared.axes.Axes.{Axes}
use Rattle.rw_sweep.specs.declared.point.Point.{Point}
use Rattle.rw_sweep.specs.declared.entry.Entry.{Entry}
use Rattle.rw_sweep.specs.Points.{IsOfGrid}
use Rattle.rw_sweep.specs.Sweep.{IsExhaustingSweep, IsSweepFault}
use Rattle.rw_sweep.specs.Working.{AreSlots, IsAcceptedWith, IsEntryOf, IsExhaustedAt, IsFaultOfPoints, IsResultOf}

-- nothing stands in the slots yet
pub empty-slots : (rows : List Row) (points : List Point) (slots : List (Option (Result (Vec ℕ) Refusal))) → slots ≡ replicate (length points) None → AreSlots rows points slots
empty-slots rows points slots is =
    record {
      many = ap length is ∙ length-replicate (length points) None;
      each = λ i p d l.
          subst (λ s. IfSome s (IsResultOf rows (get_or points i p)))
          (sym (ap (λ xs. get_or xs i d) is ∙ get_or-replicate (length points) i None d l)) tt;
    }

-- one entry more is in its slot
pub placed : (rows : List Row) (points : List Point) (slots : List (Option (Result (Vec ℕ) Refusal))) (e : Entry) → AreSlots rows points slots → IsEntryOf rows points e
    → AreSlots rows points (set slots e.index (Some e.lines))
placed rows points slots e are is =
    record {
      many = length-set slots e.index (Some e.lines) ∙ are.many;
      each = λ i p d l. by i p d l (cases_eq i e.index);
    }
  where
    by : (i : ℕ) (p : Point) (d : Option (Result (Vec ℕ) Refusal)) → i < length points → (i ≡ e.index) ⊎ (i ≡ e.index → ⊥)
        → IfSome (get_or (set slots e.index (Some e.lines)) i d) (IsResultOf rows (get_or points i p))
    by i p d l (inl same) =
        let inside : e.index < length slots = omega (arith, same, l, are.many) in
        let there : get_or (set slots e.index (Some e.lines)) i d ≡ Some e.lines = ap (λ k. get_or (set slots e.index (Some e.lines)) k d) same ∙ get_or-set_same slots e.index (Some e.lines) d inside in
        subst (λ s. IfSome s (IsResultOf rows (get_or points i p))) (sym there)
        (subst (λ k. IsResultOf rows (get_or points k p) e.lines) (sym same) (is p (subst (λ k. k < length points) same l)))
    by i p d l (inr other) =
        subst (λ s. IfSome s (IsResultOf rows (get_or points i p))) (sym (get_or-set_other slots e.index i (Some e.lines) d other)) (are.each i p d l)

-- a configuration of the grid is exhausted
pub exhausting : (a : Axes) (bytes : List ℕ) (points : List Point) → All (IsOfGrid a) points → IsAcceptedWith a bytes (λ rows. Any (IsExhaustedAt rows) points) → IsExhaustingSweep a bytes
exhausting a bytes points are h = by h.holds
  where
    by : Any (IsExhaustedAt h.rows) points → IsExhaustingSweep a bytes
    by (k, p, l, at, met) =
        let is : IsOfGrid a p = subst (IsOfGrid a) at (are k p l) in
        record {
          rows = h.rows;
          choice = p.choice;
          config = p.config;
          accepted = h.accepted;
          among = is.among;
          config_is = is.is.config_is;
          met = met;
        }

-- a fault of a grid's configurations is one of its sweep
pub fault-of-sweep : {T : Type 0} (r : Result T SimFault) (a : Axes) (bytes : List ℕ) (points : List Point) → All (IsOfGrid a) points → IfErr r (IsFaultOfPoints a bytes points)
    → IfErr r (IsSweepFault a bytes)
fault-of-sweep (Ok t) a bytes points are h = tt
fault-of-sweep (Err (sim.Trace f)) a bytes points are h = h
fault-of-sweep (Err sim.Exhausted) a bytes points are h = exhausting a bytes points are h
fault-of-sweep (Err sim.Output) a bytes points are h = tt
fault-of-sweep (Err sim.Memory) a bytes points are h = tt
fault-of-sweep (Err sim.Read) a bytes points are h = h
fault-of-sweep (Err sim.Rounds) a bytes points are h = h
fault-of-sweep (Err sim.NoThread) a bytes points are h = h
fault-of-sweep (Err sim.Plan) a bytes points are h = h

-- what is said of whole lines, or of a table, in one form is said in another
pub lines-so : {T P Q : Type 0} (A : Type 0) (r : Result T SimFault) → (P → Q) → IfErr r (λ e. (e ≡ sim.Output → ⊥) → A ⊎ P) → IfErr r (λ e. (e ≡ sim.Output → ⊥) → A ⊎ Q)
lines-so A (Ok t) f h = tt
lines-so {T} {P} {Q} A (Err e) f h = λ other. by (h other)
  where
    by : A ⊎ P → A ⊎ Q
    by (inl a) = inl a
    by (inr p) = inr (f p)

pub table-so : {T E P Q : Type 0} (r : Result T E) → (P → Q) → OnOk r P → OnOk r Q
table-so (Ok t) f h = f h
table-so (Err e) f h = tt
