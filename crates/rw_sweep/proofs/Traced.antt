-- Configurations that are told what is said of the trace that they run.
use Rattle.std.proofs.Common.{◌≡◌, ℕ, ◌<◌, ◌≤◌, ◌^◌, Bool, List, [], ◌∷◌, length, map, take, drop, get_or, Option, None, Some, Result, Ok, Err, ◌⊎◌, inr, refl, sym, subst, ◌∙◌, All}
use Rattle.std.specs.Prelude.{◌≢◌, IfSome}
use Rattle.std.specs.Result.{IfErr, IsErrAnd}
use Rattle.std.specs.List.{AllZip, Any}
use Rattle.std.proofs.lemmas.List.{get_or-map, get_or_default, length-map, take-append-drop}
use Rattle.std.proofs.lemmas.List.Elements.{All-map}
use Rattle.rw_report.specs.Intervals.{AreMarks}
use Rattle.rw_report.specs.declared.intervals.Outlook.{Outlook}
use Rattle.rw_trace.specs.declared.Row.{Row}
use Rattle.rw_trace.specs.Laws.{IsRow}
use Rattle.rw_trace.specs.Limits.{most_rows}
use Rattle.rw_trace.specs.Trace.{trace_of}
use Rattle.rw_trace.specs.Unread.{records_of}
use Rattle.rw_trace.specs.Words.{Text}
use Rattle.rw_vt.specs.declared.refusal.Refusal.{Refusal}
use Rattle.rw_vt.specs.declared.refusal.Refusal.TheVariants.{Exhausted, Memory}
use Rattle.rw_report.specs.Faults.{sim_refusal_of}
use Rattle.rw_report.specs.declared.sim_fault.SimFault.{SimFault}
use Rattle.rw_report.specs.declared.sim_fault.SimFault.TheVariants as sim
use Rattle.rw_sweep.specs.declared.axes.Axes.{Axes}
use Rattle.rw_sweep.specs.declared.facts.Facts.{Facts}
use Rattle.rw_sweep.specs.declared.point.Point.{Point}
use Rattle.rw_sweep.specs.Facts.{facts_of}
use Rattle.rw_sweep.specs.Grids.{least_edges}
use Rattle.rw_sweep.specs.Points.{IsOfGrid, with_facts}
use Rattle.rw_sweep.specs.Working.{CanRun, HasTaken, HasTakenFirst, IsAcceptedWith, IsExhaustedAt, IsFaultOfPoints, IsTextOfPoint, IsTextUnder}
use Rattle.rw_sweep.proofs.Fewest.{edges-within, wider}
use Rattle.rw_sweep.proofs.Tables.{first-made}

-- configurations of a grid can run what a trace for it may have
pub may-run : (a : Axes) (rows : List Row) (points own : List Point) (facts : Facts) (n : ℕ) → own ≡ map (with_facts facts) points → facts ≡ facts_of rows → n ≡ least_edges a → All (IsRow n) rows → length rows ≤ 2 ^ 63
    → All (IsOfGrid a) points → All (λ p. IfSome p.outlook AreMarks) points → All (CanRun rows) own
may-run a rows points own facts n made known is ranges few of marks =
    subst (All (CanRun rows)) (sym made) (All-map (CanRun rows) (with_facts facts) points (λ k d l. one (get_or points k d) (of k d l) (marks k d l)))
  where
    one : (p : Point) → IsOfGrid a p → IfSome p.outlook AreMarks → CanRun rows (with_facts facts p)
    one p of marks = record {
      rows_in_range = wider n p.config.edges rows (subst (λ m. m ≤ p.config.edges) (sym is) (edges-within a p of)) ranges;
      few = few;
      facts = known;
      marks = marks;
      edge_shape = of.is.in_range.edge_shape;
      origin_shape = of.is.in_range.origin_shape;
    }

module _ (rows : List Row) (facts : Facts) where
  same-under : (o : Option Outlook) (p : Point) (t : List ℕ) → IsTextUnder o rows (with_facts facts p) t → IsTextUnder o rows p t
  same-under None p t h = h
  same-under (Some o) p t h = h

  -- what is told of them is told of those that they are made of
  zip-back : (ps : List Point) (ts : List (List ℕ)) → AllZip (IsTextOfPoint rows) (map (with_facts facts) ps) ts → AllZip (IsTextOfPoint rows) ps ts
  zip-back [] [] each = tt
  zip-back [] (t ∷ ts) each = absurd each
  zip-back (p ∷ ps) [] each = absurd each
  zip-back (p ∷ ps) (t ∷ ts) each = (same-under p.outlook p t each.0, zip-back ps ts each.1)

  pub taken-back : (whole : Bool) (points own : List Point) (header : List ℕ) (before after : Option (List ℕ)) → own ≡ map (with_facts facts) points → HasTaken whole rows own header before after → HasTaken whole rows points header before after
  taken-back whole points own header before after made h =
      record { texts = h.texts; each = zip-back points h.texts (subst (λ ps. AllZip (IsTextOfPoint rows) ps h.texts) made h.each); taken = h.taken }

  pub first-back : (whole : Bool) (points own : List Point) (header : List ℕ) (before after : Option (List ℕ)) → own ≡ map (with_facts facts) points → HasTakenFirst whole rows own header before after
      → HasTakenFirst whole rows points header before after
  first-back whole points own header before after made h =
      let n : ℕ = length h.first in
      let same : h.first ≡ map (with_facts facts) (take n points) = sym (first-made (with_facts facts) points h.first h.rest (sym made ∙ h.parted)) in
      record {
        first = take n points;
        rest = drop n points;
        parted = sym (take-append-drop n points);
        taken = taken-back whole (take n points) h.first header before after same h.taken;
      }

  pub any-back : (points own : List Point) → own ≡ map (with_facts facts) points → Any (IsExhaustedAt rows) own → Any (IsExhaustedAt rows) points
  any-back points own made any = by (subst (Any (IsExhaustedAt rows)) made any)
    where
      by : Any (IsExhaustedAt rows) (map (with_facts facts) points) → Any (IsExhaustedAt rows) points
      by (k, p, l, at, met) =
          let inside : k < length points = subst (λ n. k < n) (length-map points (with_facts facts)) l in
          let q : Point = get_or points k p in
          let is : with_facts facts q ≡ p = sym (get_or-map (with_facts facts) points k p p inside) ∙ at in
          (k, q, inside, get_or_default points k q p inside, subst (IsExhaustedAt rows) (sym is) met)

-- the trace is accepted, by the edges that its rows are read with
pub accepted-with : (a : Axes) (bytes : Text) (rows : List Row) (n : ℕ) (Holds : List Row → Type 0) → n ≡ least_edges a → trace_of n most_rows (records_of bytes) ≡ Ok rows → Holds rows → IsAcceptedWith a bytes Holds
accepted-with a bytes rows n Holds is accepted holds =
    record { rows = rows; accepted = subst (λ m. trace_of m most_rows (records_of bytes) ≡ Ok rows) is accepted; holds = holds }

-- why the lines are not all out
pub fault-back : {T : Type 0} (a : Axes) (bytes : Text) (points : List Point) (r : Result T SimFault) (e : Refusal) → IsErrAnd r (λ f. f ≡ sim_refusal_of e)
    → (e ≡ Exhausted → IsAcceptedWith a bytes (λ rs. Any (IsExhaustedAt rs) points)) → IfErr r (IsFaultOfPoints a bytes points)
fault-back a bytes points (Ok t) e is h = tt
fault-back a bytes points (Err f) Memory is h = subst (IsFaultOfPoints a bytes points) (sym is) tt
fault-back a bytes points (Err f) Exhausted is h = subst (IsFaultOfPoints a bytes points) (sym is) (h refl)

-- what is out then
pub lines-back : {T : Type 0} (X Out : Type 0) (r : Result T SimFault) → Out → IfErr r (λ e. e ≢ sim.Output → X ⊎ Out)
lines-back X Out (Ok t) out = tt
lines-back X Out (Err e) out = λ other. inr out
