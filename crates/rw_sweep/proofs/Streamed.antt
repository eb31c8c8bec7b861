-- A trace that is read as it is run: what the runs of its rows come to makes the table, or a fault of it.
use Rattle.std.proofs.Common.{◌≡◌, ℕ, ◌<◌, ◌≤◌, ◌⊎◌, inl, inr, List, ◌++◌, Result, Ok, Err, Option, Some, None, refl, sym, ap, subst, ◌∙◌, map, get_or, All}
use Rattle.std.specs.Prelude.{◌≢◌, IfSome}
use Rattle.std.specs.Result.{IfErr, IsErrAnd}
use Rattle.std.specs.List.{Any, concat}
use Rattle.std.proofs.lemmas.List.{get_or-map, length-map}
use Rattle.std.proofs.lemmas.List.Elements.{All-weaker}
use Rattle.rw_vt.specs.declared.refusal.Refusal.{Refusal}
use Rattle.rw_vt.specs.declared.refusal.Refusal.TheVariants.{Exhausted, Memory}
use Rattle.rw_vt.specs.Limits.{end_of_time}
use Rattle.rw_vt.specs.System.{Meets}
use Rattle.rw_trace.specs.Words.{Text}
use Rattle.rw_trace.specs.declared.Row.{Row}
use Rattle.rw_trace.specs.declared.pieces.RowsFault.TheVariants as refused
use Rattle.rw_trace.specs.Limits.{most_streamed_rows}
use Rattle.rw_trace.specs.Pieces.{Ahead, AreAll, IsRefusal, RiseFrom, last_time, ordered_trace_of}
use Rattle.rw_trace.specs.Trace.{trace_of}
use Rattle.rw_trace.specs.Unread.{records_of}
use Rattle.rw_trace.proofs.Ordered.{ordered_accepted}
use Rattle.rw_report.specs.Faults.{sim_refusal_of}
use Rattle.rw_report.specs.declared.sim_fault.SimFault.{SimFault}
use Rattle.rw_report.specs.declared.sim_fault.SimFault.TheVariants as sim
use Rattle.rw_photo.specs.Cache.{is_exhausted}
use Rattle.rw_photo.specs.Simulation.{simulation}
use Rattle.rw_report.specs.declared.intervals.Outlook.{Outlook}
use Rattle.rw_report.specs.Streams.{IsExhaustingFirst}
use Rattle.rw_sweep.specs.declared.axes.Axes.{Axes}
use Rattle.rw_sweep.specs.declared.part.Part.{Part}
use Rattle.rw_sweep.specs.declared.point.Point.{Point}
use Rattle.rw_sweep.specs.declared.ongoing.OngoingRun.{OngoingRun}
use Rattle.rw_sweep.specs.Ongoing.{HasTexts, HaveTakenAll, IsFaultOfRuns, IsGoingOn, IsToTell, MarksAt}
use Rattle.rw_sweep.specs.OverTime.{TellsOfChoices, header_told}
use Rattle.rw_sweep.specs.Points.{IsOfGrid}
use Rattle.rw_sweep.specs.Streams.{AreRowsOfStream, HasBegunStream, HasBegunToSweepRows, HasSweptRows, HasSweptStream, IsExhaustingStream, IsRowsSweepFault, IsStreamSweepFault, TellsOfSweptRows, rows_ahead}
use Rattle.rw_sweep.proofs.Feeding.{all-unmap}
use Rattle.rw_sweep.specs.declared.facts.Facts.{Facts}
use Rattle.rw_sweep.specs.Facts.{facts_of}
use Rattle.rw_sweep.proofs.Fewest.{edges-within}
use Rattle.rw_sweep.proofs.Finishing.{marks_of}
use Rattle.rw_sweep.proofs.Under.{AreUnder, told-among, told-choices, with_place}
use Rattle.rw_sweep.specs.Grids.{least_edges}

module _ (a : Axes) (part : Option Part) (o : Outlook) (own : List Point) (are : AreUnder a part o own) where
  -- none has fewer edges than the grid
  pub edges-under : (n : ℕ) → n ≡ least_edges a → All (λ p. n ≤ p.config.edges) own
  edges-under n is = All-weaker (IsOfGrid a) (λ p. n ≤ p.config.edges) (λ p of. subst (λ m. m ≤ p.config.edges) (sym is) (edges-within a p of)) own are.of

  to-tell-one : (p : Point) → IsOfGrid a p → p.outlook ≡ Some o → IsToTell o p
  to-tell-one p of is = record { outlook = is; edge_shape = of.is.in_range.edge_shape; origin_shape = of.is.in_range.origin_shape }

  -- it can be told of each run
  pub to-tell : (runs : List OngoingRun) → map (λ g. g.point) runs ≡ own → All (λ g. IsToTell o g.point) runs
  to-tell runs points = all-unmap (IsToTell o) (λ g. g.point) runs (subst (All (IsToTell o)) (sym points) (λ k d l. to-tell-one (get_or own k d) (are.of k d l) (are.outlook k d l)))

  exhausting-one : (ahead : Ahead) → Any (λ p. IsExhaustingFirst p.config ahead) own → IsExhaustingStream a part ahead
  exhausting-one ahead (k, p, l, at, met) =
      let of : IsOfGrid a p = subst (IsOfGrid a) at (are.of k p l) in
      record {
        at = (p.place, p.choice);
        config = p.config;
        among = told-among a part o own k p are l at;
        config_is = of.is.config_is;
        met = met;
      }

  -- a fault of the runs
  pub runs-fault : (ahead : Ahead) (f : SimFault) → IsFaultOfRuns own ahead f → IsRowsSweepFault a part o ahead f
  runs-fault ahead (sim.Trace f) h = h
  runs-fault ahead sim.Exhausted h = exhausting-one ahead h
  runs-fault ahead sim.Memory h = tt
  runs-fault ahead sim.Read h = tt
  runs-fault ahead sim.Output h = absurd h
  runs-fault ahead sim.Rounds h = absurd h
  runs-fault ahead sim.NoThread h = absurd h
  runs-fault ahead sim.Plan h = absurd h

  module _ (ahead : Ahead) (n : ℕ) (facts : Facts) (at : MarksAt) (marks : at ≡ marks_of o) (runs : List OngoingRun) (points : map (λ g. g.point) runs ≡ own) (all : HaveTakenAll at n ahead facts runs) where
    pub going-all : All (IsGoingOn (marks_of o) all.rows) runs
    going-all = subst (λ m. All (IsGoingOn m all.rows) runs) marks all.going

    -- a run is refused once all rows are read
    pub end-fault : {T : Type 0} (r : Result T SimFault) (e : Refusal) → IsErrAnd r (λ f. f ≡ sim_refusal_of e)
        → (e ≡ Exhausted → (rows : List Row) → All (IsGoingOn (marks_of o) rows) runs → Any (λ g. Meets (simulation g.point.config rows) end_of_time is_exhausted) runs) → IfErr r (IsRowsSweepFault a part o ahead)
    end-fault (Ok t) e is h = tt
    end-fault (Err f) Memory is h = subst (IsRowsSweepFault a part o ahead) (sym is) tt
    end-fault (Err f) Exhausted is h = subst (IsRowsSweepFault a part o ahead) (sym is) (met (h refl all.rows going-all))
      where
        met : Any (λ g. Meets (simulation g.point.config all.rows) end_of_time is_exhausted) runs → IsExhaustingStream a part ahead
        met (k, g, l, here, m) = exhausting-one ahead (subst (Any (λ p. IsExhaustingFirst p.config ahead)) points (
          k,
          g.point,
          subst (λ i. k < i) (sym (length-map runs (λ h. h.point))) l,
          get_or-map (λ h. h.point) runs k g g.point l ∙ ap (λ h. h.point) here,
          record {
            rows = all.rows;
            rest = ahead;
            until = end_of_time;
            first = inr all.given;
            rising = all.rising;
            soon = inr (all.given, refl);
            met = m;
          },
        ))

    -- what is told of the runs is the table
    pub table-of-runs : (header text : List ℕ) → header ≡ header_told part o → ((rows : List Row) → facts ≡ facts_of rows → All (IsGoingOn (marks_of o) rows) runs → HasTexts rows (map (λ g. g.point) runs) header text)
        → TellsOfSweptRows a part o ahead text
    table-of-runs header text is told =
        let texts : HasTexts all.rows own header text = subst (λ ps. HasTexts all.rows ps header text) points (told all.rows all.facts_are going-all) in
        let choices : TellsOfChoices a o all.rows (map with_place own) header (header ++ concat texts.texts) = told-choices a o all.rows own header texts.texts are.of are.outlook texts.each in
        let whole : TellsOfChoices a o all.rows (map with_place own) header text = subst (TellsOfChoices a o all.rows (map with_place own) header) (sym texts.told) choices in
        record {
          rows = all.rows;
          given = all.given;
          rising = all.rising;
          tells = subst (λ xs. TellsOfChoices a o all.rows xs (header_told part o) text) are.choices (subst (λ h. TellsOfChoices a o all.rows (map with_place own) h text) is whole);
        }

-- rows that a trace gives, where its bytes may be known
module _ (a : Axes) (part : Option Part) (o : Outlook) (known : Option Text) (ahead : Ahead) (open_ahead : IfSome known (λ xs. ahead ≡ Some (ordered_trace_of (least_edges a) most_streamed_rows (records_of xs)))) where
  -- what is to come is what the bytes say, or nothing is known of them
  known_or_not : (known ≡ None) ⊎ (ahead ≡ rows_ahead a known)
  known_or_not = by known open_ahead
    where
      by : (k : Option Text) → IfSome k (λ xs. ahead ≡ Some (ordered_trace_of (least_edges a) most_streamed_rows (records_of xs))) → (k ≡ None) ⊎ (ahead ≡ rows_ahead a k)
      by None h = inl refl
      by (Some xs) h = inr h

  -- what is said of what is to come, where it says nothing of what is not known
  so-known : (P : Ahead → Type 0) → P None → P ahead → P (rows_ahead a known)
  so-known P none h = elim known_or_not [
    | inl is ↦ subst (λ k. P (rows_ahead a k)) (sym is) none
    | inr is ↦ subst P is h
  ]

  exhausting-known : IsExhaustingStream a part ahead → IsExhaustingStream a part (rows_ahead a known)
  exhausting-known h = so-known (IsExhaustingStream a part) (record {
    at = h.at;
    config = h.config;
    among = h.among;
    config_is = h.config_is;
    met = record {
      rows = h.met.rows;
      rest = h.met.rest;
      until = h.met.until;
      first = inl tt;
      rising = h.met.rising;
      soon = soon h.met.soon;
      met = h.met.met;
    };
  }) h
    where
      soon : (h.met.until ≤ last_time 0 h.met.rows) ⊎ (AreAll ahead h.met.rows × (h.met.until ≡ end_of_time)) → (h.met.until ≤ last_time 0 h.met.rows) ⊎ (AreAll None h.met.rows × (h.met.until ≡ end_of_time))
      soon (inl l) = inl l
      soon (inr e) = inr (tt, e.1)

  -- a fault of the rows is one of the trace
  pub fault-known : (f : SimFault) → IsRowsSweepFault a part o ahead f → IsStreamSweepFault a part o known f
  fault-known (sim.Trace f) h = so-known (λ x. IsRefusal x (refused.Trace f)) tt h
  fault-known sim.Exhausted h = exhausting-known h
  fault-known sim.Memory h = tt
  fault-known sim.Read h = tt
  fault-known sim.Output h = tt
  fault-known sim.Rounds h = absurd h
  fault-known sim.NoThread h = absurd h
  fault-known sim.Plan h = h

  -- all rows that were to come are those of the trace
  streamed-known : (rows : List Row) → AreAll ahead rows → RiseFrom 0 rows → AreRowsOfStream a known rows
  streamed-known rows given rising = record { accepted = by known open_ahead; rising = rising }
    where
      by : (k : Option Text) → IfSome k (λ xs. ahead ≡ Some (ordered_trace_of (least_edges a) most_streamed_rows (records_of xs))) → IfSome k (λ xs. trace_of (least_edges a) most_streamed_rows (records_of xs) ≡ Ok rows)
      by None h = tt
      by (Some xs) h = (ordered_accepted (least_edges a) most_streamed_rows (records_of xs) rows (subst (λ x. AreAll x rows) h given)).0

  pub swept-known : (before after : Option Text) → HasSweptRows a part o ahead before after → HasSweptStream a part o known before after
  swept-known before after h = record {
    text = h.text;
    rows = h.tells.rows;
    streamed = streamed-known h.tells.rows h.tells.given h.tells.rising;
    tells = h.tells.tells;
    gained = h.gained;
  }

  pub begun-known : (before after : Option Text) → HasBegunToSweepRows a part o ahead before after → HasBegunStream a part o known before after
  begun-known before after h = record {
    text = h.text;
    rows = h.tells.rows;
    streamed = streamed-known h.tells.rows h.tells.given h.tells.rising;
    tells = h.tells.tells;
    gained = h.gained;
  }

-- what is to come, by the edges that the rows are read with
pub known-ahead : (known : Option Text) (ahead : Ahead) (m n : ℕ) → m ≡ n → IfSome known (λ xs. ahead ≡ Some (ordered_trace_of m most_streamed_rows (records_of xs))) → IfSome known (λ xs. ahead ≡ Some (ordered_trace_of n most_streamed_rows (records_of xs)))
known-ahead known ahead m n same h = subst (λ e. IfSome known (λ xs. ahead ≡ Some (ordered_trace_of e most_streamed_rows (records_of xs)))) same h

-- a trace that is refused before its first row
pub open-fault : {T : Type 0} (r : Result T SimFault) (f : SimFault) (P : SimFault → Type 0) → IsErrAnd r (λ e. e ≡ f) → P f → IfErr r P
open-fault (Ok t) f P is h = tt
open-fault (Err e) f P is h = subst P (sym is) h

-- only a writer's failure is told as one
pub unwritten : (f : SimFault) (points : List Point) (ahead : Ahead) → IsFaultOfRuns points ahead f → f ≢ sim.Output
unwritten (sim.Trace f) points ahead h = λ same. cc
unwritten sim.Exhausted points ahead h = λ same. cc
unwritten sim.Memory points ahead h = λ same. cc
unwritten sim.Read points ahead h = λ same. cc
unwritten sim.Output points ahead h = absurd h
unwritten sim.Rounds points ahead h = absurd h
unwritten sim.NoThread points ahead h = absurd h
unwritten sim.Plan points ahead h = absurd h
