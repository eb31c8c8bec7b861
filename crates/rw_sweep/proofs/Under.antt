-- What is told of configurations under an outlook makes the table that it asks for.
use Rattle.std.proofs.Common.{◌≡◌, ℕ, ◌<◌, Bool, true, false, List, [], ◌∷◌, ◌++◌, length, map, get_or, Option, None, Some, Result, Ok, Err, refl, sym, ap, subst, ◌∙◌, All}
use Rattle.std.specs.Prelude.{IfSome}
use Rattle.std.specs.Result.{IfErr}
use Rattle.std.specs.List.{AllZip, Any, Contains, concat}
use Rattle.std.proofs.lemmas.List.{get_or-map, length-map, map-append}
use Rattle.std.proofs.lemmas.List.Elements.{All-head, All-map, All-tail, All-weaker}
use Rattle.rw_vt.specs.Words.{Position}
use Rattle.rw_trace.specs.declared.Row.{Row}
use Rattle.rw_report.specs.declared.sim_fault.SimFault.{SimFault}
use Rattle.rw_report.specs.declared.sim_fault.SimFault.TheVariants as sim
use Rattle.rw_report.specs.declared.intervals.Outlook.{Outlook}
use Rattle.rw_report.specs.Intervals.{AreMarks}
use Rattle.rw_sweep.specs.declared.axes.Axes.{Axes}
use Rattle.rw_sweep.specs.declared.choice.Choice.{Choice}
use Rattle.rw_sweep.specs.declared.part.Part.{Part}
use Rattle.rw_sweep.specs.declared.point.Point.{Point}
use Rattle.rw_sweep.specs.OverTime.{HasBegunOverTime, HasSweptFirstOverTime, HasSweptOverTime, IsExhaustingOverTime, IsOverTimeFault, TellsOfChoice, TellsOfChoices, TellsOfFirst, TellsOfPlaced, TellsOfSweep, header_told, told_choices}
use Rattle.rw_sweep.specs.Parts.{dealt}
use Rattle.rw_sweep.specs.Points.{ArePoints, IsOfGrid, IsPlain, chosen_points, points_under, told_at, with_outlook}
use Rattle.rw_sweep.specs.Working.{HasTaken, HasTakenFirst, IsAcceptedWith, IsExhaustedAt, IsFaultOfPoints, IsTextOfPoint, IsTextUnder, Takes}
use Rattle.rw_sweep.proofs.Tables.{all-of-first, dealt-choices, of-grid, part-of-grid}

-- a choice beside its place, where that is told
abbrev pub with_place : Point → Option Position × Choice
with_place p = (p.place, p.choice)

-- ---- the configurations

chosen-of-grid : (a : Axes) (part : Option Part) (points : List Point) → ArePoints a points → All (IsOfGrid a) (chosen_points part points)
chosen-of-grid a None points are = of-grid a points are
chosen-of-grid a (Some part) points are = part-of-grid a part.index part.count points (chosen_points (Some part) points) are refl

under-of-grid : (a : Axes) (o : Outlook) (p : Point) → IsOfGrid a p → IsOfGrid a (with_outlook o p)
under-of-grid a o p of = record { is = record { in_range = of.is.in_range; config_is = of.is.config_is; ticks = of.is.ticks }; among = of.among }

-- they are of the grid, and this is told of each
pub record AreUnder (a : Axes) (part : Option Part) (o : Outlook) (own : List Point) : Type 0 where
  pub of : All (IsOfGrid a) own
  pub outlook : All (λ p. p.outlook ≡ Some o) own
  pub choices : map with_place own ≡ told_choices a part

same-places : (o : Outlook) (ps : List Point) → map with_place (map (with_outlook o) ps) ≡ map with_place ps
same-places o [] = refl
same-places o (p ∷ ps) = ap (λ l. (p.place, p.choice) ∷ l) (same-places o ps)

plain-places : (ps : List Point) → All IsPlain ps → map with_place ps ≡ map (λ x. (None, x)) (map (λ p. p.choice) ps)
plain-places [] plain = refl
plain-places (p ∷ ps) plain = λ i. ((All-head IsPlain p ps plain).unplaced i, p.choice) ∷ plain-places ps (All-tail IsPlain p ps plain) i

abbrev placed : Position × Choice → Option Position × Choice
placed at = (Some at.0, at.1)

abbrev chosen : Position × Point → Position × Choice
chosen at = (at.0, at.1.choice)

dealt-places : (ats : List (Position × Point)) → map with_place (map told_at ats) ≡ map placed (map chosen ats)
dealt-places [] = refl
dealt-places (at ∷ ats) = ap (λ l. (Some at.0, at.1.choice) ∷ l) (dealt-places ats)

chosen-places : (a : Axes) (part : Option Part) (points : List Point) → ArePoints a points → map with_place (chosen_points part points) ≡ told_choices a part
chosen-places a None points are = plain-places points are.plain ∙ ap (map (λ x. (None, x))) are.choices
chosen-places a (Some part) points are =
    dealt-places (dealt part.index part.count points) ∙ ap (map placed) (dealt-choices a part.index part.count points are)

pub are-under : (a : Axes) (part : Option Part) (o : Outlook) (points own : List Point) → ArePoints a points → own ≡ points_under part o points → AreUnder a part o own
are-under a part o points own are is =
    subst (AreUnder a part o) (sym is)
    (record {
      of = All-map (IsOfGrid a) (with_outlook o) (chosen_points part points) (All-weaker (IsOfGrid a) (λ p. IsOfGrid a (with_outlook o p)) (under-of-grid a o) (chosen_points part points) (chosen-of-grid a part points are));
      outlook = All-map (λ p. p.outlook ≡ Some o) (with_outlook o) (chosen_points part points) (λ k d l. refl);
      choices = same-places o (chosen_points part points) ∙ chosen-places a part points are;
    })

-- what is asked of them can be told
pub marks-under : (a : Axes) (part : Option Part) (o : Outlook) (own : List Point) → AreUnder a part o own → AreMarks o → All (λ p. IfSome p.outlook AreMarks) own
marks-under a part o own are marks = All-weaker (λ p. p.outlook ≡ Some o) (λ p. IfSome p.outlook AreMarks) (λ p is. subst (λ v. IfSome v AreMarks) (sym is) marks) own are.outlook

-- ---- what is told of them

module _ (a : Axes) (o : Outlook) (rows : List Row) where
  told-texts : (ps : List Point) (ts : List (List ℕ)) → All (IsOfGrid a) ps → All (λ p. p.outlook ≡ Some o) ps → AllZip (IsTextOfPoint rows) ps ts → AllZip (TellsOfPlaced a o rows) (map with_place ps) ts
  told-texts [] [] of are each = tt
  told-texts [] (t ∷ ts) of are each = absurd each
  told-texts (p ∷ ps) [] of are each = absurd each
  told-texts (p ∷ ps) (t ∷ ts) of are each = (
    record {
      config = p.config;
      config_is = (All-head (IsOfGrid a) p ps of).is.config_is;
      tells = subst (λ n. TellsOfChoice p.config p.choice n p.place o rows t) (All-head (IsOfGrid a) p ps of).is.ticks
          (subst (λ v. IsTextUnder v rows p t) (All-head (λ q. q.outlook ≡ Some o) p ps are) each.0);
    },
    told-texts ps ts (All-tail (IsOfGrid a) p ps of) (All-tail (λ q. q.outlook ≡ Some o) p ps are) each.1,
  )

  -- behind a header
  pub told-choices : (ps : List Point) (header : List ℕ) (ts : List (List ℕ)) → All (IsOfGrid a) ps → All (λ p. p.outlook ≡ Some o) ps → AllZip (IsTextOfPoint rows) ps ts
      → TellsOfChoices a o rows (map with_place ps) header (header ++ concat ts)
  told-choices ps header ts of are each = record { texts = ts; each = told-texts ps ts of are each; told = refl }

-- the table, as a writer takes it
record TableUnder (a : Axes) (part : Option Part) (o : Outlook) (rows : List Row) (whole : Bool) (before after : Option (List ℕ)) : Type 0 where
  text : List ℕ
  tells : TellsOfSweep a part o rows text
  taken : Takes whole before after text

table-under : (a : Axes) (part : Option Part) (o : Outlook) (rows : List Row) (own : List Point) (header : List ℕ) (whole : Bool) (before after : Option (List ℕ)) → AreUnder a part o own → header ≡ header_told part o
    → HasTaken whole rows own header before after → TableUnder a part o rows whole before after
table-under a part o rows own header whole before after are is h =
    let told : TellsOfChoices a o rows (map with_place own) header (header ++ concat h.texts) = told-choices a o rows own header h.texts are.of are.outlook h.each in
    record {
      text = header ++ concat h.texts;
      tells = subst (λ xs. TellsOfChoices a o rows xs (header_told part o) (header ++ concat h.texts)) are.choices
          (subst (λ t. TellsOfChoices a o rows (map with_place own) t (header ++ concat h.texts)) is told);
      taken = h.taken;
    }

record FirstUnder (a : Axes) (part : Option Part) (o : Outlook) (rows : List Row) (whole : Bool) (before after : Option (List ℕ)) : Type 0 where
  text : List ℕ
  tells : TellsOfFirst a part o rows text
  taken : Takes whole before after text

first-under : (a : Axes) (part : Option Part) (o : Outlook) (rows : List Row) (own : List Point) (header : List ℕ) (whole : Bool) (before after : Option (List ℕ)) → AreUnder a part o own → header ≡ header_told part o
    → HasTakenFirst whole rows own header before after → FirstUnder a part o rows whole before after
first-under a part o rows own header whole before after are is h =
    let text = header ++ concat h.taken.texts in
    let of : All (IsOfGrid a) h.first = all-of-first (IsOfGrid a) h.first h.rest (subst (All (IsOfGrid a)) h.parted are.of) in
    let outlook : All (λ p. p.outlook ≡ Some o) h.first = all-of-first (λ p. p.outlook ≡ Some o) h.first h.rest (subst (All (λ p. p.outlook ≡ Some o)) h.parted are.outlook) in
    let told : TellsOfChoices a o rows (map with_place h.first) header (header ++ concat h.taken.texts) = told-choices a o rows h.first header h.taken.texts of outlook h.taken.each in
    record {
      text = header ++ concat h.taken.texts;
      tells = record {
        first = map with_place h.first;
        rest = map with_place h.rest;
        parted = sym are.choices ∙ ap (map with_place) h.parted ∙ map-append with_place h.first h.rest;
        tells = subst (λ t. TellsOfChoices a o rows (map with_place h.first) t (header ++ concat h.taken.texts)) is told;
      };
      taken = h.taken.taken;
    }

pub swept-under : (a : Axes) (part : Option Part) (o : Outlook) (bytes : List ℕ) (own : List Point) (header : List ℕ) (before after : Option (List ℕ)) → AreUnder a part o own → header ≡ header_told part o
    → IsAcceptedWith a bytes (λ rows. HasTaken true rows own header before after) → HasSweptOverTime a part o bytes before after
swept-under a part o bytes own header before after are is h =
    let all = table-under a part o h.rows own header true before after are is h.holds in
    record { text = all.text; rows = h.rows; accepted = h.accepted; tells = all.tells; gained = all.taken }

pub swept-first-under : (a : Axes) (part : Option Part) (o : Outlook) (bytes : List ℕ) (own : List Point) (header : List ℕ) (before after : Option (List ℕ)) → AreUnder a part o own → header ≡ header_told part o
    → IsAcceptedWith a bytes (λ rows. HasTakenFirst true rows own header before after) → HasSweptFirstOverTime a part o bytes before after
swept-first-under a part o bytes own header before after are is h =
    let all = first-under a part o h.rows own header true before after are is h.holds in
    record { text = all.text; rows = h.rows; accepted = h.accepted; tells = all.tells; gained = all.taken }

pub begun-under : (a : Axes) (part : Option Part) (o : Outlook) (bytes : List ℕ) (own : List Point) (header : List ℕ) (before after : Option (List ℕ)) → AreUnder a part o own → header ≡ header_told part o
    → IsAcceptedWith a bytes (λ rows. HasTakenFirst false rows own header before after) → HasBegunOverTime a part o bytes before after
begun-under a part o bytes own header before after are is h =
    let all = first-under a part o h.rows own header false before after are is h.holds in
    record { text = all.text; rows = h.rows; accepted = h.accepted; tells = all.tells; gained = all.taken }

-- ---- faults

-- a choice is among those of a sweep
pub told-among : (a : Axes) (part : Option Part) (o : Outlook) (own : List Point) (k : ℕ) (p : Point) → AreUnder a part o own → k < length own → get_or own k p ≡ p → Contains (told_choices a part) (p.place, p.choice)
told-among a part o own k p are l at =
    subst (λ xs. Contains xs (with_place p)) are.choices
    (k, subst (λ n. k < n) (sym (length-map own with_place)) l, get_or-map with_place own k p (with_place p) l ∙ ap with_place at)

exhausting-under : (a : Axes) (part : Option Part) (o : Outlook) (bytes : List ℕ) (own : List Point) → AreUnder a part o own → IsAcceptedWith a bytes (λ rows. Any (IsExhaustedAt rows) own) → IsExhaustingOverTime a part bytes
exhausting-under a part o bytes own are h = by h.holds
  where
    by : Any (IsExhaustedAt h.rows) own → IsExhaustingOverTime a part bytes
    by (k, p, l, at, met) =
        let is : IsOfGrid a p = subst (IsOfGrid a) at (are.of k p l) in
        record {
          rows = h.rows;
          at = (p.place, p.choice);
          config = p.config;
          accepted = h.accepted;
          among = told-among a part o own k p are l at;
          config_is = is.is.config_is;
          met = met;
        }

pub fault-under : {T : Type 0} (r : Result T SimFault) (a : Axes) (part : Option Part) (o : Outlook) (bytes : List ℕ) (own : List Point) → AreUnder a part o own → IfErr r (IsFaultOfPoints a bytes own)
    → IfErr r (IsOverTimeFault a part o bytes)
fault-under (Ok t) a part o bytes own are h = tt
fault-under (Err (sim.Trace f)) a part o bytes own are h = h
fault-under (Err sim.Exhausted) a part o bytes own are h = exhausting-under a part o bytes own are h
fault-under (Err sim.Output) a part o bytes own are h = tt
fault-under (Err sim.Memory) a part o bytes own are h = tt
fault-under (Err sim.Read) a part o bytes own are h = h
fault-under (Err sim.Rounds) a part o bytes own are h = h
fault-under (Err sim.NoThread) a part o bytes own are h = h
fault-under (Err sim.Plan) a part o bytes own are h = absurd h
