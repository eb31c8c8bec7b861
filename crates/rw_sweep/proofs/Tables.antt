-- The lines of configurations make the table of a grid, or of a part of it.
use Rattle.std.proofs.Common.{◌≡◌, ℕ, ◌<◌, Bool, true, List, [], ◌∷◌, ◌++◌, length, map, take, drop, get_or, Option, None, Some, Result, Ok, Err, refl, sym, ap, subst, ◌∙◌, All}
use Rattle.std.specs.Prelude.{IfSome}
use Rattle.std.specs.Result.{IfErr}
use Rattle.std.specs.List.{AllZip, Any, Contains, concat, flat_map}
use Rattle.std.proofs.Math.Seq.{take-append_seam}
use Rattle.std.proofs.lemmas.List.{get_or-map, length-map, map-append, take-append-drop, take-map}
use Rattle.std.proofs.lemmas.List.Elements.{All-cons, All-head, All-map, All-nil, All-tail, All-weaker}
use Rattle.rw_vt.specs.Words.{Position}
use Rattle.rw_vt.specs.System.{Meets}
use Rattle.rw_vt.specs.Limits.{end_of_time}
use Rattle.rw_trace.specs.declared.Row.{Row}
use Rattle.rw_report.specs.declared.sim_fault.SimFault.{SimFault}
use Rattle.rw_report.specs.declared.sim_fault.SimFault.TheVariants as sim
use Rattle.rw_photo.specs.declared.config.Config.{Config}
use Rattle.rw_photo.specs.Cache.{is_exhausted}
use Rattle.rw_photo.specs.Simulation.{simulation}
use Rattle.rw_report.specs.Intervals.{AreMarks}
use Rattle.rw_sweep.specs.declared.axes.Axes.{Axes}
use Rattle.rw_sweep.specs.declared.choice.Choice.{Choice}
use Rattle.rw_sweep.specs.declared.point.Point.{Point}
use Rattle.rw_sweep.specs.Grids.{combinations}
use Rattle.rw_sweep.specs.Parts.{AreLinesOfPlaced, HasSweptPart, IsExhaustingPart, IsPartSweepFault, IsPartSweepOfFirst, LinesAt, dealt, is_in_part, part_header, placed_line, text_of_lines}
use Rattle.rw_sweep.specs.OverTime.{HasLines}
use Rattle.rw_sweep.specs.Points.{ArePoints, IsOfGrid, IsPlain, IsPoint, points_of_part, told_at}
use Rattle.rw_sweep.specs.Sweep.{AreLinesOf, AreLinesOfChoice, HasSwept, IsSweepOfFirst}
use Rattle.rw_sweep.specs.Table.{header_line}
use Rattle.rw_sweep.specs.Working.{HasTaken, HasTakenFirst, IsAcceptedWith, IsExhaustedAt, IsFaultOfPoints, IsTextOfPoint, IsTextUnder, Takes}
use Rattle.rw_sweep.proofs.Dealt.{all-dealt, filtered-map}

-- the configurations of a grid are of it
pub of-grid : (a : Axes) (points : List Point) → ArePoints a points → All (IsOfGrid a) points
of-grid a points are k d l =
    let chosen : Point → Choice = λ q. q.choice in
    let p : Point = get_or points k d in
    record {
      is = are.each k d l;
      among = (
        k,
        subst (λ n. k < n) (sym (length-map points chosen) ∙ ap length are.choices) l,
        ap (λ xs. get_or xs k p.choice) (sym are.choices) ∙ get_or-map chosen points k d p.choice l,
      );
    }

told-of-grid : (a : Axes) (at : Position × Point) → IsOfGrid a at.1 → IsOfGrid a (told_at at)
told-of-grid a at of = record { is = record { in_range = of.is.in_range; config_is = of.is.config_is; ticks = of.is.ticks }; among = of.among }

-- so are those of a part
pub part-of-grid : (a : Axes) (index count : ℕ) (points own : List Point) → ArePoints a points → own ≡ points_of_part index count points → All (IsOfGrid a) own
part-of-grid a index count points own are is =
    subst (All (IsOfGrid a)) (sym is)
    (All-map (IsOfGrid a) told_at (dealt index count points)
    (All-weaker (λ at. IsOfGrid a at.1) (λ at. IsOfGrid a (told_at at)) (told-of-grid a) (dealt index count points) (all-dealt (IsOfGrid a) index count points (of-grid a points are))))

plain-unmarked : (p : Point) → IsPlain p → IfSome p.outlook AreMarks
plain-unmarked p is = subst (λ o. IfSome o AreMarks) (sym is.lines) tt

-- nothing but their lines is asked of the configurations of a grid, and of a part of it
pub unmarked : (a : Axes) (points : List Point) → ArePoints a points → All (λ p. IfSome p.outlook AreMarks) points
unmarked a points are = All-weaker IsPlain (λ p. IfSome p.outlook AreMarks) plain-unmarked points are.plain

pub part-unmarked : (a : Axes) (index count : ℕ) (points own : List Point) → ArePoints a points → own ≡ points_of_part index count points → All (λ p. IfSome p.outlook AreMarks) own
part-unmarked a index count points own are is =
    subst (All (λ p. IfSome p.outlook AreMarks)) (sym is)
    (All-map (λ p. IfSome p.outlook AreMarks) told_at (dealt index count points)
    (All-weaker (λ at. IsPlain at.1) (λ at. IfSome at.1.outlook AreMarks) (λ at. plain-unmarked at.1) (dealt index count points) (all-dealt IsPlain index count points are.plain)))

untold : (lines : List (List ℕ)) → text_of_lines None lines ≡ concat lines
untold [] = refl
untold (x ∷ xs) = ap (λ t. x ++ t) (untold xs)

-- the lines of configurations that are told without their places
record WholeLines (a : Axes) (rows : List Row) (points : List Point) (texts : List (List ℕ)) : Type 0 where
  lines : List (List (List ℕ))
  each : AllZip (AreLinesOfChoice a rows) (map (λ p. p.choice) points) lines
  told : concat texts ≡ flat_map concat lines

whole-lines : (a : Axes) (rows : List Row) (points : List Point) (texts : List (List ℕ)) → All (IsPoint a) points → All IsPlain points → AllZip (IsTextOfPoint rows) points texts
    → WholeLines a rows points texts
whole-lines a rows [] [] are none each = record { lines = []; each = tt; told = refl }
whole-lines a rows [] (t ∷ ts) are none each = absurd each
whole-lines a rows (p ∷ ps) [] are none each = absurd each
whole-lines a rows (p ∷ ps) (t ∷ ts) are none each =
    let is = All-head (IsPoint a) p ps are in
    let rest = whole-lines a rows ps ts (All-tail (IsPoint a) p ps are) (All-tail IsPlain p ps none) each.1 in
    let plain = All-head IsPlain p ps none in
    let here : HasLines p.config p.choice p.ticks_a_second p.place rows t = subst (λ o. IsTextUnder o rows p t) plain.lines each.0 in
    let text : t ≡ concat here.lines = here.told ∙ (ap (λ o. text_of_lines o here.lines) plain.unplaced ∙ untold here.lines) in
    record {
      lines = here.lines ∷ rest.lines;
      each = (record { config = p.config; config_is = is.config_is; tells = subst (λ n. AreLinesOf p.config p.choice n rows here.lines) is.ticks here.tell }, rest.each);
      told = λ i. text i ++ rest.told i;
    }

-- the table of a grid's first configurations, as a writer takes it
record TableOf (a : Axes) (rows : List Row) (first : List Choice) (whole : Bool) (before after : Option (List ℕ)) : Type 0 where
  lines : List (List (List ℕ))
  each : AllZip (AreLinesOfChoice a rows) first lines
  taken : Takes whole before after (header_line ++ flat_map concat lines)

table-of-points : (a : Axes) (rows : List Row) (points : List Point) (header : List ℕ) (whole : Bool) (before after : Option (List ℕ)) → All (IsPoint a) points → All IsPlain points
    → header ≡ header_line → HasTaken whole rows points header before after → TableOf a rows (map (λ p. p.choice) points) whole before after
table-of-points a rows points header whole before after are unplaced is h =
    let all = whole-lines a rows points h.texts are unplaced h.each in
    record {
      lines = all.lines;
      each = all.each;
      taken = subst (Takes whole before after) (λ i. is i ++ all.told i) h.taken;
    }

-- the lines of a grid's configurations are its table
pub table-of : (a : Axes) (bytes : List ℕ) (points : List Point) (header : List ℕ) (before after : Option (List ℕ)) → ArePoints a points → header ≡ header_line
    → IsAcceptedWith a bytes (λ rows. HasTaken true rows points header before after) → HasSwept a bytes before after
table-of a bytes points header before after are is h =
    let all = table-of-points a h.rows points header true before after are.each are.plain is h.holds in (
      header_line ++ flat_map concat all.lines,
      record {
        rows = h.rows;
        lines = all.lines;
        accepted = h.accepted;
        each = subst (λ xs. AllZip (AreLinesOfChoice a h.rows) xs all.lines) are.choices all.each;
        told = refl;
      },
      all.taken,
    )

-- what is said of each of a list is said of its first ones
pub all-of-first : {A : Type 0} (P : A → Type 0) (xs ys : List A) → All P (xs ++ ys) → All P xs
all-of-first P [] ys each = All-nil P
all-of-first P (x ∷ xs) ys each = All-cons P x xs (All-head P x (xs ++ ys) each) (all-of-first P xs ys (All-tail P x (xs ++ ys) each))

-- the lines of a grid's first configurations are a beginning of its table
pub first-of-table : (a : Axes) (bytes : List ℕ) (points : List Point) (header : List ℕ) (whole : Bool) (before after : Option (List ℕ)) → ArePoints a points → header ≡ header_line
    → IsAcceptedWith a bytes (λ rows. HasTakenFirst whole rows points header before after)
    → (text : List ℕ) × IsSweepOfFirst a bytes text × Takes whole before after text
first-of-table a bytes points header whole before after are is h =
    let chosen : Point → Choice = λ q. q.choice in
    let some = h.holds in
    let each : All (IsPoint a) (some.first ++ some.rest) = subst (All (IsPoint a)) some.parted are.each in
    let plain : All IsPlain (some.first ++ some.rest) = subst (All IsPlain) some.parted are.plain in
    let all = table-of-points a h.rows some.first header whole before after (all-of-first (IsPoint a) some.first some.rest each)
    (all-of-first IsPlain some.first some.rest plain) is some.taken in (
      header_line ++ flat_map concat all.lines,
      record {
        rows = h.rows;
        first = map chosen some.first;
        rest = map chosen some.rest;
        lines = all.lines;
        accepted = h.accepted;
        parted = sym are.choices ∙ ap (map chosen) some.parted ∙ map-append chosen some.first some.rest;
        each = all.each;
        told = refl;
      },
      all.taken,
    )

-- the lines of configurations that are told with their places
record PlacedLines (a : Axes) (rows : List Row) (ats : List (Position × Point)) (texts : List (List ℕ)) : Type 0 where
  lines : List LinesAt
  each : AllZip (AreLinesOfPlaced a rows) (map (λ at. (at.0, at.1.choice)) ats) lines
  told : concat texts ≡ flat_map (λ ls. flat_map (placed_line ls.place) ls.lines) lines

placed-lines : (a : Axes) (rows : List Row) (ats : List (Position × Point)) (texts : List (List ℕ)) → All (λ at. IsPoint a at.1) ats → All (λ at. IsPlain at.1) ats → AllZip (IsTextOfPoint rows) (map told_at ats) texts
    → PlacedLines a rows ats texts
placed-lines a rows [] [] are plain each = record { lines = []; each = tt; told = refl }
placed-lines a rows [] (t ∷ ts) are plain each = absurd each
placed-lines a rows (at ∷ ats) [] are plain each = absurd each
placed-lines a rows (at ∷ ats) (t ∷ ts) are plain each =
    let is = All-head (λ q. IsPoint a q.1) at ats are in
    let rest = placed-lines a rows ats ts (All-tail (λ q. IsPoint a q.1) at ats are) (All-tail (λ q. IsPlain q.1) at ats plain) each.1 in
    let lines = All-head (λ q. IsPlain q.1) at ats plain in
    let here : HasLines at.1.config at.1.choice at.1.ticks_a_second (Some at.0) rows t = subst (λ o. IsTextUnder o rows (told_at at) t) lines.lines each.0 in
    record {
      lines = record { place = at.0; lines = here.lines } ∷ rest.lines;
      each = (record { place_is = refl; tell = record { config = at.1.config; config_is = is.config_is; tells = subst (λ n. AreLinesOf at.1.config at.1.choice n rows here.lines) is.ticks here.tell } }, rest.each);
      told = λ i. here.told i ++ rest.told i;
    }

-- the part of these configurations, as a writer takes it
record PartOf (a : Axes) (rows : List Row) (ats : List (Position × Point)) (whole : Bool) (before after : Option (List ℕ)) : Type 0 where
  lines : List LinesAt
  each : AllZip (AreLinesOfPlaced a rows) (map (λ at. (at.0, at.1.choice)) ats) lines
  taken : Takes whole before after (part_header ++ flat_map (λ ls. flat_map (placed_line ls.place) ls.lines) lines)

part-of-points : (a : Axes) (rows : List Row) (ats : List (Position × Point)) (header : List ℕ) (whole : Bool) (before after : Option (List ℕ)) → All (λ at. IsPoint a at.1) ats
    → All (λ at. IsPlain at.1) ats → header ≡ part_header → HasTaken whole rows (map told_at ats) header before after → PartOf a rows ats whole before after
part-of-points a rows ats header whole before after are plain is h =
    let all = placed-lines a rows ats h.texts are plain h.each in
    record {
      lines = all.lines;
      each = all.each;
      taken = subst (Takes whole before after) (λ i. is i ++ all.told i) h.taken;
    }

-- the choices of what is dealt out
pub dealt-choices : (a : Axes) (index count : ℕ) (points : List Point) → ArePoints a points
    → map (λ at. (at.0, at.1.choice)) (dealt index count points) ≡ dealt index count (combinations a)
dealt-choices a index count points are =
    let chosen : Point → Choice = λ q. q.choice in
    sym (filtered-map chosen (is_in_part index count) 0 points) ∙ ap (dealt index count) are.choices

-- the lines of the configurations of a part are the part
pub part-of : (a : Axes) (bytes : List ℕ) (index count : ℕ) (points own : List Point) (header : List ℕ) (before after : Option (List ℕ)) → ArePoints a points
    → own ≡ points_of_part index count points → header ≡ part_header
    → IsAcceptedWith a bytes (λ rows. HasTaken true rows own header before after) → HasSweptPart a index count bytes before after
part-of a bytes index count points own header before after are dealt_out is h =
    let taken : HasTaken true h.rows (points_of_part index count points) header before after = subst (λ ps. HasTaken true h.rows ps header before after) dealt_out h.holds in
    let all = part-of-points a h.rows (dealt index count points) header true before after (all-dealt (IsPoint a) index count points are.each) (all-dealt IsPlain index count points are.plain) is taken in (
      part_header ++ flat_map (λ ls. flat_map (placed_line ls.place) ls.lines) all.lines,
      record {
        rows = h.rows;
        lines = all.lines;
        accepted = h.accepted;
        each = subst (λ xs. AllZip (AreLinesOfPlaced a h.rows) xs all.lines) (dealt-choices a index count points are) all.each;
        told = refl;
      },
      all.taken,
    )

-- what is made of the first ones of a list
pub first-made : {A B : Type 0} (f : A → B) (xs : List A) (ys zs : List B) → map f xs ≡ ys ++ zs → map f (take (length ys) xs) ≡ ys
first-made f xs ys zs is = sym (take-map f (length ys) xs) ∙ ap (take (length ys)) is ∙ take-append_seam ys zs

-- the lines of a part's first configurations are a beginning of the part
pub first-of-part : (a : Axes) (bytes : List ℕ) (index count : ℕ) (points own : List Point) (header : List ℕ) (whole : Bool) (before after : Option (List ℕ)) → ArePoints a points
    → own ≡ points_of_part index count points → header ≡ part_header → IsAcceptedWith a bytes (λ rows. HasTakenFirst whole rows own header before after)
    → (text : List ℕ) × IsPartSweepOfFirst a index count bytes text × Takes whole before after text
first-of-part a bytes index count points own header whole before after are dealt_out is h =
    let chosen : Position × Point → Position × Choice = λ at. (at.0, at.1.choice) in
    let some = h.holds in
    let n : ℕ = length some.first in
    let ats : List (Position × Point) = dealt index count points in
    let first : List (Position × Point) = take n ats in
    let rest : List (Position × Point) = drop n ats in
    let both : ats ≡ first ++ rest = sym (take-append-drop n ats) in
    let same : map told_at first ≡ some.first = first-made told_at ats some.first some.rest (sym dealt_out ∙ some.parted) in
    let each : All (λ at. IsPoint a at.1) (first ++ rest) = subst (All (λ at. IsPoint a at.1)) both (all-dealt (IsPoint a) index count points are.each) in
    let taken : HasTaken whole h.rows (map told_at first) header before after = subst (λ ps. HasTaken whole h.rows ps header before after) (sym same) some.taken in
    let plain : All (λ at. IsPlain at.1) (first ++ rest) = subst (All (λ at. IsPlain at.1)) both (all-dealt IsPlain index count points are.plain) in
    let all = part-of-points a h.rows first header whole before after (all-of-first (λ at. IsPoint a at.1) first rest each) (all-of-first (λ at. IsPlain at.1) first rest plain) is taken in (
      part_header ++ flat_map (λ ls. flat_map (placed_line ls.place) ls.lines) all.lines,
      record {
        rows = h.rows;
        first = map chosen first;
        rest = map chosen rest;
        lines = all.lines;
        accepted = h.accepted;
        parted = sym (dealt-choices a index count points are) ∙ ap (map chosen) both ∙ map-append chosen first rest;
        each = all.each;
        told = refl;
      },
      all.taken,
    )

-- a configuration of the part is exhausted
pub exhausting-part : (a : Axes) (bytes : List ℕ) (index count : ℕ) (points own : List Point) → ArePoints a points → own ≡ points_of_part index count points
    → IsAcceptedWith a bytes (λ rows. Any (IsExhaustedAt rows) own) → IsExhaustingPart a index count bytes
exhausting-part a bytes index count points own are dealt_out h = by (subst (Any (IsExhaustedAt h.rows)) dealt_out h.holds)
  where
    ats : List (Position × Point)
    ats = dealt index count points

    by : Any (IsExhaustedAt h.rows) (map told_at ats) → IsExhaustingPart a index count bytes
    by (k, p, l, at, met) =
        let chosen : Position × Point → Position × Choice = λ q. (q.0, q.1.choice) in
        let inside : k < length ats = subst (λ n. k < n) (length-map ats told_at) l in
        let q : Position × Point = get_or ats k (0, p) in
        let is : told_at q ≡ p = sym (get_or-map told_at ats k (0, p) p inside) ∙ at in
        let of : IsPoint a q.1 = all-dealt (IsPoint a) index count points are.each k (0, p) inside in
        let there : get_or (map chosen ats) k (chosen q) ≡ chosen q = get_or-map chosen ats k (0, p) (chosen q) inside in
        record {
          rows = h.rows;
          at = chosen q;
          config = q.1.config;
          accepted = h.accepted;
          among = subst (λ xs. Contains xs (chosen q)) (dealt-choices a index count points are) (k, subst (λ n. k < n) (sym (length-map ats chosen)) inside, there);
          config_is = of.config_is;
          met = subst (λ (c : Config). Meets (simulation c h.rows) end_of_time is_exhausted) (sym (ap (λ (r : Point). r.config) is)) met;
        }

-- a fault of a part's configurations is one of the part
pub fault-of-part : {T : Type 0} (r : Result T SimFault) (a : Axes) (bytes : List ℕ) (index count : ℕ) (points own : List Point) → ArePoints a points
    → own ≡ points_of_part index count points → IfErr r (IsFaultOfPoints a bytes own) → IfErr r (IsPartSweepFault a index count bytes)
fault-of-part (Ok t) a bytes index count points own are is h = tt
fault-of-part (Err (sim.Trace f)) a bytes index count points own are is h = h
fault-of-part (Err sim.Exhausted) a bytes index count points own are is h = exhausting-part a bytes index count points own are is h
fault-of-part (Err sim.Output) a bytes index count points own are is h = tt
fault-of-part (Err sim.Memory) a bytes index count points own are is h = tt
fault-of-part (Err sim.Read) a bytes index count points own are is h = h
fault-of-part (Err sim.Rounds) a bytes index count points own are is h = h
fault-of-part (Err sim.NoThread) a bytes index count points own are is h = h
fault-of-part (Err sim.Plan) a bytes index count points own are is h = h
