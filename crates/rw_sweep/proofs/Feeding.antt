-- Runs that take rows in as these are read: what holds between two pieces, and what they come to.
use Rattle.std.proofs.Common.{◌≡◌, ℕ, zero, suc, ◌+◌, ◌-◌, ◌^◌, ◌<◌, ◌≤◌, ◌⊎◌, inl, inr, List, [], ◌∷◌, ◌++◌, Result, Ok, Err, refl, sym, ap, subst, ◌∙◌, arith, length, map, get_or, All, append-nil, length-append, take, drop, take_all}
use Rattle.std.specs.Prelude.{MatchResult, ⊤}
use Rattle.std.specs.Result.{IfErr, IfOk, IsErrAnd}
use Rattle.std.specs.List.{AllZip, Any}
use Rattle.std.proofs.lemmas.Bool.{cases_lt}
use Rattle.std.proofs.lemmas.List.{append_assoc, drop_all, get_or-map, length-map}
use Rattle.std.proofs.lemmas.List.Elements.{All-append, All-cons, All-head, All-nil, All-tail}
use Rattle.rw_vt.specs.System.{Meets}
use Rattle.rw_vt.specs.declared.refusal.Refusal.{Refusal}
use Rattle.rw_vt.specs.declared.refusal.Refusal.TheVariants.{Exhausted, Memory}
use Rattle.rw_trace.specs.declared.Row.{Row}
use Rattle.rw_trace.specs.declared.TraceFault.TheVariants as trace
use Rattle.rw_trace.specs.declared.pieces.RowsFault.{RowsFault}
use Rattle.rw_trace.specs.declared.pieces.RowsFault.TheVariants as refused
use Rattle.rw_trace.specs.Laws.{IsRow}
use Rattle.rw_trace.specs.Pieces.{Ahead, AreAll, ComeFirst, IsRefusal, RiseFrom, last_time}
use Rattle.rw_trace.proofs.Piecewise.{refused_behind}
use Rattle.rw_report.specs.Faults.{sim_refusal_of, sim_rows_fault_of}
use Rattle.rw_report.specs.declared.sim_fault.SimFault.{SimFault}
use Rattle.rw_photo.specs.Cache.{is_exhausted}
use Rattle.rw_photo.specs.Simulation.{simulation}
use Rattle.rw_photo.specs.declared.config.Config.{Config}
use Rattle.rw_report.specs.History.{IsRecordingOf, RecordingState}
use Rattle.rw_report.specs.Streams.{IsExhaustingFirst}
use Rattle.rw_sweep.specs.declared.point.Point.{Point}
use Rattle.rw_sweep.specs.declared.ongoing.OngoingRun.{OngoingRun}
use Rattle.rw_sweep.specs.Ongoing.{AreFed, HasNotEnded, HasTakenIn, HasTakenPiece, HaveTakenAll, IsExhaustedBy, IsFaultOfRuns, IsFed, IsGoingOn, IsStanding, MarksAt, MayTake, TakesPiece}
use Rattle.rw_sweep.specs.declared.facts.Facts.{Facts}
use Rattle.rw_sweep.specs.Facts.{facts_of}
use Rattle.rw_sweep.proofs.Fewest.{wider}
use Rattle.rw_sweep.proofs.Ahead.{come-all, come-more, come-none, come-of-all, come-part, last-more, rise-behind, rise-first, rise-more}

-- what is written back of a list that is as long as it was
pub written-back : {A : Type 0} (n : ℕ) (new old : List A) → length new ≡ length old → n ≡ length old → take n (new ++ drop (length new) old) ≡ new
written-back n new old same is =
    ap (λ l. take n (new ++ l)) (drop_all (length new) old (omega (arith, same))) ∙ ap (take n) (append-nil new) ∙ take_all n new (omega (arith, same, is))

-- where all runs stand between two pieces
pub record AreBetween (at : MarksAt) (points : List Point) (edges : ℕ) (ahead : Ahead) (most latest left : ℕ) (now : Ahead) (facts : Facts) (runs : List OngoingRun) : Type 0 where
  pub rows : List Row
  pub facts_are : facts ≡ facts_of rows
  pub first : ComeFirst ahead rows now
  pub rising : RiseFrom 0 rows
  pub last : latest ≡ last_time 0 rows
  pub all : length rows + left ≡ most
  pub ranges : All (IsRow edges) rows
  pub points_are : map (λ g. g.point) runs ≡ points
  pub going : All (IsGoingOn at rows) runs
  pub not_ended : All HasNotEnded runs

-- a run that has taken in no row
pub begun : (at : MarksAt) (p : Point) (r : RecordingState) → r.run.config ≡ p.config → (r.start ≡ at.start) × (r.every ≡ at.every) → r.run.time ≡ 0 → IsRecordingOf [] r → HasTakenIn at [] p r
begun at p r config marks time none = record { config = config; start = marks.0; every = marks.1; time = time; recording = none }

-- a recording that took a piece in, or ended on the way
pub taken-by : (piece : List Row) (r : RecordingState) (s : Result RecordingState Refusal) → IfOk s (λ t. t.run.config ≡ r.run.config) → IfOk s (λ t. (t.start ≡ r.start) × (t.every ≡ r.every))
    → IfOk s (λ t. t.run.time ≡ last_time r.run.time piece) → IfOk s (λ t. (before : List Row) → IsRecordingOf before r → IsRecordingOf (before ++ piece) t)
    → IfErr s (λ e. e ≡ Exhausted → (before : List Row) → IsRecordingOf before r → Meets (simulation r.run.config (before ++ piece)) (last_time r.run.time piece) is_exhausted)
    → HasTakenPiece piece r s
taken-by piece r (Ok t) config marks time fed exhausted = record {
  taken = λ at rows p h.
      record {
        config = config ∙ h.config;
        start = marks.0 ∙ h.start;
        every = marks.1 ∙ h.every;
        time = time ∙ ap (λ n. last_time n piece) h.time ∙ sym (last-more 0 rows piece);
        recording = fed rows h.recording;
      };
}
taken-by piece r (Err e) config marks time fed exhausted = record {
  taken = λ at rows p h same.
      record {
        first = rows ++ piece;
        rest = [];
        parted = sym (append-nil (rows ++ piece));
        met = subst (λ n. Meets (simulation p.config (rows ++ piece)) n is_exhausted) (ap (λ n. last_time n piece) h.time ∙ sym (last-more 0 rows piece))
            (subst (λ (c : Config). Meets (simulation c (rows ++ piece)) (last_time r.run.time piece) is_exhausted) h.config (exhausted same rows h.recording));
      };
}

-- a refusal that is passed on
pub refused-by : {piece : List Row} {r : RecordingState} (s : Result RecordingState Refusal) (e : Refusal) → IsErrAnd s (λ f. f ≡ e) → HasTakenPiece piece r (Err e) → HasTakenPiece piece r s
refused-by (Ok t) e is h = absurd is
refused-by {piece} {r} (Err f) e is h = subst (λ (g : Refusal). HasTakenPiece piece r (Err g)) (sym is) h

-- a run that did so
pub fed-by : (piece : List Row) (g : OngoingRun) (r : RecordingState) (s : Result RecordingState Refusal) → g.recording ≡ Ok r → HasTakenPiece piece r s
    → IsFed piece g (record { point = g.point; recording = s })
fed-by piece g r s is h = record { point = refl; fed = λ at rows going. h.taken at rows g.point (subst (IsStanding at rows g.point) is going) }

-- what holds of each of some holds of each of the first, and of each of the others
all-front : {A : Type 0} (P : A → Type 0) (xs ys : List A) → All P (xs ++ ys) → All P xs
all-front P [] ys all = All-nil P
all-front P (x ∷ xs) ys all = All-cons P x xs (All-head P x (xs ++ ys) all) (all-front P xs ys (All-tail P x (xs ++ ys) all))

all-back : {A : Type 0} (P : A → Type 0) (xs ys : List A) → All P (xs ++ ys) → All P ys
all-back P [] ys all = all
all-back P (x ∷ xs) ys all = all-back P xs ys (All-tail P x (xs ++ ys) all)

-- a recording that has taken in the first part of a piece, of which the rest is still to be taken in
pub record HasTakenPart (piece : List Row) (r : RecordingState) (now : RecordingState) (rest : List Row) : Type 0 where
  pub done : List Row
  pub parted : piece ≡ done ++ rest
  pub taken : (at : MarksAt) (rows : List Row) (p : Point) → HasTakenIn at rows p r → HasTakenIn at (rows ++ done) p now
  pub takes : TakesPiece rest now

pub taken-none : (piece : List Row) (r : RecordingState) → TakesPiece piece r → HasTakenPart piece r r piece
taken-none piece r takes = record {
  done = [];
  parted = refl;
  taken = λ at rows p h. subst (λ rs. HasTakenIn at rs p r) (sym (append-nil rows)) h;
  takes = takes;
}

-- the next part may be taken in
pub takes-first : (part more : List Row) (now : RecordingState) → TakesPiece (part ++ more) now → TakesPiece part now
takes-first part more now h =
    let long = length-append part more in
    let few = h.few in
    record {
      ranges = all-front (IsRow now.run.config.edges) part more h.ranges;
      rising = rise-first now.run.time part more h.rising;
      before = h.before;
      recording = h.recording;
      few = omega (arith, long, few);
    }

-- as many as a recording may take in
pub takes-few : (piece : List Row) (now : RecordingState) → TakesPiece piece now → now.run.taken + length piece ≤ 2 ^ 64 - 1
takes-few piece now h =
    let taken = h.recording.run.taken in
    let few = h.few in
    omega (arith, taken, few)

-- then the rest may be taken in
takes-behind : (part more : List Row) (now next : RecordingState) → TakesPiece (part ++ more) now → next.run.config ≡ now.run.config → next.run.time ≡ last_time now.run.time part
    → ((before : List Row) → IsRecordingOf before now → IsRecordingOf (before ++ part) next) → TakesPiece more next
takes-behind part more now next h config time fed =
    let long = length-append part more in
    let longer = length-append h.before part in
    let few = h.few in
    record {
      ranges = subst (λ (c : Config). All (IsRow c.edges) more) (sym config) (all-back (IsRow now.run.config.edges) part more h.ranges);
      rising = subst (λ t. RiseFrom t more) (sym time) (rise-behind now.run.time part more h.rising);
      before = h.before ++ part;
      recording = fed h.before h.recording;
      few = omega (arith, long, longer, few);
    }

module _ (piece : List Row) (r now : RecordingState) (rest part more : List Row) (on : HasTakenPart piece r now rest) (cut : rest ≡ part ++ more) where
  pub may-take-part : TakesPiece part now
  may-take-part = takes-first part more now (subst (λ rs. TakesPiece rs now) cut on.takes)

  -- one part more
  pub taken-more : (next : RecordingState) → next.run.config ≡ now.run.config → next.run.time ≡ last_time now.run.time part → ((before : List Row) → IsRecordingOf before now → IsRecordingOf (before ++ part) next)
      → HasTakenPiece part now (Ok next) → HasTakenPart piece r next more
  taken-more next config time fed h = record {
    done = on.done ++ part;
    parted = on.parted ∙ ap (λ rs. on.done ++ rs) cut ∙ sym (append_assoc on.done part more);
    taken = λ at rows p before. subst (λ rs. HasTakenIn at rs p next) (append_assoc rows on.done part) (h.taken at (rows ++ on.done) p (on.taken at rows p before));
    takes = takes-behind part more now next (subst (λ rs. TakesPiece rs now) cut on.takes) config time fed;
  }

  -- a part on which the recording ended
  pub ended-on : (e : Refusal) → HasTakenPiece part now (Err e) → HasTakenPiece piece r (Err e)
  ended-on e h = record {
    taken = λ at rows p before same.
        let by : IsExhaustedBy ((rows ++ on.done) ++ part) p = h.taken at (rows ++ on.done) p (on.taken at rows p before) same in
        record {
          first = by.first;
          rest = by.rest ++ more;
          parted = ap (λ rs. rows ++ rs) (on.parted ∙ ap (λ rs. on.done ++ rs) cut ∙ sym (append_assoc on.done part more)) ∙ sym (append_assoc rows (on.done ++ part) more)
              ∙ ap (λ rs. rs ++ more) (sym (append_assoc rows on.done part) ∙ by.parted) ∙ append_assoc by.first by.rest more;
          met = by.met;
        };
  }

-- the last part
pub taken-last : (piece : List Row) (r now : RecordingState) (rest : List Row) (s : Result RecordingState Refusal) → HasTakenPart piece r now rest → HasTakenPiece rest now s → HasTakenPiece piece r s
taken-last piece r now rest s on h = record {
  taken = λ at rows p before.
      subst (λ rs. IsStanding at rs p s) (append_assoc rows on.done rest ∙ ap (λ rs. rows ++ rs) (sym on.parted)) (h.taken at (rows ++ on.done) p (on.taken at rows p before));
}

-- what holds of what is made of each of some holds of each
pub all-unmap : {A B : Type 0} (P : B → Type 0) (f : A → B) (xs : List A) → All P (map f xs) → All (λ x. P (f x)) xs
all-unmap P f [] all = All-nil (λ x. P (f x))
all-unmap P f (x ∷ xs) all = All-cons (λ y. P (f y)) x xs (All-head P (f x) (map f xs) all) (all-unmap P f xs (All-tail P (f x) (map f xs) all))

-- what follows from three facts of each
all-of-three : {A : Type 0} (P Q R S : A → Type 0) → ((x : A) → P x → Q x → R x → S x) → (xs : List A) → All P xs → All Q xs → All R xs → All S xs
all-of-three P Q R S f [] p q r = All-nil S
all-of-three P Q R S f (x ∷ xs) p q r =
    All-cons S x xs (f x (All-head P x xs p) (All-head Q x xs q) (All-head R x xs r)) (all-of-three P Q R S f xs (All-tail P x xs p) (All-tail Q x xs q) (All-tail R x xs r))

same-or-less : (a b : ℕ) → a ≤ b → (a ≡ b) ⊎ (a < b)
same-or-less a b l = elim (cases_lt a b) [
  | inl less ↦ inr less
  | inr more ↦ inl (omega arith)
]

module _ (at : MarksAt) (points : List Point) (edges : ℕ) (ahead : Ahead) (most : ℕ) (of : All (λ p. edges ≤ p.config.edges) points) (few : most ≤ 2 ^ 63) where
  -- nothing is read yet
  pub between-none : (latest : ℕ) (facts : Facts) (runs : List OngoingRun) → latest ≡ 0 → facts ≡ facts_of [] → map (λ g. g.point) runs ≡ points → All (IsGoingOn at []) runs → All HasNotEnded runs → AreBetween at points edges ahead most latest most ahead facts runs
  between-none latest facts runs none known are going not_ended = record {
    rows = [];
    facts_are = known;
    first = come-none ahead;
    rising = tt;
    last = none;
    all = omega arith;
    ranges = All-nil (IsRow edges);
    points_are = are;
    going = going;
    not_ended = not_ended;
  }

  module _ (latest left : ℕ) (now : Ahead) (facts : Facts) (runs : List OngoingRun) (on : AreBetween at points edges ahead most latest left now facts runs) where
    -- none of fewer edges
    edges-of : All (λ g. edges ≤ g.point.config.edges) runs
    edges-of = all-unmap (λ p. edges ≤ p.config.edges) (λ g. g.point) runs (subst (All (λ p. edges ≤ p.config.edges)) (sym on.points_are) of)

    -- what was read is refused
    pub refused-now : {T : Type 0} (r : Result T SimFault) (e : RowsFault) → IsErrAnd r (λ f. f ≡ sim_rows_fault_of e) → IsRefusal now e → IfErr r (IsFaultOfRuns points ahead)
    refused-now (Ok t) e is h = tt
    refused-now (Err f) e is h = subst (IsFaultOfRuns points ahead) (sym is) (told e (refused_behind ahead now on.rows e on.first h))
      where
        told : (e : RowsFault) → IsRefusal ahead e → IsFaultOfRuns points ahead (sim_rows_fault_of e)
        told (refused.Trace trace.Memory) k = tt
        told (refused.Trace trace.Header) k = k
        told (refused.Trace (trace.RowLength n)) k = k
        told (refused.Trace (trace.Number n c)) k = k
        told (refused.Trace (trace.TimeRange n)) k = k
        told (refused.Trace (trace.EdgeRange n)) k = k
        told (refused.Trace (trace.SizeRange n)) k = k
        told (refused.Trace (trace.Kind n)) k = k
        told (refused.Trace trace.TooManyRows) k = k
        told (refused.Trace (trace.Order n)) k = k
        told refused.Read k = tt

    module _ (piece : List Row) (left' : ℕ) (ranges : All (IsRow edges) piece) (rising : RiseFrom latest piece) (counted : left' + length piece ≡ left) where
      -- what is said of the rows with the piece is said in its range
      pub may-count : facts.rows + length piece ≤ 2 ^ 64 - 1
      may-count =
          let many = ap (λ f. f.rows) on.facts_are in
          let all = on.all in
          omega (arith, many, all, counted, few)

      takes : (g : OngoingRun) → IsGoingOn at on.rows g → HasNotEnded g → edges ≤ g.point.config.edges → MayTake piece g
      takes g going not_ended enough = by g.recording going not_ended
        where
          by : (r : Result RecordingState Refusal) → MatchResult r (HasTakenIn at on.rows g.point) (λ e. e ≡ Exhausted → IsExhaustedBy on.rows g.point) → MatchResult r (λ r. ⊤) (λ e. ⊥)
              → MatchResult r (TakesPiece piece) (λ e. ⊥)
          by (Err e) h k = k
          by (Ok r) h k =
              let all = on.all in
              record {
                ranges = wider edges r.run.config.edges piece (subst (λ n. edges ≤ n) (sym (ap (λ c. c.edges) h.config)) enough) ranges;
                rising = subst (λ t. RiseFrom t piece) (on.last ∙ sym h.time) rising;
                before = on.rows;
                recording = h.recording;
                few = omega (arith, all, counted, few);
              }

      -- each run may take the next piece in
      pub may-take : All (MayTake piece) runs
      may-take = all-of-three (IsGoingOn at on.rows) HasNotEnded (λ g. edges ≤ g.point.config.edges) (MayTake piece) takes runs on.going on.not_ended edges-of

      module _ (runs' : List OngoingRun) (fed : AreFed piece runs runs') where
        each-fed : (gs hs : List OngoingRun) → length hs ≡ length gs → ((i : ℕ) (d : OngoingRun) → i < length gs → IsFed piece (get_or gs i d) (get_or hs i d)) → AllZip (IsFed piece) gs hs
        each-fed [] [] many each = tt
        each-fed [] (h ∷ hs) many each = absurd (omega (arith, many))
        each-fed (g ∷ gs) [] many each = absurd (omega (arith, many))
        each-fed (g ∷ gs) (h ∷ hs) many each = (each zero g (omega arith), each-fed gs hs (let same : length hs ≡ length gs = omega (arith, many) in same) (λ i d l. each (suc i) d (omega (arith, l))))

        zipped : AllZip (IsFed piece) runs runs'
        zipped = each-fed runs runs' fed.many fed.each

        same-points : (gs hs : List OngoingRun) → AllZip (IsFed piece) gs hs → map (λ g. g.point) hs ≡ map (λ g. g.point) gs
        same-points [] [] z = refl
        same-points [] (h ∷ hs) z = absurd z
        same-points (g ∷ gs) [] z = absurd z
        same-points (g ∷ gs) (h ∷ hs) z = λ i. z.0.point i ∷ same-points gs hs z.1 i

        pub points-fed : map (λ g. g.point) runs' ≡ points
        points-fed = same-points runs runs' zipped ∙ on.points_are

        go-on : (gs hs : List OngoingRun) → AllZip (IsFed piece) gs hs → All (IsGoingOn at on.rows) gs → All (IsGoingOn at (on.rows ++ piece)) hs
        go-on [] [] z all = All-nil (IsGoingOn at (on.rows ++ piece))
        go-on [] (h ∷ hs) z all = absurd z
        go-on (g ∷ gs) [] z all = absurd z
        go-on (g ∷ gs) (h ∷ hs) z all =
            All-cons (IsGoingOn at (on.rows ++ piece)) h hs (z.0.fed at on.rows (All-head (IsGoingOn at on.rows) g gs all)) (go-on gs hs z.1 (All-tail (IsGoingOn at on.rows) g gs all))

        pub going-fed : All (IsGoingOn at (on.rows ++ piece)) runs'
        going-fed = go-on runs runs' zipped on.going

        pub rising-fed : RiseFrom 0 (on.rows ++ piece)
        rising-fed = rise-more 0 on.rows piece on.rising (subst (λ t. RiseFrom t piece) on.last rising)

        pub ranges-fed : All (IsRow edges) (on.rows ++ piece)
        ranges-fed = All-append (IsRow edges) on.rows piece on.ranges ranges

        -- a run has ended
        pub ended-now : {T : Type 0} (r : Result T SimFault) (e : Refusal) (now' : Ahead) (count : ℕ) → IsErrAnd r (λ f. f ≡ sim_refusal_of e) → Any (λ g. g.recording ≡ Err e) runs'
            → length piece ≤ count → (length piece ≡ count → ComeFirst now piece now') → (length piece < count → AreAll now piece) → IfErr r (IsFaultOfRuns points ahead)
        ended-now (Ok t) e now' count is some l full short = tt
        ended-now (Err f) Memory now' count is some l full short = subst (IsFaultOfRuns points ahead) (sym is) tt
        ended-now (Err f) Exhausted now' count is (k, g, m, here, ended) l full short =
            let going : IsGoingOn at (on.rows ++ piece) g = subst (IsGoingOn at (on.rows ++ piece)) here (going-fed k g m) in
            let by : IsExhaustedBy (on.rows ++ piece) g.point = subst (λ r. MatchResult r (HasTakenIn at (on.rows ++ piece) g.point) (λ e. e ≡ Exhausted → IsExhaustedBy (on.rows ++ piece) g.point)) ended going refl in
            let order : (length piece ≡ count) ⊎ (length piece < count) = same-or-less (length piece) count l in
            let first : (b : Ahead) × ComeFirst ahead by.first b =
            elim order [
              | inl same ↦ come-part ahead now' by.first by.rest (subst (λ rs. ComeFirst ahead rs now') by.parted (come-more ahead now now' on.rows piece on.first (full same)))
              | inr less ↦ come-of-all ahead by.first by.rest (subst (AreAll ahead) by.parted (come-all ahead now on.rows piece on.first (short less)))
            ] in
            subst (IsFaultOfRuns points ahead) (sym is)
            (subst (Any (λ p. IsExhaustingFirst p.config ahead)) points-fed (
              k,
              g.point,
              subst (λ n. k < n) (sym (length-map runs' (λ h. h.point))) m,
              get_or-map (λ h. h.point) runs' k g g.point m ∙ ap (λ h. h.point) here,
              record {
                rows = by.first;
                rest = first.0;
                until = last_time 0 by.first;
                first = inl first.1;
                rising = rise-first 0 by.first by.rest (subst (RiseFrom 0) by.parted rising-fed);
                soon = inl (omega arith);
                met = by.met;
              },
            ))

        -- one piece more
        pub between-more : (now' : Ahead) (facts' : Facts) (latest' : ℕ) → ((before : List Row) → facts ≡ facts_of before → facts' ≡ facts_of (before ++ piece)) → latest' ≡ last_time latest piece → ComeFirst now piece now' → All HasNotEnded runs' → AreBetween at points edges ahead most latest' left' now' facts' runs'
        between-more now' facts' latest' known last first not_ended =
            let long = length-append on.rows piece in
            let all = on.all in
            record {
              rows = on.rows ++ piece;
              facts_are = known on.rows on.facts_are;
              first = come-more ahead now now' on.rows piece on.first first;
              rising = rising-fed;
              last = last ∙ ap (λ t. last_time t piece) on.last ∙ sym (last-more 0 on.rows piece);
              all = omega (arith, long, all, counted);
              ranges = ranges-fed;
              points_are = points-fed;
              going = going-fed;
              not_ended = not_ended;
            }

        -- the last piece
        pub taken-all : (facts' : Facts) → ((before : List Row) → facts ≡ facts_of before → facts' ≡ facts_of (before ++ piece)) → AreAll now piece → All HasNotEnded runs' → HaveTakenAll at edges ahead facts' runs'
        taken-all facts' known given not_ended = record {
          rows = on.rows ++ piece;
          facts_are = known on.rows on.facts_are;
          given = come-all ahead now on.rows piece on.first given;
          rising = rising-fed;
          ranges = ranges-fed;
          going = going-fed;
          not_ended = not_ended;
        }
