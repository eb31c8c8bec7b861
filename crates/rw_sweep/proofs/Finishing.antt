-- Runs that have taken in all rows and go on to their end, and what is told of them.
use Rattle.std.proofs.Common.{◌≡◌, ℕ, ◌<◌, ◌≤◌, List, [], ◌∷◌, ◌++◌, Result, Ok, Err, refl, sym, ap, subst, ◌∙◌, arith, length, map, get_or, All, append_assoc, append-nil}
use Rattle.std.specs.Prelude.{MatchResult, ⊤, unwrap_or}
use Rattle.std.specs.List.{AllZip, concat}
use Rattle.std.proofs.lemmas.List.{map-append}
use Rattle.std.proofs.lemmas.List.Elements.{All-cons, All-head, All-nil, All-tail}
use Rattle.std.proofs.lemmas.List.Folds.{concat-append}
use Rattle.rw_vt.specs.declared.refusal.Refusal.{Refusal}
use Rattle.rw_vt.specs.declared.refusal.Refusal.TheVariants.{Exhausted}
use Rattle.rw_vt.specs.Limits.{end_of_time}
use Rattle.rw_vt.specs.System.{IsReady, map_from}
use Rattle.rw_trace.specs.declared.Row.{Row}
use Rattle.rw_trace.specs.Laws.{IsRow}
use Rattle.rw_trace.specs.Limits.{latest_time}
use Rattle.rw_trace.specs.Pieces.{last_time}
use Rattle.rw_photo.specs.declared.config.Config.{Config}
use Rattle.rw_photo.specs.contracts.photo.PhotoVtModel.TheImpl as model
use Rattle.rw_photo.specs.Events.{event_of}
use Rattle.rw_photo.specs.Simulation.{simulation, starts_of}
use Rattle.std.specs.Option.{is_some}
use Rattle.rw_report.specs.declared.intervals.Outlook.{Outlook}
use Rattle.rw_report.specs.declared.moments.Moment.{Moment}
use Rattle.rw_report.specs.History.{IsHistory, IsRecordingOf, RecordingState}
use Rattle.rw_report.proofs.Recorded.{last_early}
use Rattle.rw_sweep.specs.declared.point.Point.{Point}
use Rattle.rw_sweep.specs.declared.ongoing.OngoingRun.{OngoingRun}
use Rattle.rw_sweep.specs.Ongoing.{HasNotEnded, HasTakenIn, HasTexts, IsExhaustedBy, IsGoingOn, IsToTell, MarksAt, MayFinish}
use Rattle.rw_sweep.specs.OverTime.{TellsOfChoice, header_under, in_format, told_of_choice}
use Rattle.rw_sweep.specs.declared.facts.Facts.{Facts}
use Rattle.rw_sweep.specs.Facts.{facts_of}
use Rattle.rw_sweep.specs.Table.{conditions}
use Rattle.rw_sweep.specs.Working.{IsTextOfPoint}
use Rattle.rw_sweep.proofs.Told.{history-of, tells-of-choice}

-- the marks at which an outlook looks at a run
abbrev pub marks_of : Outlook → MarksAt
marks_of o = record { start = unwrap_or o.warm_up 0; every = unwrap_or o.every end_of_time }

-- what is told of the moments of a finished run
pub finished : (o : Outlook) (rows : List Row) (p : Point) (facts : Facts) (s : Result RecordingState Refusal) (r : RecordingState) (ms : List Moment) (text : List ℕ) → facts ≡ facts_of rows → s ≡ Ok r
    → MatchResult s (HasTakenIn (marks_of o) rows p) (λ e. e ≡ Exhausted → IsExhaustedBy rows p) → (IsRecordingOf rows r → IsHistory (simulation r.run.config rows) r.start r.every ms)
    → text ≡ in_format o.format (header_under (is_some p.place) o.every) (told_of_choice p.config p.choice (conditions p.ticks_a_second o.warm_up facts) p.place o.every ms) → TellsOfChoice p.config p.choice p.ticks_a_second p.place o rows text
finished o rows p facts s r ms text known is going history told =
    let taken : HasTakenIn (marks_of o) rows p r = subst (λ x. MatchResult x (HasTakenIn (marks_of o) rows p) (λ e. e ≡ Exhausted → IsExhaustedBy rows p)) is going in
    let ready : IsReady model.ghosts (record { config = p.config }) (starts_of p.config) (map_from 0 event_of rows) =
    subst (λ (c : Config). IsReady model.ghosts (record { config = c }) (starts_of c) (map_from 0 event_of rows)) taken.config taken.recording.run.ready in
    let moments : IsHistory (simulation p.config rows) r.start r.every ms = subst (λ (c : Config). IsHistory (simulation c rows) r.start r.every ms) taken.config (history taken.recording) in
    tells-of-choice p.config rows ready p.choice p.ticks_a_second p.place o ms text (history-of p.config rows r.start r.every o ms taken.start taken.every moments)
    (told ∙ ap (λ (f : Facts). in_format o.format (header_under (is_some p.place) o.every) (told_of_choice p.config p.choice (conditions p.ticks_a_second o.warm_up f) p.place o.every ms)) known)

-- runs that have taken in all rows have not gone past the latest time
pub may-finish : (at : MarksAt) (edges : ℕ) (rows : List Row) (gs : List OngoingRun) → All (IsRow edges) rows → All (IsGoingOn at rows) gs → All HasNotEnded gs → All MayFinish gs
may-finish at edges rows [] ranges going not_ended = All-nil MayFinish
may-finish at edges rows (g ∷ gs) ranges going not_ended =
    All-cons MayFinish g gs (one g.point g.recording (All-head (IsGoingOn at rows) g gs going) (All-head HasNotEnded g gs not_ended))
    (may-finish at edges rows gs ranges (All-tail (IsGoingOn at rows) g gs going) (All-tail HasNotEnded g gs not_ended))
  where
    one : (p : Point) (s : Result RecordingState Refusal) → MatchResult s (HasTakenIn at rows p) (λ e. e ≡ Exhausted → IsExhaustedBy rows p) → MatchResult s (λ r. ⊤) (λ e. ⊥) → MatchResult s (λ r. r.run.time ≤ latest_time) (λ e. ⊥)
    one p (Ok r) taken on =
        let early : last_time 0 rows ≤ latest_time = last_early 0 edges rows (omega arith) ranges in
        subst (λ t. t ≤ latest_time) (sym taken.time) early
    one p (Err e) refused ended = absurd ended

-- so far is told of some runs that these are left
pub record IsTelling (o : Outlook) (facts : Facts) (header : List ℕ) (all left : List OngoingRun) (text : List ℕ) : Type 0 where
  pub done : List OngoingRun
  pub parted : all ≡ done ++ left
  pub may_finish : All MayFinish left
  pub to_tell : All (λ g. IsToTell o g.point) left
  pub texts : (rows : List Row) → facts ≡ facts_of rows → All (IsGoingOn (marks_of o) rows) all → HasTexts rows (map (λ g. g.point) done) header text

pub telling-none : (o : Outlook) (facts : Facts) (header : List ℕ) (all : List OngoingRun) (text : List ℕ) → text ≡ header → All MayFinish all → All (λ g. IsToTell o g.point) all → IsTelling o facts header all all text
telling-none o facts header all text is may_finish to_tell = record {
  done = [];
  parted = refl;
  may_finish = may_finish;
  to_tell = to_tell;
  texts = λ rows known going. record { texts = []; each = tt; told = is ∙ sym (append-nil header) };
}

-- what holds of each holds of the one behind some
behind-some : {A : Type 0} (P : A → Type 0) (xs : List A) (y : A) (ys : List A) → All P (xs ++ (y ∷ ys)) → P y
behind-some P [] y ys all = All-head P y ys all
behind-some P (x ∷ xs) y ys all = behind-some P xs y ys (All-tail P x (xs ++ (y ∷ ys)) all)

one-more : (rows : List Row) (ps : List Point) (ts : List (List ℕ)) (p : Point) (t : List ℕ) → AllZip (IsTextOfPoint rows) ps ts → IsTextOfPoint rows p t → AllZip (IsTextOfPoint rows) (ps ++ p ∷ []) (ts ++ t ∷ [])
one-more rows [] [] p t z is = (is, tt)
one-more rows [] (u ∷ us) p t z is = absurd z
one-more rows (q ∷ qs) [] p t z is = absurd z
one-more rows (q ∷ qs) (u ∷ us) p t z is = (z.0, one-more rows qs us p t z.1 is)

module _ (o : Outlook) (facts : Facts) (header : List ℕ) (all left rest : List OngoingRun) (g : OngoingRun) (text : List ℕ) (on : IsTelling o facts header all left text) (next : left ≡ g ∷ rest) where
  pub next-may-finish : MayFinish g
  next-may-finish = All-head MayFinish g rest (subst (All MayFinish) next on.may_finish)

  pub next-to-tell : IsToTell o g.point
  next-to-tell = All-head (λ h. IsToTell o h.point) g rest (subst (All (λ h. IsToTell o h.point)) next on.to_tell)

  -- the next one goes on as all do
  pub next-going : (rows : List Row) → All (IsGoingOn (marks_of o) rows) all → IsGoingOn (marks_of o) rows g
  next-going rows going = behind-some (IsGoingOn (marks_of o) rows) on.done g rest (subst (All (IsGoingOn (marks_of o) rows)) (on.parted ∙ ap (λ l. on.done ++ l) next) going)

  -- and it is one of them
  pub next-at : get_or all (length on.done) g ≡ g
  next-at = ap (λ l. get_or l (length on.done) g) (on.parted ∙ ap (λ l. on.done ++ l) next) ∙ at on.done
    where
      at : (xs : List OngoingRun) → get_or (xs ++ (g ∷ rest)) (length xs) g ≡ g
      at [] = refl
      at (x ∷ xs) = at xs

  pub next-within : length on.done < length all
  next-within = subst (λ l. length on.done < length l) (sym (on.parted ∙ ap (λ l. on.done ++ l) next)) (within on.done)
    where
      within : (xs : List OngoingRun) → length xs < length (xs ++ (g ∷ rest))
      within [] = omega arith
      within (x ∷ xs) = let l = within xs in omega (arith, l)

  pub telling-more : (lines text' : List ℕ) → text' ≡ text ++ lines → ((rows : List Row) → facts ≡ facts_of rows → IsGoingOn (marks_of o) rows g → IsTextOfPoint rows g.point lines) → IsTelling o facts header all rest text'
  telling-more lines text' grown told = record {
    done = on.done ++ g ∷ [];
    parted = on.parted ∙ ap (λ l. on.done ++ l) next ∙ sym (append_assoc on.done (g ∷ []) rest);
    may_finish = All-tail MayFinish g rest (subst (All MayFinish) next on.may_finish);
    to_tell = All-tail (λ h. IsToTell o h.point) g rest (subst (All (λ h. IsToTell o h.point)) next on.to_tell);
    texts = λ rows known going. more rows (on.texts rows known going) (told rows known (next-going rows going));
  }
    where
      more : (rows : List Row) → HasTexts rows (map (λ h. h.point) on.done) header text → IsTextOfPoint rows g.point lines → HasTexts rows (map (λ h. h.point) (on.done ++ g ∷ [])) header text'
      more rows so_far here = record {
        texts = so_far.texts ++ lines ∷ [];
        each = subst (λ ps. AllZip (IsTextOfPoint rows) ps (so_far.texts ++ lines ∷ [])) (sym (map-append (λ h. h.point) on.done (g ∷ []))) (one-more rows (map (λ h. h.point) on.done) so_far.texts g.point lines so_far.each here);
        told = grown ∙ ap (λ t. t ++ lines) so_far.told ∙ append_assoc header (concat so_far.texts) lines
            ∙ ap (λ t. header ++ t) (ap (λ t. concat so_far.texts ++ t) (sym (append-nil lines)) ∙ sym (concat-append so_far.texts (lines ∷ [])));
      }

-- all is told
pub telling-all : (o : Outlook) (facts : Facts) (header : List ℕ) (all left : List OngoingRun) (text : List ℕ) → IsTelling o facts header all left text → left ≡ [] → (rows : List Row) → facts ≡ facts_of rows → All (IsGoingOn (marks_of o) rows) all
    → HasTexts rows (map (λ g. g.point) all) header text
telling-all o facts header all left text on none rows known going =
    subst (λ gs. HasTexts rows (map (λ g. g.point) gs) header text) (sym (on.parted ∙ ap (λ l. on.done ++ l) none ∙ append-nil on.done)) (on.texts rows known going)
