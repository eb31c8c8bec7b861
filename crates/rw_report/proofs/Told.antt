-- What is told of the moments of a run.
use Rattle.std.proofs.Common.{◌≡◌, ℕ, zero, suc, ◌+◌, ◌-◌, ◌*◌, ◌<◌, List, [], ◌∷◌, ◌++◌, Some, None, refl, sym, ◌∙◌, ap, subst, arith, inl, inr, length, take, get_or, append_assoc, append-nil}
use Rattle.std.specs.Prelude.{min, slice_get, unwrap_or}
use Rattle.std.proofs.lemmas.Bool.{cases_lt}
use Rattle.rw_vt.specs.Limits.{end_of_time}
use Rattle.rw_vt.specs.Moments.{AreStatesAt, HasReached, waiting_at}
use Rattle.rw_vt.specs.Order.{copies}
use Rattle.rw_vt.specs.Rest.{AreLastStates}
use Rattle.rw_vt.specs.System.{IsReady, System, journal_below, map_from, state_after}
use Rattle.rw_vt.proofs.Moments.{reached_to_rest, settled_at}
use Rattle.rw_trace.specs.declared.Row.{Row}
use Rattle.rw_photo.specs.declared.body.Body.{Body}
use Rattle.rw_photo.specs.declared.config.Config.{Config}
use Rattle.rw_photo.specs.declared.counters.Counters.{Counters}
use Rattle.rw_photo.specs.contracts.photo.PhotoVtModel.TheImpl as model
use Rattle.rw_photo.specs.Cache.{Cache}
use Rattle.rw_photo.specs.Counts.{difference_of}
use Rattle.rw_photo.specs.Events.{event_of}
use Rattle.rw_photo.specs.Laws.{valid_ranges}
use Rattle.rw_photo.specs.Simulation.{simulation, starts_of}
use Rattle.rw_report.specs.declared.format.Format.TheVariants as format
use Rattle.rw_report.specs.declared.intervals.Outlook.{Outlook}
use Rattle.rw_report.specs.declared.moments.Moment.{Moment}
use Rattle.rw_report.specs.History.{AreMomentsFrom, IsHistory, IsMoment}
use Rattle.rw_report.specs.Intervals.{ReportsRun, TellsOf, counted_by_each, interval_lines, last_counters, last_moment, lines_from, lines_of, told_of}
use Rattle.rw_report.specs.Report.{report_text}
use Rattle.rw_report.proofs.Adding.{add_up}
use Rattle.rw_report.proofs.Taking.{law_of}

-- Lines

lines_from-more : (c : Config) (before : List ℕ) (a : Moment) (ms : List Moment) (k : ℕ) (d e : Moment) → k < length ms
    → lines_from c before a (take (suc k) ms) ≡ lines_from c before a (take k ms) ++ interval_lines c before (get_or (a ∷ ms) k d) (get_or ms k e)
lines_from-more c before a [] k d e l = absurd (omega arith)
lines_from-more c before a (b ∷ ms) zero d e l = append-nil (interval_lines c before a b)
lines_from-more c before a (b ∷ ms) (suc k) d e l =
    ap (λ rest. interval_lines c before a b ++ rest) (lines_from-more c before b ms k d e (omega arith))
    ∙ sym (append_assoc (interval_lines c before a b) (lines_from c before b (take k ms)) (interval_lines c before (get_or (b ∷ ms) k d) (get_or ms k e)))

-- the lines of one interval more
pub lines-more : (c : Config) (before : List ℕ) (ms : List Moment) (n m : ℕ) (d e : Moment) → n ≡ suc m → n < length ms
    → lines_of c before (take (n + 1) ms) ≡ lines_of c before (take n ms) ++ interval_lines c before (get_or ms m d) (get_or ms n e)
lines-more c before [] n m d e is l = absurd (omega arith)
lines-more c before (a ∷ ms) n m d e is l =
    let next : n + 1 ≡ suc (suc m) = omega (arith, is) in
    rw (next, is) (lines_from-more c before a ms m d e (omega (arith, is, l)))

-- The last moment

pub last-counted : (m : Moment) (ms : List Moment) → last_counters (m ∷ ms) ≡ (last_moment m ms).counters.items
last-counted m [] = refl
last-counted m (n ∷ ms) = last-counted n ms

-- that of the last of some, found at its place
pub last-counters : (ms : List Moment) (m : Moment) → slice_get ms (length ms - 1) ≡ Some m → m.counters.items ≡ last_counters ms
last-counters [] m is = cc
last-counters (x ∷ []) m is = let same : x ≡ m = cc in ap (λ (w : Moment). w.counters.items) (sym same)
last-counters (x ∷ y ∷ ms) m is =
    let at : length (x ∷ y ∷ ms) - 1 ≡ suc (length (y ∷ ms) - 1) = omega arith in
    last-counters (y ∷ ms) m (subst (λ n. slice_get (x ∷ y ∷ ms) n ≡ Some m) at is)

-- what one cache more has counted
pub counted-more : (n : ℕ) (es ls : List Counters) (d e : Counters) → n < length es → n < length ls
    → counted_by_each (take (suc n) es) (take (suc n) ls) ≡ counted_by_each (take n es) (take n ls) ++ difference_of (get_or ls n d) (get_or es n e) ∷ []
counted-more n [] ls d e l m = absurd (omega arith)
counted-more n (x ∷ es) [] d e l m = absurd (omega arith)
counted-more zero (x ∷ es) (y ∷ ls) d e l m = refl
counted-more (suc n) (x ∷ es) (y ∷ ls) d e l m = ap (λ rest. difference_of y x ∷ rest) (counted-more n es ls d e (omega arith) (omega arith))

pub counted-all : (n : ℕ) (es ls : List Counters) → n ≡ min (length es) (length ls) → counted_by_each (take n es) (take n ls) ≡ counted_by_each es ls
counted-all zero [] ls is = refl
counted-all zero (x ∷ es) [] is = refl
counted-all zero (x ∷ es) (y ∷ ls) is = absurd (omega (arith, is))
counted-all (suc n) [] ls is = refl
counted-all (suc n) (x ∷ es) [] is = refl
counted-all (suc n) (x ∷ es) (y ∷ ls) is = ap (λ rest. difference_of y x ∷ rest) (counted-all n es ls (omega (arith, is)))

pub last_is : (y : System Cache Body) (every t : ℕ) (m : Moment) (ms : List Moment) → AreMomentsFrom y every t (m ∷ ms) → IsMoment y (t + length ms * every) (last_moment m ms)
last_is y every t m [] are = subst (λ n. IsMoment y n m) (let same : t ≡ t + length (let e : List Moment = [] in e) * every = omega arith in same) are.0
last_is y every t m (n ∷ ms) are =
    let same : (t + every) + length ms * every ≡ t + length (n ∷ ms) * every = omega arith in
    subst (λ u. IsMoment y u (last_moment n ms)) same (last_is y every (t + every) n ms are.1)

module _ (c : Config) (rows : List Row) (ready : IsReady model.ghosts (record { config = c }) (starts_of c) (map_from 0 event_of rows)) where
  -- where nothing waits, the states are the last ones
  pub last_states : (t : ℕ) (states : List Cache) → AreStatesAt (simulation c rows) t states → waiting_at (simulation c rows) t ≡ [] → AreLastStates (simulation c rows) states
  last_states t states at none = elim (cases_lt end_of_time t) [
    | inl l ↦
        let same : (q : ℕ) → journal_below (simulation c rows) t q ≡ journal_below (simulation c rows) end_of_time q = λ q. settled_at (simulation c rows) (law_of c rows ready) end_of_time t (omega (arith, l)) (λ e v. (valid_ranges c e v).time) q in (
          at.0,
          record {
            journals_are = at.1.journals_are ∙ journals same;
            states_are = at.1.states_are ∙ afters same;
          },
        )
    | inr l ↦
        let reached : HasReached (simulation c rows) t states [] = record { states_are = at; waiting_are = λ e. ap (copies (simulation c rows).rules.order e) (sym none) } in
        (reached_to_rest (simulation c rows) (law_of c rows ready) t end_of_time states l reached).states_are
  ]
    where
      journals : ((q : ℕ) → journal_below (simulation c rows) t q ≡ journal_below (simulation c rows) end_of_time q)
          → map_from 0 (λ q _. journal_below (simulation c rows) t q) (starts_of c) ≡ map_from 0 (λ q _. journal_below (simulation c rows) end_of_time q) (starts_of c)
      journals same = λ i. map_from 0 (λ q _. same q i) (starts_of c)

      afters : ((q : ℕ) → journal_below (simulation c rows) t q ≡ journal_below (simulation c rows) end_of_time q)
          → map_from 0 (λ q s. state_after ((simulation c rows).rules.step q) s (journal_below (simulation c rows) t q)) (starts_of c)
          ≡ map_from 0 (λ q s. state_after ((simulation c rows).rules.step q) s (journal_below (simulation c rows) end_of_time q)) (starts_of c)
      afters same = λ i. map_from 0 (λ q s. state_after ((simulation c rows).rules.step q) s (same q i)) (starts_of c)

  -- the counters by the last moment are those of the outcome
  reports : (start every : ℕ) (ms : List Moment) → IsHistory (simulation c rows) start every ms → (text : List ℕ) → text ≡ report_text c (last_counters ms) → ReportsRun c rows text
  reports start every [] history text is = absurd (let count = history.count in omega (arith, count))
  reports start every (m ∷ ms) history text is =
      let count = history.count in
      let many : length ms ≡ history.more = omega (arith, count) in
      let last = last_is (simulation c rows) every start m ms history.moments in
      let ended = subst (λ n. waiting_at (simulation c rows) (start + n * every) ≡ []) (sym many) history.ended in
      let states = last_states (start + length ms * every) last.states last.states_are ended in
      record {
        journals = states.0;
        states = last.states;
        outcome = states.1;
        told = is ∙ ap (report_text c) (last-counted m ms ∙ last.counted);
      }

  -- what is told of the moments of a run tells of the run
  pub tells : (o : Outlook) (ms : List Moment) (text : List ℕ) → IsHistory (simulation c rows) (unwrap_or o.warm_up 0) (unwrap_or o.every end_of_time) ms → text ≡ told_of c o ms → TellsOf c o rows text
  tells o ms text history is = record {
    history = ms;
    is = history;
    told = is;
    report = λ no_warm_up no_every as_text. reports (unwrap_or o.warm_up 0) (unwrap_or o.every end_of_time) ms history text (is ∙ plain no_warm_up no_every as_text);
    add_up = add_up c ms;
  }
    where
      plain : o.warm_up ≡ None → o.every ≡ None → o.format ≡ format.Text → told_of c o ms ≡ report_text c (last_counters ms)
      plain no_warm_up no_every as_text = rw (no_warm_up, no_every, as_text) refl
