-- A recorded run: what is known at its moments stays so when more rows come, and what it is at its end.
use Rattle.std.proofs.Common.{◌≡◌, ◌≢◌, Bool, false, ℕ, suc, ◌+◌, ◌-◌, ◌*◌, ◌<◌, ◌≤◌, Some, List, [], ◌∷◌, ◌++◌, ◌⊎◌, true, refl, sym, ◌∙◌, ap, subst, arith, inl, inr, length}
use Rattle.std.specs.Prelude.{◌==◌, All, slice_get}
use Rattle.std.proofs.Math.Nat.{mul-le-mul_right}
use Rattle.std.proofs.lemmas.Bool.{cases_lt}
use Rattle.std.proofs.lemmas.List.Elements.{All-cons, All-head, All-nil, All-tail}
use Rattle.rw_vt.specs.declared.event.Event.{Event}
use Rattle.rw_vt.specs.Limits.{end_of_time}
use Rattle.rw_vt.specs.Moments.{waiting_at}
use Rattle.rw_vt.specs.Order.{Has}
use Rattle.rw_vt.specs.Rest.{MayCome}
use Rattle.rw_vt.specs.System.{System, IsReady, Meets, map_from}
use Rattle.rw_vt.proofs.Moments.{initial_waits, meets_by, meets_later, reached_none, reached_some, states_with_more, waits_with_more}
use Rattle.rw_vt.proofs.Runs.{IsLawful}
use Rattle.rw_vt.proofs.Sorting.{Has-head, IsExactOrder, copies-append}
use Rattle.rw_trace.specs.declared.Row.{Row}
use Rattle.rw_trace.specs.Laws.{IsRow}
use Rattle.rw_trace.specs.Limits.{latest_time}
use Rattle.rw_trace.specs.Pieces.{RiseFrom, last_time}
use Rattle.rw_photo.specs.declared.body.Body.{Body}
use Rattle.rw_photo.specs.declared.config.Config.{Config}
use Rattle.rw_photo.specs.contracts.photo.PhotoVtModel.TheImpl as model
use Rattle.rw_photo.specs.Cache.{Cache, is_exhausted}
use Rattle.rw_photo.specs.Events.{event_of, is_valid}
use Rattle.rw_photo.specs.Laws.{valid_ranges}
use Rattle.rw_photo.specs.Simulation.{simulation, starts_of}
use Rattle.rw_report.specs.declared.moments.Moment.{Moment}
use Rattle.rw_report.specs.History.{AreMomentsFrom, IsHistory, IsMoment, IsRecordingOf, RecordingState, next_mark}
use Rattle.rw_report.specs.Run.{IsRunOn, RunState}
use Rattle.rw_report.proofs.Taking.{events_joined, law_of, may_come}

-- More rows

module _ {WellFormed : ℕ → Cache → Type 0} (y : System Cache Body) (law : IsLawful y WellFormed) (t : ℕ) (more : List (Event Body)) (come : All (MayCome y.rules t) more) where
  moments_later : (every s : ℕ) (ms : List Moment) → (ms ≡ []) ⊎ (s + length ms * every ≤ t + every) → AreMomentsFrom y every s ms → AreMomentsFrom (record y { initial = y.initial ++ more }) every s ms
  moments_later every s [] l are = tt
  moments_later every s (m ∷ ms) (inl none) are = absurd (cc)
  moments_later every s (m ∷ ms) (inr l) are =
      let product : length (m ∷ ms) * every ≡ every + length ms * every = omega arith in (
        record {
          states = are.0.states;
          time = are.0.time;
          states_are = states_with_more y law s t are.0.states more (omega (arith, product, l)) come are.0.states_are;
          counted = are.0.counted;
        },
        moments_later every (s + every) ms (inr (omega (arith, product, l))) are.1,
      )

  needed_later : (every s count : ℕ) → (count ≡ 0) ⊎ (s + count * every ≤ t + every) → ((n : ℕ) → n < count → waiting_at y (s + n * every) ≢ [])
      → (n : ℕ) → n < count → waiting_at (record y { initial = y.initial ++ more }) (s + n * every) ≢ []
  needed_later every s count (inl none) needed n l = absurd (omega arith)
  needed_later every s count (inr k) needed n l =
      let step : (n + 1) * every ≤ count * every = mul-le-mul_right every (let next : n + 1 ≤ count = omega arith in next) in
      let product : (n + 1) * every ≡ n * every + every = omega arith in
      waits_with_more y law (s + n * every) t more (omega (arith, step, product, k)) come (needed n l)

-- a moment more, at the end
pub more_moments : (y : System Cache Body) (every t u : ℕ) (ms : List Moment) (m : Moment) → AreMomentsFrom y every t ms → u ≡ t + length ms * every → IsMoment y u m → AreMomentsFrom y every t (ms ++ m ∷ [])
more_moments y every t u [] m are is new = (subst (λ n. IsMoment y n m) (let same : u ≡ t = omega (arith, is) in same) new, tt)
more_moments y every t u (x ∷ xs) m are is new = (are.0, more_moments y every (t + every) u xs m are.1 (let same : u ≡ (t + every) + length xs * every = omega (arith, is) in same) new)

-- a recording that has taken in a piece more
module _ (r : RecordingState) (rows piece : List Row) (recording : IsRecordingOf rows r) (valid : All (λ e. is_valid r.run.config e ≡ true) (map_from r.run.taken event_of piece))
    (late : All (λ row. r.run.time ≤ row.time) piece) (passed : (r.moments ≡ []) ⊎ (r.start + length r.moments * r.every ≤ r.run.time + r.every)) where
  y : System Cache Body
  y = simulation r.run.config rows

  law : IsLawful (simulation r.run.config rows) (model.ghosts.IsWellFormed (record { config = r.run.config }))
  law = law_of r.run.config rows recording.run.ready

  come : All (MayCome (simulation r.run.config rows).rules r.run.time) (map_from r.run.taken event_of piece)
  come = may_come r.run.config rows r.run.time r.run.taken piece late valid

  count : (length r.moments ≡ 0) ⊎ (r.start + length r.moments * r.every ≤ r.run.time + r.every)
  count = elim passed [ inl none ↦ inl (ap length none) | inr l ↦ inr l ]

  pub takes_recorded : (after : RunState) → after.config ≡ r.run.config → IsRunOn (rows ++ piece) after → IsRecordingOf (rows ++ piece) (record { run = after; start = r.start; every = r.every; moments = r.moments })
  takes_recorded after config run =
      let joined = events_joined rows piece r.run.taken recording.run.taken in
      let moments = moments_later (simulation r.run.config rows) law r.run.time (map_from r.run.taken event_of piece) come r.every r.start r.moments passed recording.moments in
      let needed = needed_later (simulation r.run.config rows) law r.run.time (map_from r.run.taken event_of piece) come r.every r.start (length r.moments) count recording.needed in
      record {
        run = run;
        moments = subst (λ (k : Config). AreMomentsFrom (simulation k (rows ++ piece)) r.every r.start r.moments) (sym config)
            (subst (λ initial. AreMomentsFrom (record (simulation r.run.config rows) { initial = initial }) r.every r.start r.moments) joined moments);
        needed = subst (λ (k : Config). (n : ℕ) → n < length r.moments → waiting_at (simulation k (rows ++ piece)) (r.start + n * r.every) ≢ []) (sym config)
            (subst (λ initial. (n : ℕ) → n < length r.moments → waiting_at (record (simulation r.run.config rows) { initial = initial }) (r.start + n * r.every) ≢ []) joined needed);
      }

-- The last row waits

has_behind : {order : Event Body → Event Body → _} → IsExactOrder order → (a x : Event Body) (xs : List (Event Body)) → Has order xs a → Has order (x ∷ xs) a
has_behind {order} o a x xs h = let more = copies-append o a (x ∷ []) xs in omega (arith, more, h)

has_last : {order : Event Body → Event Body → _} → IsExactOrder order → (t n : ℕ) (r : Row) (rs : List Row) → (e : Event Body) × Has order (map_from n event_of (r ∷ rs)) e × (e.time ≡ last_time t (r ∷ rs))
has_last o t n r [] = (event_of n r, Has-head o (event_of n r) [], refl)
has_last o t n r (s ∷ rs) =
    let behind = has_last o r.time (n + 1) s rs in
    (behind.0, has_behind o behind.0 (event_of n r) (map_from (n + 1) event_of (s ∷ rs)) behind.1, behind.2)

pub waits_for_last : (c : Config) (rows : List Row) (r : Row) (rs : List Row) (t u : ℕ) → IsReady model.ghosts (record { config = c }) (starts_of c) (map_from 0 event_of (rows ++ (r ∷ rs))) → u ≤ last_time t (r ∷ rs)
    → waiting_at (simulation c (rows ++ (r ∷ rs))) u ≢ []
waits_for_last c rows r rs t u ready l =
    let law = law_of c (rows ++ (r ∷ rs)) ready in
    let o = law.rules.exact in
    let last = has_last o t (length rows) r rs in
    let joined = events_joined rows (r ∷ rs) (length rows) refl in
    let more = copies-append o last.0 (map_from 0 event_of rows) (map_from (length rows) event_of (r ∷ rs)) in
    let there : Has (simulation c (rows ++ (r ∷ rs))).rules.order (map_from 0 event_of (rows ++ (r ∷ rs))) last.0 = subst (λ es. Has (simulation c (rows ++ (r ∷ rs))).rules.order es last.0) joined (let h = last.1 in omega (arith, more, h)) in
    initial_waits (simulation c (rows ++ (r ∷ rs))) law u last.0 there (let is = last.2 in omega (arith, is, l))

-- rows that rise are not before the time from which they rise
pub rising_late : (t : ℕ) (rs : List Row) → RiseFrom t rs → All (λ row. t ≤ row.time) rs
rising_late t rs up = go t t rs (omega arith) up
  where
    go : (t u : ℕ) (rs : List Row) → t ≤ u → RiseFrom u rs → All (λ row. t ≤ row.time) rs
    go t u [] l up = All-nil (λ row. t ≤ row.time)
    go t u (r ∷ rs) l up = let here = up.0 in All-cons (λ row. t ≤ row.time) r rs (omega (arith, here)) (go t r.time rs (omega (arith, here)) up.1)

pub rising_last : (t : ℕ) (rs : List Row) → RiseFrom t rs → t ≤ last_time t rs
rising_last t [] up = omega arith
rising_last t (r ∷ rs) up = let here = up.0 in let more = rising_last r.time rs up.1 in omega (arith, here, more)

pub last_early : (t edges : ℕ) (rs : List Row) → t ≤ latest_time → All (IsRow edges) rs → last_time t rs ≤ latest_time
last_early t edges [] l all = l
last_early t edges (r ∷ rs) l all = last_early r.time edges rs (All-head (IsRow edges) r rs all).time (All-tail (IsRow edges) r rs all)

-- What is met

-- what is met on the way to some time is met on the way of all
pub meets_all : (c : Config) (rows : List Row) (t : ℕ) → IsReady model.ghosts (record { config = c }) (starts_of c) (map_from 0 event_of rows) → Meets (simulation c rows) t is_exhausted → Meets (simulation c rows) end_of_time is_exhausted
meets_all c rows t ready met = meets_by (simulation c rows) (law_of c rows ready) end_of_time t is_exhausted (λ e v. (valid_ranges c e v).time) met

pub meets_sooner : (c : Config) (rows : List Row) (t u : ℕ) → t ≤ u → IsReady model.ghosts (record { config = c }) (starts_of c) (map_from 0 event_of rows) → Meets (simulation c rows) t is_exhausted → Meets (simulation c rows) u is_exhausted
meets_sooner c rows t u l ready met = meets_later (simulation c rows) (law_of c rows ready) t u is_exhausted l met

-- The end

-- while something waits, it does so at the time that the run has reached
pub waits_now : (r : RunState) (rows : List Row) → IsRunOn rows r → r.waiting ≢ [] → waiting_at (simulation r.config rows) r.time ≢ []
waits_now r rows run some none = some (reached_some (simulation r.config rows) (law_of r.config rows run.ready) r.time r.states r.waiting run.reached none)

pub waits_no_more : (r : RunState) (rows : List Row) → IsRunOn rows r → r.waiting ≡ [] → waiting_at (simulation r.config rows) r.time ≡ []
waits_no_more r rows run none = reached_none (simulation r.config rows) (law_of r.config rows run.ready) r.time r.states r.waiting run.reached none

-- the mark that comes next is not far past the last one
pub passed : (time start every next : ℕ) (ms : List Moment) → next ≡ start + length ms * every → (ms ≡ []) ⊎ (next ≤ time + every) → (ms ≡ []) ⊎ (start + length ms * every ≤ time + every)
passed time start every next ms is (inl none) = inl none
passed time start every next ms is (inr l) = inr (omega (arith, is, l))

-- the last of some rows
pub last_some : (t : ℕ) (rows : List Row) (x : Row) → slice_get rows (length rows - 1) ≡ Some x → last_time t rows ≡ x.time
last_some t [] x is = cc
last_some t (r ∷ []) x is = let same : r ≡ x = cc in ap (λ (w : Row). w.time) same
last_some t (r ∷ s ∷ rs) x is =
    let at : length (r ∷ s ∷ rs) - 1 ≡ suc (length (s ∷ rs) - 1) = omega arith in
    last_some r.time (s ∷ rs) x (subst (λ n. slice_get (r ∷ s ∷ rs) n ≡ Some x) at is)

-- there are some
pub some_rows : (b : Bool) (rows : List Row) → b ≡ (length rows == 0) → b ≡ false → 0 < length rows
some_rows b [] h k = absurd (cc)
some_rows b (r ∷ rs) h k = omega arith

pub within_latest : (t edges : ℕ) (rows : List Row) → 0 < length rows → All (IsRow edges) rows → last_time t rows ≤ latest_time
within_latest t edges [] some all = absurd (omega arith)
within_latest t edges (r ∷ rs) some all = last_early r.time edges rs (All-head (IsRow edges) r rs all).time (All-tail (IsRow edges) r rs all)

pub waits_for_some : (c : Config) (rows piece : List Row) (t u : ℕ) → 0 < length piece → IsReady model.ghosts (record { config = c }) (starts_of c) (map_from 0 event_of (rows ++ piece)) → u ≤ last_time t piece
    → waiting_at (simulation c (rows ++ piece)) u ≢ []
waits_for_some c rows [] t u some ready l = absurd (omega arith)
waits_for_some c rows (r ∷ rs) t u some ready l = waits_for_last c rows r rs t u ready l

-- From one recording to another

-- the moments and what is known of them, where the caches and the marks stay the same
abbrev Known : List Row → Config → ℕ → ℕ → ℕ → List Moment → Type 0
Known rows c start every count ms =
    AreMomentsFrom (simulation c rows) every start ms × ((n : ℕ) → n < count → waiting_at (simulation c rows) (start + n * every) ≢ [])

known_moved : (rows : List Row) (c k : Config) (s t e f count : ℕ) (ms : List Moment) → k ≡ c → t ≡ s → f ≡ e → Known rows c s e count ms → Known rows k t f count ms
known_moved rows c k s t e f count ms config start every known =
    subst (λ x. Known rows x t f count ms) (sym config) (subst (λ x. Known rows c x f count ms) (sym start) (subst (λ x. Known rows c s x count ms) (sym every) known))

module _ (r after : RecordingState) (rows : List Row) (config : after.run.config ≡ r.run.config) (start : after.start ≡ r.start) (every : after.every ≡ r.every) (run : IsRunOn rows after.run) where
  -- a recording that has gone on, and passed no mark
  pub goes_recorded : IsRecordingOf rows r → after.moments ≡ r.moments → IsRecordingOf rows after
  goes_recorded is same =
      let known = known_moved rows r.run.config after.run.config r.start after.start r.every after.every (length r.moments) r.moments config start every (is.moments, is.needed) in
      let all = subst (λ ms. Known rows after.run.config after.start after.every (length ms) ms) (sym same) known in
      record { run = run; moments = all.0; needed = all.1 }

  module _ (count : length after.moments ≡ length r.moments + 1) (moments : AreMomentsFrom (simulation r.run.config rows) r.every r.start after.moments) where
    -- one that has passed a mark at which an event waits
    pub records_on : IsRecordingOf rows r → waiting_at (simulation r.run.config rows) (next_mark r) ≢ [] → IsRecordingOf rows after
    records_on is waits =
        let needed : (n : ℕ) → n < length after.moments → waiting_at (simulation r.run.config rows) (r.start + n * r.every) ≢ [] = λ n l. elim (cases_lt n (length r.moments)) [
          | inl k ↦ is.needed n k
          | inr k ↦ let same : n ≡ length r.moments = omega (arith, count, l, k) in subst (λ m. waiting_at (simulation r.run.config rows) (r.start + m * r.every) ≢ []) (sym same) waits
        ] in
        let known = known_moved rows r.run.config after.run.config r.start after.start r.every after.every (length after.moments) after.moments config start every (moments, needed) in
        record { run = run; moments = known.0; needed = known.1 }

-- a recording that has come to the last of its moments, at all before which an event waits
pub record HasPassed (rows : List Row) (r : RecordingState) : Type 0 where
  pub more : ℕ
  pub count : length r.moments ≡ more + 1
  pub time : r.run.time ≡ r.start + more * r.every
  pub run : IsRunOn rows r.run
  pub moments : AreMomentsFrom (simulation r.run.config rows) r.every r.start r.moments
  pub needed : (n : ℕ) → n < more → waiting_at (simulation r.run.config rows) (r.start + n * r.every) ≢ []

module _ (r after : RecordingState) (rows : List Row) (config : after.run.config ≡ r.run.config) (start : after.start ≡ r.start) (every : after.every ≡ r.every) (run : IsRunOn rows after.run)
    (count : length after.moments ≡ length r.moments + 1) (moments : AreMomentsFrom (simulation r.run.config rows) r.every r.start after.moments) (time : after.run.time ≡ next_mark r) where
  stands : after.run.time ≡ after.start + length r.moments * after.every
  stands = time ∙ (λ i. (sym start) i + length r.moments * (sym every) i)

  pub passes_first : IsRecordingOf rows r → HasPassed rows after
  passes_first is =
      let known = known_moved rows r.run.config after.run.config r.start after.start r.every after.every (length r.moments) after.moments config start every (moments, is.needed) in
      record { more = length r.moments; count = count; time = stands; run = run; moments = known.0; needed = known.1 }

  pub passes_on : HasPassed rows r → r.run.waiting ≢ [] → HasPassed rows after
  passes_on passed some =
      let before = passed.count in
      let now = waits_now r.run rows passed.run some in
      let needed : (n : ℕ) → n < length r.moments → waiting_at (simulation r.run.config rows) (r.start + n * r.every) ≢ [] = λ n l. elim (cases_lt n passed.more) [
        | inl k ↦ passed.needed n k
        | inr k ↦ let same : n ≡ passed.more = omega (arith, before, l, k) in subst (λ t. waiting_at (simulation r.run.config rows) t ≢ []) (passed.time ∙ ap (λ m. r.start + m * r.every) (sym same)) now
      ] in
      let known = known_moved rows r.run.config after.run.config r.start after.start r.every after.every (length r.moments) after.moments config start every (moments, needed) in
      record { more = length r.moments; count = count; time = stands; run = run; moments = known.0; needed = known.1 }

-- where nothing waits at the last moment, they are the history of a run of the rows
pub ends_recorded : (r : RecordingState) (rows : List Row) → HasPassed rows r → r.run.waiting ≡ [] → IsHistory (simulation r.run.config rows) r.start r.every r.moments
ends_recorded r rows passed none = record {
  more = passed.more;
  count = passed.count;
  moments = passed.moments;
  ended = subst (λ t. waiting_at (simulation r.run.config rows) t ≡ []) passed.time (waits_no_more r.run rows passed.run none);
  needed = passed.needed;
}

-- the same caches and marks, and the same moments
pub history_of : (rows : List Row) (c k : Config) (s t e f : ℕ) (ms ns : List Moment) → c ≡ k → s ≡ t → e ≡ f → ms ≡ ns → IsHistory (simulation c rows) s e ms → IsHistory (simulation k rows) t f ns
history_of rows c k s t e f ms ns config start every same history =
    subst (λ x. IsHistory (simulation x rows) t f ns) config (subst (λ x. IsHistory (simulation c rows) x f ns) start (subst (λ x. IsHistory (simulation c rows) s x ns) every (subst (IsHistory (simulation c rows) s e) same history)))
