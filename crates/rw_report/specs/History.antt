-- What caches have counted by moments of a run: by the first one, and from then on each so many ticks.
use Rattle.std.specs.Prelude.{◌≡◌, ◌≢◌, ◌+◌, ◌*◌, ◌<◌, List, [], ◌∷◌, length, map}
use Rattle.rw_vt.specs.Moments.{AreStatesAt, waiting_at}
use Rattle.rw_vt.specs.System.{System}
use Rattle.rw_vt.specs.Words.{Count, Time}
use Rattle.rw_trace.specs.declared.Row.{Row}
use Rattle.rw_photo.specs.declared.body.Body.{Body}
use Rattle.rw_photo.specs.Cache.{Cache}
use Rattle.rw_photo.specs.Simulation.{simulation}
use Rattle.rw_report.specs.declared.moments.Moment.{Moment}
use Rattle.rw_report.specs.Run.{IsRunOn, RunState}

-- the moment is t, and its counters are those of the states that executing all events of times below t in order leaves
pub record IsMoment (y : System Cache Body) (t : Time) (m : Moment) : Type 0 where
  pub states : List Cache
  pub time : m.time ≡ t
  pub states_are : AreStatesAt y t states
  pub counted : m.counters.items ≡ map (λ s. s.counters) states

-- the first moment is t, and each is so many ticks after the one before it
abbrev pub AreMomentsFrom : System Cache Body → Time → Time → List Moment → Type 0
AreMomentsFrom y every t [] = Unit {0}
AreMomentsFrom y every t (m ∷ ms) = IsMoment y t m × AreMomentsFrom y every (t + every) ms

-- a moment at `start`, and as many more, each so many ticks after the one before it, as there are up to the first at
-- which no event waits: then all are executed
pub record IsHistory (y : System Cache Body) (start every : Time) (ms : List Moment) : Type 0 where
  pub more : Count
  pub count : length ms ≡ more + 1
  pub moments : AreMomentsFrom y every start ms
  pub ended : waiting_at y (start + more * every) ≡ []
  pub needed : (n : Count) → n < more → waiting_at y (start + n * every) ≢ []

-- where a recorded run stands: the run, when it is looked at, and the moments so far
pub record RecordingState : Type 0 where
  pub run : RunState
  pub start : Time
  pub every : Time
  pub moments : List Moment

-- it is a recording of these rows: the run is one of them, and so are the moments so far, at each of which an event
-- waits
pub record IsRecordingOf (rows : List Row) (r : RecordingState) : Type 0 where
  pub run : IsRunOn rows r.run
  pub moments : AreMomentsFrom (simulation r.run.config rows) r.every r.start r.moments
  pub needed : (n : Count) → n < length r.moments
      → waiting_at (simulation r.run.config rows) (r.start + n * r.every) ≢ []

-- the mark that comes next
abbrev pub next_mark : RecordingState → Time
next_mark r = r.start + length r.moments * r.every

-- ---- what private contracts say of a recording near its end
-- the run is one of these rows and has come to the last of its moments, of which there is one at least; at all before
-- that one an event waits
pub record HasPassedOne (rows : List Row) (r : RecordingState) : Type 0 where
  pub more : Count
  pub count : length r.moments ≡ more + 1
  pub time : r.run.time ≡ r.start + more * r.every
  pub run : IsRunOn rows r.run
  pub moments : AreMomentsFrom (simulation r.run.config rows) r.every r.start r.moments
  pub needed : (n : Count) → n < more
      → waiting_at (simulation r.run.config rows) (r.start + n * r.every) ≢ []
