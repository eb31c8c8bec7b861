-- All workers of a run in windows, and what they leave of it: of this `IsLeftOfRun` alone stands in a public contract.
use Rattle.std.specs.Prelude.{◌≡◌, ◌≤◌, ◌<◌, ◌%◌, ◌==◌, List, All, filter, length, map, slice_index_or}
use Rattle.std.specs.declared.cmp.Ordering.{Ordering}
use Rattle.rw_vt.specs.Words.{Count, Time, Worker}
use Rattle.rw_vt.specs.declared.event.Event.{Event}
use Rattle.rw_vt.specs.declared.model.Model.{Ghosts}
use Rattle.rw_vt.specs.Rest.{IsRestOf}
use Rattle.rw_vt.specs.System.{IsReady, system}
use Rattle.rw_exchange.specs.Ports.{IsOpening, StayAnOpening}
use Rattle.rw_windows.specs.Working.{CanBegin, HasWorked, ShareState}

-- these n workers share a run of the model m, from these states and with these events, and can begin
pub record AreBegun {M S B U : Type 0} (model : Ghosts M S B U) (order : B → B → Ordering) (m : M)
    (n : Count) (end : Time) (states : List S) (events : List (Event B))
    (ws : List (ShareState M S B)) : Type 0 where
  pub many : length ws ≡ n
  pub can_begin : All (CanBegin model order m) ws
  pub numbers : (i : Worker) (d : ShareState M S B) → i < n → (slice_index_or ws i d).number ≡ i
  pub terms : All (λ w. (w.workers ≡ n) × (w.end ≡ end) × (w.starts ≡ states)) ws
  pub given : (i : Worker) (d : ShareState M S B) → i < n
      → (slice_index_or ws i d).given ≡ filter (λ e. e.to % n == i) events
  pub opening : IsOpening (map (λ w. w.port) ws)
  pub stays : StayAnOpening (map (λ w. w.port) ws)

-- these workers shared a run, and have come to the end
pub record HaveEnded {M S B U : Type 0} (model : Ghosts M S B U) (order : B → B → Ordering) (m : M)
    (n : Count) (end : Time) (states : List S) (events : List (Event B))
    (ws : List (ShareState M S B)) : Type 0 where
  pub begun : List (ShareState M S B)
  pub were : AreBegun model order m n end states events begun
  pub many : length ws ≡ n
  pub worked : (i : Worker) (d e : ShareState M S B) → i < n
      → HasWorked model order m (slice_index_or begun i d) (slice_index_or ws i e)
  pub done : All (λ w. w.end ≤ w.until) ws

-- what is left of a run, once all before the end is executed: it is ready to go on from there, nothing is before the
-- end, and it ends as the run, whatever more comes from outside, none of it before the end
pub record IsLeftOfRun {M S B U : Type 0} (model : Ghosts M S B U) (order : B → B → Ordering)
    (m : M)
    (end : Time) (states : List S) (events : List (Event B))
    (states' : List S) (events' : List (Event B)) : Type 0 where
  pub ready : IsReady model m states' events'
  pub rest : IsRestOf (system model order m states events) end states' events'
  pub late : All (λ e. end ≤ e.time) events'
