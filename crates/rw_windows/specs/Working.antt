-- A worker that executes for good what waits before some time, and sends the others its events and its bound.
use Rattle.std.specs.Prelude.{◌≡◌, ◌≢◌, ◌≤◌, ◌<◌, ◌+◌, ◌*◌, ◌%◌, ◌==◌, ◌++◌, ℕ, true, List, length, filter, All, IsPermutation, option_map, slice_get, slice_index_or, []}
use Rattle.std.specs.declared.cmp.Ordering.{Ordering}
use Rattle.rw_vt.specs.Words.{Count, Position, Process, Time, Worker}
use Rattle.rw_vt.specs.declared.event.Event.{Event}
use Rattle.rw_vt.specs.declared.model.Model.{Ghosts}
use Rattle.rw_vt.specs.Order.{Has, weigh}
use Rattle.rw_vt.specs.System.{IsReady, Rules, flatten, rules, state_after}
use Rattle.rw_vt.specs.Partway.{IsPartway}
use Rattle.rw_exchange.specs.Ports.{IsOther, IsWide, PortState, SamePort, received_from, sent_to}
use Rattle.rw_windows.specs.Batches.{BatchState, BeginFor, events_in, last_bound}

-- A worker's share of a run. What the worker is: its number and how many there are, the time up to which all execute,
-- how far ahead the model sends at least, where all processes start, and which events it was dealt. What it holds: the
-- states of its processes, in order, what waits, and the time that this has reached; its port, and what is to be handed
-- over to each worker. And times: up to which it executes, before which it receives nothing more, and before which it
-- sends nothing more.
pub record ShareState (M S B : Type 0) : Type 0 where
  pub number : Worker
  pub workers : Count
  pub end : Time
  pub lookahead : Time
  pub starts : List S
  pub given : List (Event B)
  pub states : List S
  pub waiting : List (Event B)
  pub reached : Time
  pub port : PortState (BatchState M B)
  pub outbox : List (List (Event B))
  pub until : Time
  pub bound_in : Time
  pub bound_out : Time

-- all that the model sends is so far ahead of what it is sent for
abbrev pub IsAhead : {M S B U : Type 0} → Ghosts M S B U → M → Time → Type 0
IsAhead {S = S} {B = B} model m lookahead =
    (p : Process) (s : S) (e : Event B)
    → model.IsWellFormed m p s
    → model.is_valid m e ≡ true
    → e.to ≡ p
    → All (λ f. e.time + lookahead ≤ f.time) (model.step m p s e).1

module _ {M S B : Type 0} where
  -- what is to be handed over to worker v
  abbrev pub outbox_to : ShareState M S B → Worker → List (Event B)
  outbox_to x v = slice_index_or x.outbox v []

  -- its processes, its port and its lists are those of its number
  pub record IsSeated {U : Type 0} (model : Ghosts M S B U) (m : M)
      (x : ShareState M S B) : Type 0 where
    pub ready : IsReady model m x.starts (x.given ++ events_in x.port.received)
    pub ahead : IsAhead model m x.lookahead
    pub number : x.number < x.workers
    pub port : x.port.worker ≡ x.number
    pub wide : IsWide x.workers x.port
    pub lists : length x.outbox ≡ x.workers
    pub sends : (v : Worker) → IsOther x.port v → BeginFor m x.workers v (sent_to x.port v)
    pub hears : (v : Worker) → IsOther x.port v
        → BeginFor m x.workers x.number (received_from x.port v)

  -- what the worker has executed, and what is left of it
  pub record HasDone (y : Rules S B) (x : ShareState M S B) : Type 0 where
    pub journal : Process → List (Event B)
    pub partway : IsPartway
        (record { rules = y; starts = x.starts; initial = x.given ++ events_in x.port.received })
        journal x.waiting (events_in x.port.sent ++ flatten x.outbox)
    pub own : (q : Process) → (q % x.workers ≡ x.number → ⊥) → journal q ≡ []
    pub ours : All (λ a. a.to % x.workers ≡ x.number) x.waiting
    pub theirs : (v : Worker) → IsOther x.port v
        → All (λ a. (a.to % x.workers ≡ v) × (y.valid a ≡ true)) (outbox_to x v)
    pub none : outbox_to x x.number ≡ []
    pub states_are : (k : Position) → slice_get x.states k
        ≡ option_map
        (λ s. state_after (y.step (x.number + k * x.workers)) s
        (journal (x.number + k * x.workers)))
        (slice_get x.starts (x.number + k * x.workers))
    pub before : (q : Process) (a : Event B) → Has y.order (journal q) a → a.time < x.until

  -- what is sent is not before the bound that was sent, and what is received not before the one received
  pub record IsInTime (x : ShareState M S B) : Type 0 where
    pub until : (x.until ≤ x.bound_in) × (x.until ≤ x.bound_out) × (x.until ≤ x.end)
    pub reached : x.reached < x.bound_in
    pub bound_in : (v : Worker) → IsOther x.port v
        → x.bound_in ≤ last_bound (received_from x.port v)
    pub told : (v : Worker) → IsOther x.port v → last_bound (sent_to x.port v) ≤ x.bound_out
    pub far : All (λ a. x.bound_out ≤ a.time + x.lookahead) x.waiting
    pub hears : x.bound_out ≤ x.bound_in + x.lookahead
    pub outbox : (v : Worker) → IsOther x.port v
        → All (λ a. (x.until ≤ a.time) × (last_bound (sent_to x.port v) ≤ a.time)) (outbox_to x v)

  -- the worker can work, with the model m
  pub record IsAtWork {U : Type 0} (model : Ghosts M S B U) (order : B → B → Ordering) (m : M)
      (x : ShareState M S B) : Type 0 where
    pub seated : IsSeated model m x
    pub done : HasDone (rules model order m) x
    pub times : IsInTime x

  -- it is the same worker before and after, perhaps once it has worked
  pub record SameWorker (before after : ShareState M S B) : Type 0 where
    pub number : after.number ≡ before.number
    pub workers : after.workers ≡ before.workers
    pub end : after.end ≡ before.end
    pub lookahead : after.lookahead ≡ before.lookahead
    pub starts : after.starts ≡ before.starts
    pub given : after.given ≡ before.given
    pub port : SamePort before.port after.port

  -- these events were dealt out, to its own processes or to be handed over to others
  pub record IsDealt (before after : ShareState M S B) (sent : List (Event B)) : Type 0 where
    pub same : after ≡ record before { waiting = after.waiting; outbox = after.outbox }
    pub lists : length after.outbox ≡ length before.outbox
    pub waiting : IsPermutation
        (before.waiting ++ filter (λ e. e.to % before.workers == before.number) sent) after.waiting
    pub outbox : (v : Worker) → v ≢ before.number → outbox_to after v
        ≡ outbox_to before v ++ filter (λ e. e.to % before.workers == v) sent
    pub none : outbox_to after before.number ≡ outbox_to before before.number
    pub all : (h : Event B → ℕ) → weigh h after.waiting + weigh h (flatten after.outbox)
        ≡ (weigh h before.waiting + weigh h (flatten before.outbox)) + weigh h sent

  -- what waits is in another order, and has not reached any time yet
  pub record IsReordered (before after : ShareState M S B) : Type 0 where
    pub same : after ≡ record before { waiting = after.waiting; reached = 0 }
    pub waiting : IsPermutation before.waiting after.waiting

  -- nothing is to be handed over
  abbrev pub HandedOver : ShareState M S B → Type 0
  HandedOver x = (v : Worker) → outbox_to x v ≡ []

  -- it can work, and nothing is to be handed over yet
  abbrev pub CanBegin :
      {U : Type 0} → Ghosts M S B U → (B → B → Ordering) → M → ShareState M S B → Type 0
  CanBegin model order m x = IsAtWork model order m x × HandedOver x

  -- it has worked, and can still; where it has come to the end, nothing waits before that
  pub record HasWorked {U : Type 0} (model : Ghosts M S B U) (order : B → B → Ordering) (m : M)
      (before after : ShareState M S B) : Type 0 where
    pub at_work : IsAtWork model order m after
    pub same : SameWorker before after
    pub waits : after.until ≡ after.end → All (λ a. after.end ≤ a.time) after.waiting
