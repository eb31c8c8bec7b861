-- What a worker sends another after a window.
use Rattle.std.specs.Prelude.{◌≡◌, ◌≤◌, ◌%◌, true, List, [], ◌∷◌, All, IfSome, map, slice_get}
use Rattle.rw_vt.specs.Words.{Count, Time, Worker}
use Rattle.rw_vt.specs.declared.event.Event.{Event}
use Rattle.rw_vt.specs.declared.model.Model.{Ghosts}
use Rattle.rw_vt.specs.System.{flatten}

-- Events for another worker, and no event of a later batch is before the bound; of which model they are, how many
-- workers there are, and which one is meant
pub record BatchState (M B : Type 0) : Type 0 where
  pub events : List (Event B)
  pub bound : Time
  pub model : M
  pub workers : Count
  pub to : Worker

module _ {M B : Type 0} where
  -- the bound of the last batch: no event of a later one is before it
  abbrev pub last_bound : List (BatchState M B) → Time
  last_bound [] = 0
  last_bound (b ∷ []) = b.bound
  last_bound (b ∷ c ∷ bs) = last_bound (c ∷ bs)

  -- all events of these batches
  abbrev pub batch_events : List (BatchState M B) → List (Event B)
  batch_events bs = flatten (map (λ b. b.events) bs)

  -- all events of these lists of batches
  abbrev pub events_in : List (List (BatchState M B)) → List (Event B)
  events_in lists = flatten (map batch_events lists)

  -- the batch is of the model m, for worker v of n
  pub record IsFor (m : M) (n : Count) (v : Worker) (b : BatchState M B) : Type 0 where
    pub model : b.model ≡ m
    pub workers : b.workers ≡ n
    pub to : b.to ≡ v

  -- the batches begin with one that is
  abbrev pub BeginFor : M → Count → Worker → List (BatchState M B) → Type 0
  BeginFor m n v bs =
      (b : BatchState M B)
      × (rest : List (BatchState M B))
      × (bs ≡ b ∷ rest)
      × IsFor m n v b

  -- the batch may follow those before it: its events are valid, for processes of its worker, and not before the last
  -- bound, which does not fall; it is for whom the first one was
  pub record MayFollow {S U : Type 0} (model : Ghosts M S B U)
      (before : List (BatchState M B)) (b : BatchState M B) : Type 0 where
    pub valid : All (λ e. model.is_valid b.model e ≡ true) b.events
    pub theirs : All (λ e. e.to % b.workers ≡ b.to) b.events
    pub in_time : All (λ e. last_bound before ≤ e.time) b.events
    pub further : last_bound before ≤ b.bound
    pub terms : IfSome (slice_get before 0) (λ a. IsFor a.model a.workers a.to b)
