-- What a process has done, and the records that take it back (reverse computation: Carothers, Perumalla and Fujimoto
-- 1999).
use Rattle.std.specs.Prelude.{◌≡◌, ◌<◌, true, List, [], ◌∷◌, ◌++◌, Option, Some, None, All}
use Rattle.std.specs.declared.cmp.Ordering.{Ordering}
use Rattle.rw_vt.specs.Words.{Process}
use Rattle.rw_vt.specs.declared.event.Event.{Event}
use Rattle.rw_vt.specs.declared.model.Model.{Ghosts}
use Rattle.rw_vt.specs.Order.{Each, IsAscending}
use Rattle.rw_vt.specs.Valid.{IsSentBy}
use Rattle.rw_vt.specs.System.{state_after}
use Rattle.rw_lp.specs.declared.undo_record.UndoRecord.{UndoRecord}
use Rattle.rw_lp.specs.declared.undo_record.Undone.{Undone}

-- a process of a model: its number, where it started, what it did, and where that led
pub record HistoryState (M S B : Type 0) : Type 0 where
  pub model : M
  pub number : Process
  pub start : S
  pub committed : List (Event B)
  pub processed : List (Event B)
  pub state : S

abbrev pub history_of : {M S B : Type 0} → M → Process → S → List (Event B) → List (Event B) → S
    → HistoryState M S B
history_of m p start committed processed state =
    record {
      model = m;
      number = p;
      start = start;
      committed = committed;
      processed = processed;
      state = state;
    }

-- committed, then processed
abbrev pub done_in : {M S B : Type 0} → HistoryState M S B → List (Event B)
done_in x = x.committed ++ x.processed

-- the state is that after all that is done
abbrev pub IsFolded : {M S B U : Type 0} → Ghosts M S B U → HistoryState M S B → Type 0
IsFolded model x = x.state ≡ state_after (model.step x.model x.number) x.start (done_in x)

-- e is valid in the model m, and goes to process p
abbrev pub IsFor : {M S B U : Type 0} → Ghosts M S B U → M → Process → Event B → Type 0
IsFor model m p e = (model.is_valid m e ≡ true) × (e.to ≡ p)

-- the record takes back event e, which process p may execute in the state before
pub record IsRecordOf {M S B U : Type 0} (model : Ghosts M S B U) (m : M) (p : Process) (before : S)
    (e : Event B) (r : UndoRecord B U) : Type 0 where
  pub valid : model.is_valid m e ≡ true
  pub here : e.to ≡ p
  pub sends : r.sends ≡ (model.step m p before e).1
  pub links : model.Links m p before e r.undo (model.step m p before e).0

-- from the state s these events, each with its record, lead to the state t
abbrev pub LeadsByRecords : {M S B U : Type 0} → Ghosts M S B U → M → Process → S → List (Event B)
    → List (UndoRecord B U) → S → Type 0
LeadsByRecords model m p s [] [] t = t ≡ s
LeadsByRecords model m p s [] (r ∷ rs) t = ⊥
LeadsByRecords model m p s (e ∷ es) [] t = ⊥
LeadsByRecords model m p s (e ∷ es) (r ∷ rs) t =
    IsRecordOf model m p s e r × LeadsByRecords model m p (model.step m p s e).0 es rs t

-- from a well-formed start the committed events lead to a well-formed state, and the processed ones from there to the
-- state; all are in order and for the process, and each processed one can be taken back
pub record IsLinked {M S B U : Type 0} (model : Ghosts M S B U) (cmp : Event B → Event B → Ordering)
    (x : HistoryState M S B) (records : List (UndoRecord B U)) : Type 0 where
  pub number : x.number < model.process_count x.model
  pub start : model.IsWellFormed x.model x.number x.start
  pub well_formed : model.IsWellFormed x.model x.number
      (state_after (model.step x.model x.number) x.start x.committed)
  pub leads : LeadsByRecords model x.model x.number
      (state_after (model.step x.model x.number) x.start x.committed) x.processed records x.state
  pub committed : Each cmp (IsFor model x.model x.number) x.committed
  pub order : IsAscending cmp (x.committed ++ x.processed)

-- the last processed event e of x, which had sent this, is taken back, which leads to z
pub record IsTakenBack {M S B U : Type 0} (model : Ghosts M S B U)
    (cmp : Event B → Event B → Ordering) (x z : HistoryState M S B) (e : Event B)
    (sends : List (Event B)) : Type 0 where
  pub last : x.processed ≡ z.processed ++ e ∷ []
  pub rest : z ≡ record x {
    processed = z.processed;
    state = state_after (model.step x.model x.number) x.start (x.committed ++ z.processed);
  }
  pub valid : model.is_valid x.model e ≡ true
  pub here : e.to ≡ x.number
  pub order : IsAscending cmp (done_in x)
  pub sent : sends ≡ (model.step x.model x.number
      (state_after (model.step x.model x.number) x.start (x.committed ++ z.processed)) e).1
  pub future : All (λ m. IsSentBy x.number e m × (model.is_valid x.model m ≡ true)) sends

-- the last processed event of x, if there is one, is taken back
abbrev pub TookBack : {M S B U : Type 0} → Ghosts M S B U → (Event B → Event B → Ordering)
    → HistoryState M S B → HistoryState M S B → Option (Undone B) → Type 0
TookBack model cmp x z None = (x.processed ≡ []) × (z ≡ x)
TookBack model cmp x z (Some u) = IsTakenBack model cmp x z u.event u.sends
