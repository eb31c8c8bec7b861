-- What the laws of a model give of the steps of one process that starts well.
use Rattle.std.proofs.Common.{ℕ, ◌<◌, ◌≤◌, [], ◌∷◌}
use Rattle.std.specs.declared.cmp.Ordering.{Ordering}
use Rattle.rw_vt.specs.declared.event.Event.{Event}
use Rattle.rw_vt.specs.declared.event.Letter.{Letter}
use Rattle.rw_vt.specs.declared.model.Model.{Ghosts}
use Rattle.rw_vt.specs.Order.{AtMost}
use Rattle.rw_vt.specs.System.{Rules, rules}
use Rattle.rw_vt.proofs.Sorting.{IsExactOrder}
use Rattle.rw_vt.proofs.Runs.{AreLawful}
use Rattle.rw_vt.proofs.Laws.{Laws, rules_lawful}
use Rattle.rw_lp.specs.Process.{ProcessState, execute_next, deliver}
use Rattle.rw_lp.specs.declared.way.Way.{Way}
use Rattle.rw_lp.specs.declared.way.Way.TheVariants.{Aggressive, Lazy}
use Rattle.rw_lp.specs.Arrival.{undo_by}
use Rattle.rw_lp.specs.Sound.{Stands, SoundAt, Keeps}
use Rattle.rw_lp.proofs.Cited.{execute_keeps, undo_keeps, undo_lazily_keeps, deliver_keeps}

-- of the processes that are started so, of which there are n: what each step keeps
pub record Governs {S B : Type 0} (y : Rules S B) (Started : ℕ → S → Type 0) (g n : ℕ) : Type 0 where
  pub exact : IsExactOrder y.order
  pub by_time : (e f : Event B) → AtMost y.order e f → e.time ≤ f.time
  pub in_range : (p : ℕ) (s : S) → Started p s → p < n
  pub executes : (p : ℕ) (x : ProcessState S B) → Started p x.start → SoundAt y g p x → Keeps y g p x [] (execute_next y p x)
  pub undoes : (way : Way) (p : ℕ) (x : ProcessState S B) → Started p x.start → SoundAt y g p x → Keeps y g p x [] (undo_by way y p x)
  pub delivers : (p : ℕ) (x : ProcessState S B) (l : Letter B) → Started p x.start → SoundAt y g p x → Stands y p l.event → g ≤ l.event.time → Keeps y g p x (l ∷ []) (deliver y.order l x)

-- process p is one of the model's, and starts well in this state
abbrev pub StartsIn : {M S B U : Type 0} → Ghosts M S B U → M → ℕ → S → Type 0
StartsIn model m p s = (p < model.process_count m) × model.IsWellFormed m p s

module _ {M S B U : Type 0} (model : Ghosts M S B U) (order : B → B → Ordering) (m : M) (laws : Laws model order) where
  law : AreLawful (rules model order m) (model.IsWellFormed m)
  law = rules_lawful laws m

  undoing_keeps : (g : ℕ) (way : Way) (p : ℕ) (x : ProcessState S B) → model.IsWellFormed m p x.start → SoundAt (rules model order m) g p x → Keeps (rules model order m) g p x [] (undo_by way (rules model order m) p x)
  undoing_keeps g Aggressive = undo_keeps (rules model order m) law g
  undoing_keeps g Lazy = undo_lazily_keeps (rules model order m) law g

  pub governs : (g : ℕ) → Governs (rules model order m) (StartsIn model m) g (model.process_count m)
  governs g = record {
    exact = law.exact;
    by_time = law.by_time;
    in_range = λ p s starts. starts.0;
    executes = λ p x starts sound. execute_keeps (rules model order m) law g p x starts.1 sound;
    undoes = λ way p x starts sound. undoing_keeps g way p x starts.1 sound;
    delivers = λ p x l starts sound stands from. deliver_keeps (rules model order m) law g p x starts.1 sound l stands from;
  }
