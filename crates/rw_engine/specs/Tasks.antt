-- A task of one of two kinds.
use Rattle.rw_engine.specs.declared.workers.WorkerTask.{WorkerTask}
use Rattle.rw_engine.specs.declared.workers.WorkerTask.TheVariants.{Rounds, Windows}

-- it may be run where one of its kind may
abbrev pub may_run : {A B : Type 0} → (A → Type 0) → (B → Type 0) → WorkerTask A B → Type 0
may_run F S (Rounds task) = F task
may_run F S (Windows task) = S task
