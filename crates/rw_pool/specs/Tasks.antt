-- Tasks that a pool is handed.
use Rattle.std.specs.Global.{Global}
use Rattle.std.specs.Prelude.{◌≤◌}
use Rattle.std.specs.Arc.{arc_value}
use Rattle.rtrb.specs.declared.producer.Producer.{Producer}
use Rattle.rtrb.specs.Ring.{sent, known_free}
use Rattle.rw_pool.specs.declared.note.Note.{Note}
use Rattle.rw_pool.specs.declared.note.Kept.{Kept}
use Rattle.rw_pool.specs.declared.task.Task.{Task}
use Rattle.rw_pool.specs.Notes.{IsAsked}

-- the job takes the input, and the answer is awaited
pub record IsTask {J T : Type 0} (Takes : J → T → Type 0)
    (t : Task J T (Producer (Note J T) Global Kept)) : Type 0 where
  pub takes : Takes (arc_value t.job) t.input
  pub asked : IsAsked (arc_value t.job) t.input (sent t.answer)
  pub room : 1 ≤ known_free t.answer
