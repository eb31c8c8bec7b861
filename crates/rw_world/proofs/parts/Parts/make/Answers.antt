use Rattle.std.proofs.lemmas.Result.{IfErr-at_err}
use Rattle.rw_vt.specs.declared.refusal.Refusal.TheVariants.{Memory}
use Rattle.std.proofs.Common.{◌≡◌}
use Rattle.rw_world.proofs.parts.Parts.make.Goals as goal

pub returns-in-UndoLazily-clause-exhausted : goal.returns-in-UndoLazily-clause-exhausted
returns-in-UndoLazily-clause-exhausted g c = λ e. let never = IfErr-at_err (λ r. r ≡ Memory) e c.undo-in-UndoLazily.ensures.memory in cc

pub returns-in-Deliver-clause-exhausted : goal.returns-in-Deliver-clause-exhausted
returns-in-Deliver-clause-exhausted g c = λ e. let never = IfErr-at_err (λ r. r ≡ Memory) e c.deliver.ensures.memory in cc

pub returns-in-Collect-clause-exhausted : goal.returns-in-Collect-clause-exhausted
returns-in-Collect-clause-exhausted g c = λ e. let never = IfErr-at_err (λ r. r ≡ Memory) e c.collect.ensures.memory in cc
