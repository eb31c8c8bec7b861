use Rattle.rw_photo.specs.Cache.{IsWellFormed}
use Rattle.rw_calls.proofs.cache_calls.execute_all.Given as goal

abbrev pub invariant-loop-body : goal.invariant-loop-body
invariant-loop-body l = IsWellFormed l.fn.photo.config 0 l.edge
