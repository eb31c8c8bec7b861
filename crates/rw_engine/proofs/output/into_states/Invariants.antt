use Rattle.std.proofs.Common.{◌≡◌}
use Rattle.rw_models.specs.Recorded.{states_of}
use Rattle.rw_engine.proofs.output.into_states.Given as goal

abbrev pub invariant-loop-record : goal.invariant-loop-record
invariant-loop-record g l = l.states.items ≡ states_of l.yielded
