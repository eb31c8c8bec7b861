use Rattle.std.proofs.Common.{◌≡◌, ◌*◌, None, replicate}
use Rattle.rw_rounds.proofs.tournament.Tournament.new.Given as goal

abbrev pub invariant-loop-place : goal.invariant-loop-place
invariant-loop-place g l = l.nodes.items ≡ replicate (2 * l._place) None
