use Rattle.std.proofs.Common.{◌≡◌, length}
use Rattle.rw_vt.specs.Order.{event_cmp}
use Rattle.rw_rounds.proofs.Looking.{TellsBefore}
use Rattle.rw_rounds.proofs.processes.look_at_each.Given as goal

abbrev pub invariant-loop-place : goal.invariant-loop-place
invariant-loop-place g l = record {
  all : length l.anew ≡ length l.processes;
  tells : TellsBefore (event_cmp g.M.Body.Ord.cmp) l.processes l.anew l.place;
}
