use Rattle.std.proofs.Common.{◌≡◌, List, length}
use Rattle.std.specs.List.{sum_by}
use Rattle.rw_vt.specs.declared.event.Event.{Event}
use Rattle.rw_vt.specs.System.{system}
use Rattle.rw_serial.proofs.Midrun.{IsMidrun}
use Rattle.rw_serial.proofs.go_on.Given as goal

abbrev pub invariant-loop-executed : goal.invariant-loop-executed
invariant-loop-executed g l =
    (journals : List (List (Event _)))
    × IsMidrun (system g.M.Model g.M.Body.Ord.cmp l.model l.fn.states.items l.fn.pending.events) (g.M.Model.IsWellFormed l.model) l.states.items journals l.pending.events
    × (l.executed ≡ sum_by length journals)
