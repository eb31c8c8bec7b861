use Rattle.std.proofs.Common.{◌^◌, ◌<◌, List}
use Rattle.rw_vt.specs.declared.event.Event.{Event}
use Rattle.rw_vt.specs.Order.{event_cmp}
use Rattle.rw_vt.specs.System.{system, map_from, flatten, journal_below}
use Rattle.rw_serial.proofs.Left.{left}
use Rattle.rw_serial.proofs.Midrun.{IsMidrun}
use Rattle.rw_serial.proofs.Until.{AreEarly}
use Rattle.rw_serial.proofs.run_until.Given as goal

abbrev pub invariant-events : goal.invariant-events
invariant-events g l =
    (journals : List (List (Event _)))
    × IsMidrun (system g.M.Model g.M.Body.Ord.cmp l.model l.fn.states.items l.fn.pending.events) (g.M.Model.IsWellFormed l.model) l.states.items journals l.pending.events
    × AreEarly (system g.M.Model g.M.Body.Ord.cmp l.model l.fn.states.items l.fn.pending.events) l.until journals
    × (l.fn.pending.time < l.until → l.pending.time < l.until)

abbrev pub decreases-events : goal.decreases-events
decreases-events g l =
    left (event_cmp g.M.Body.Ord.cmp) (flatten (map_from 0 (λ q _. journal_below (system g.M.Model g.M.Body.Ord.cmp l.model l.fn.states.items l.fn.pending.events) (2 ^ 40) q) l.fn.states.items)) l.pending.events
