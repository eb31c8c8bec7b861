use Rattle.std.proofs.Common.{◌≡◌, ◌≤◌, subst}
use Rattle.std.specs.Prelude.{filter, nat_lt}
use Rattle.rw_vt.specs.System.{journal_below}
use Rattle.rw_vt.proofs.Laws.{laws_of}
use Rattle.rw_world.specs.Sound.{done_of}
use Rattle.rw_world.specs.Calls.{Simulation, system_of, simulation_of}
use Rattle.rw_world.proofs.Wholes.{world_in_order}
use Rattle.rw_world.proofs.world.World.floor.Goals as goal

pub returns-clause-before : goal.returns-clause-before
returns-clause-before g c = λ t q h.
    let laws = laws_of g.met.M.Model g.met.M.Body.Ord.total in
    let whole = c.self.invariant in
    subst (λ (v : Simulation g.row.M.Denot g.row.M-State.Denot g.row.M-Body.Denot). filter (λ e. nat_lt e.time t) (done_of v.world.processes q) ≡ journal_below (system_of g.M.Model g.M.Body.Ord.cmp v) t q) c.self.view_is
    ((world_in_order laws (simulation_of c.self.inside.parts) whole.ready whole.sound).before_floor t q (subst (λ n. t ≤ n) c.floor.ensures h))
