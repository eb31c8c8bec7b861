use Rattle.std.proofs.Common.{◌≡◌, eqb, map, sym, ap, ◌∙◌, subst}
use Rattle.rw_vt.specs.System.{IsOutcome}
use Rattle.rw_vt.proofs.Laws.{laws_of}
use Rattle.rw_lp.specs.Process.{done}
use Rattle.rw_world.specs.WorldState.{is_finished}
use Rattle.rw_world.specs.Calls.{Simulation, system_of, simulation_of, world_of}
use Rattle.rw_world.proofs.Floors.{finished_is}
use Rattle.rw_world.proofs.Wholes.{law_of, world_in_order}
use Rattle.rw_world.proofs.world.World.finished.Goals as goal

pub returns : goal.returns
returns g c =
    let laws = laws_of g.met.M.Model g.met.M.Body.Ord.total in
    let x = c.self.inside.parts in
    let whole = c.self.invariant in
    let y = system_of g.M.Model g.M.Body.Ord.cmp (simulation_of x) in
    let is : eqb c.floor.result 1099511627776 ≡ is_finished (world_of x) = ap (λ n. eqb n 1099511627776) c.floor.ensures ∙ finished_is y (law_of laws (simulation_of x) whole.ready) (world_of x) whole.sound in
    record {
      is = subst (λ (v : Simulation g.row.M.Denot g.row.M-State.Denot g.row.M-Body.Denot). eqb c.floor.result 1099511627776 ≡ is_finished v.world) c.self.view_is is;
      outcome = λ e. subst (λ (v : Simulation g.row.M.Denot g.row.M-State.Denot g.row.M-Body.Denot). IsOutcome (system_of g.M.Model g.M.Body.Ord.cmp v) 1099511627776 (map done v.world.processes) (map (λ x. x.state) v.world.processes)) c.self.view_is
          ((world_in_order laws (simulation_of x) whole.ready whole.sound).finished (sym is ∙ e));
    }
