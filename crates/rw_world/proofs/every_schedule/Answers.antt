use Rattle.rw_vt.specs.System.{system_in}
use Rattle.rw_vt.proofs.Runs.{IsLawful}
use Rattle.rw_vt.proofs.Laws.{lawful, laws_of}
use Rattle.rw_world.specs.WorldState.{opening_world}
use Rattle.rw_world.specs.Steps.{run}
use Rattle.rw_world.proofs.Schedules.{run_sound}
use Rattle.rw_world.proofs.Opened.{opened_sound}
use Rattle.rw_world.proofs.Outcomes.{in_order}
use Rattle.rw_world.proofs.every_schedule.Goals as goal

pub returns : goal.returns
returns g c = λ k steps.
    let laws = laws_of g.met.M.Model g.met.M.Body.Ord.total in
    let y = system_in g.M.Body.Ord.cmp k in
    let m = k.its_model in
    let law : IsLawful y (g.M.Model.IsWellFormed m) = lawful laws m k.starts k.initial k.ready in
    in_order y law (run y (opening_world y) steps) (run_sound y law (opening_world y) (opened_sound y law) steps)
