use Rattle.rw_vt.specs.System.{system_in}
use Rattle.rw_vt.proofs.Runs.{IsLawful}
use Rattle.rw_vt.proofs.Laws.{lawful, laws_of}
use Rattle.rw_world.proofs.Quiet.{quiet_is}
use Rattle.rw_world.proofs.every_floor.Goals as goal

pub returns : goal.returns
returns g c = λ k w t.
    let laws = laws_of g.met.M.Model g.met.M.Body.Ord.total in
    let y = system_in g.M.Body.Ord.cmp k in
    let m = k.its_model in
    let law : IsLawful y (g.M.Model.IsWellFormed m) = lawful laws m k.starts k.initial k.ready in
    quiet_is y law t w
