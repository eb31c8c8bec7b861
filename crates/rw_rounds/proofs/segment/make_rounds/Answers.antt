use Rattle.std.proofs.Common.{sym, ap, ◌∙◌, min}
use Rattle.rw_world.specs.declared.step.Step.TheVariants.{Collect}
use Rattle.rw_world.specs.Steps.{apply}
use Rattle.rw_world.specs.Calls.{system_of, with_world}
use Rattle.rw_rounds.proofs.Rounding.{WorldLaws, advanced}
use Rattle.rw_rounds.proofs.segment.make_rounds.Goals as goal

pub put-requires : goal.put-requires
put-requires g c = record { whole = c.in_ok-parts.ensures.leads.leads.after }

pub returns-clause-advanced : goal.returns-clause-advanced
returns-clause-advanced g c =
    let worlds : WorldLaws g.M.Model g.M.Body.Ord.cmp = record { every_exchange = c.every_exchange.ensures; every_floor = c.every_floor.ensures; every_sound_world = c.every_sound_world.ensures; every_step = c.every_step.ensures } in
    let from = c.in_ok-parts.ensures.leads in
    let least = c.in_ok-parts.reached.floor in
    advanced worlds from.first c.in_ok-parts.parts least from.leads c.args.bounds.until _ _ (sym from.of)
    (c.in_ok-world.ensures.world
    ∙ ap (λ t. with_world c.put.result (apply (system_of g.M.Model g.M.Body.Ord.cmp c.put.result) c.put.result.world (Collect t)).0) c.min.ensures
    ∙ ap (λ s. with_world s (apply (system_of g.M.Model g.M.Body.Ord.cmp s) s.world (Collect (min least c.args.bounds.until))).0) c.put.ensures.is)
