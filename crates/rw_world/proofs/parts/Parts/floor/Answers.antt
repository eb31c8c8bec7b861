use Rattle.std.proofs.Common.{ap, ◌∙◌, map}
use Rattle.rw_vt.specs.Limits.{end_of_time}
use Rattle.rw_lp.specs.Calls.{least_of_processes}
use Rattle.rw_world.specs.WorldState.{least_of_letters}
use Rattle.rw_world.proofs.parts.Parts.floor.Goals as goal

pub returns : goal.returns
returns g c =
    let ls = c.args.self.now.letters.items in
    let least = c.least_of_processes.ensures ∙ ap (λ ps. least_of_processes end_of_time (map (λ l. l.process) ps)) c.deref.ensures.value in
    c.least_of_letters.ensures ∙ ap (least_of_letters c.least_of_processes.result) c.deref-2.ensures.value ∙ ap (λ n. least_of_letters n ls) least
