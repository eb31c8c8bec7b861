use Rattle.std.proofs.Common.{rules, arith, ◌<◌, length, [], ◌∷◌, ◌++◌, ◌∙◌, ap, get_or}
use Rattle.std.specs.List.{slice_set}
use Rattle.std.proofs.lemmas.List.{length-map}
use Rattle.rw_serial.proofs.Lists.{pushed_at}
use Rattle.rw_serial.proofs.ledger.VecVecEventLedger.enter.Goals as goal

pub returns-clause-entered : goal.returns-clause-entered
returns-clause-entered g c =
    let there : c.args.event.to < length c.args.self.now.items = omega (arith, ap length c.requires.2, length-map c.args.self.now.items (λ j. j.items), c.requires.3) in
    λ _ limit journals within are.
    pushed_at (λ j. j.items) c.args.self.now.items c.args.event.to c.index_mut.result.now c.push.new.self c.args.event there c.index_mut.ensures.value (search rules)
    ∙ ap (λ js. slice_set js c.args.event.to (get_or js c.args.event.to [] ++ c.args.event ∷ [])) are
