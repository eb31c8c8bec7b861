-- A row is added with the number of its object.
use Rattle.std.proofs.Common.{◌<◌, ◌^◌, ℕ, subst}
use Rattle.std.specs.Prelude.{IfOk}
use Rattle.std.proofs.lemmas.Result.{IfErr-weaker, on_ok_weaker}
use Rattle.rw_import.specs.Log.{Saying}
use Rattle.rw_import.specs.Sheet.{AddsRow, RefusesRow}
use Rattle.rw_import.proofs.Collecting.{timely-beside}
use Rattle.rw_import.proofs.csv_log.add_named.Goals as goal

pub add-requires-clause-timely : goal.add-requires-clause-timely
add-requires-clause-timely c =
    timely-beside c.args.terms.options c.args.terms.least _ c.args.said c.in_ok-numbered.numbered c.in_ok-numbered.ensures.said c.in_ok-numbered.ensures.small c.requires.timely

pub returns-clause-texts : goal.returns-clause-texts
returns-clause-texts c = on_ok_weaker c.add.result (λ _. c.in_ok-numbered.ensures.texts) c.add.ensures.after

pub returns-clause-small : goal.returns-clause-small
returns-clause-small c =
    on_ok_weaker c.add.result (λ _. subst (λ (s : Saying ℕ). IfOk s (λ p. p.1 < 2 ^ 64)) c.in_ok-numbered.ensures.said c.in_ok-numbered.ensures.small) c.add.ensures.after

pub returns-clause-adds : goal.returns-clause-adds
returns-clause-adds c =
    on_ok_weaker c.add.result (subst (AddsRow c.args.terms.options c.args.terms.least c.args.sheet.now c.add.new.sheet) c.in_ok-numbered.ensures.said) c.add.ensures.adds

pub returns-clause-after : goal.returns-clause-after
returns-clause-after c = c.add.ensures.after

pub returns-clause-refuses : goal.returns-clause-refuses
returns-clause-refuses c =
    IfErr-weaker c.add.result _ _ (λ e told other. subst (λ (s : Saying ℕ). RefusesRow c.args.terms.options c.args.row c.args.sheet.now s e) c.in_ok-numbered.ensures.said (told other)) c.add.ensures.refuses
