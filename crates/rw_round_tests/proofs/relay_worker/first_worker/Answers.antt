use Rattle.std.proofs.Common.{rules, ◌<◌, length, sym, subst, refl}
use Rattle.std.specs.Prelude.{◌/◌}
use Rattle.rw_rounds.specs.Turns.{IsFit}
use Rattle.rw_round_tests.proofs.FirstWorker.{all_in_place, only_even}
use Rattle.rw_round_tests.proofs.relay_worker.first_worker.Goals as goal

pub returns-clause-fit : goal.returns-clause-fit
returns-clause-fit g c =
    let order = g.M.Body.Ord.cmp in
    let m = c.args.model.now in
    let one = c.in_ok-processes.ensures in
    subst (IsFit g.M.Model order m) (sym c.new-2.ensures.is) (record {
      number = search rules;
      window = search rules;
      in_place = all_in_place order m refl refl c.in_ok-process.process c.args.start c.in_ok-one.field-0.items c.in_ok-process.ensures.opened one;
      complete = λ q less even. subst (λ xs. q / 2 < length xs) (sym one) (only_even q (subst (λ n. q < n) c.requires.two less) even);
      inbox_fair = search rules;
      inbox_own = search rules;
      kept = search rules;
      port = search rules;
      wide = search rules;
    })
