use Rattle.std.proofs.Common.{◌+◌, ◌∷◌, min, drop, map, sym, ap, ◌∙◌, arith}
use Rattle.std.proofs.lemmas.List.{at_drop_more, drop_all}
use Rattle.rw_lp.specs.Calls.{least_of_processes}
use Rattle.rw_lp.proofs.LeastTimes.{processes_more}
use Rattle.rw_lp.proofs.least.least_of_processes.Goals as goal

pub loop-process-preserved : goal.loop-process-preserved
loop-process-preserved g c =
    let ps = c.args.processes.now in
    let k = c.loop-process.process-index in
    let now = c.loop-process.least in
    let p = c.process-item.result in
    let rest = drop (k + 1) ps in
    record {
      within = omega (arith, c.min-least.ensures, c.loop-process.invariant.within);
      found =
          ap (λ n. least_of_processes n (map (λ x. x.process) rest)) (c.min-least.ensures ∙ ap (min now) c.least.ensures.is)
          ∙ processes_more 1099511627776 now p.process (map (λ x. x.process) rest) c.loop-process.invariant.within
          ∙ ap (λ q. least_of_processes now (map (λ x. x.process) (q ∷ rest))) c.process-item.is
          ∙ sym (at_drop_more (λ l. least_of_processes now (map (λ x. x.process) l)) ps k p c.loop-process-test.true)
          ∙ c.loop-process.invariant.found;
    }

pub returns : goal.returns
returns g c = sym (ap (λ l. least_of_processes c.loop-process.least (map (λ x. x.process) l)) (drop_all c.loop-process.process-index c.args.processes.now (omega arith))) ∙ c.loop-process.invariant.found
