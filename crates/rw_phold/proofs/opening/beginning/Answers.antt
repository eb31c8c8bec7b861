use Rattle.std.proofs.Common.{arith}
use Rattle.std.proofs.lemmas.List.FromFn.{length-map-range_with_len}
use Rattle.rw_phold.specs.Beginning.{first_balls_are_sound, first_holder, holders_may_start}
use Rattle.rw_phold.proofs.opening.beginning.Goals as goal

pub returns-clause-ready : goal.returns-clause-ready
returns-clause-ready c =
    let m = c.args.phold.now in
    let seed = c.args.seed in
    rw (c.in_ok-starts.ensures, c.in_ok-initial.ensures)
    (record {
      enough = length-map-range_with_len (first_holder seed) 0 m.processes;
      well_formed = holders_may_start m seed;
      valid = first_balls_are_sound m c.args.population seed (omega (arith, c.ranges.population.fits));
    })
