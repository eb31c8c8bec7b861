use Rattle.rw_trace.proofs.Cut.{trace-both}
use Rattle.rw_trace.proofs.parts.read_both.Goals as goal

pub returns-clause-law : goal.returns-clause-law
returns-clause-law g c =
    trace-both c.args.edges c.args.before.now c.args.behind.now c.join-rest.result.1 c.join-rest.result.0 c.both.result c.requires.cut
    c.join-rest.ensures.second c.join-rest.ensures.first c.both.ensures.first c.both.ensures.rest c.both.ensures.few
