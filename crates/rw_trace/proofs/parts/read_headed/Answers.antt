use Rattle.rw_trace.proofs.Cut.{trace-joined}
use Rattle.rw_trace.proofs.parts.read_headed.Goals as goal

pub returns : goal.returns
returns g c =
    trace-joined c.args.edges c.args.bytes.now c.in-Some.before.now c.in-Some.behind.now c.join-rest.result.1 c.join-rest.result.0 c.joined.result
    c.in-Some.ensures.parts c.in-Some.ensures.cut c.join-rest.ensures.second c.join-rest.ensures.first c.joined.ensures
