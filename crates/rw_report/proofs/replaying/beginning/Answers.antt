use Rattle.std.proofs.Common.{◌≡◌, ◌^◌, List, Ok, ◌∙◌, ap, subst}
use Rattle.rw_trace.specs.declared.Row.{Row}
use Rattle.rw_trace.specs.Trace.{trace_of}
use Rattle.rw_trace.specs.Unread.{records_of}
use Rattle.rw_photo.specs.declared.config.Config.{Config}
use Rattle.rw_photo.specs.Simulation.{simulation}
use Rattle.rw_report.proofs.replaying.beginning.Goals as goal

pub returns-clause-beginning : goal.returns-clause-beginning
returns-clause-beginning c =
    let config : Config = c.args.config.now in
    let rows : List Row = c.in_ok-rows.rows.items in
    record {
      rows = rows;
      accepted = subst (λ n. trace_of n (2 ^ 24) (records_of c.args.bytes.now) ≡ Ok rows) c.edges.ensures c.in_ok-rows.ensures.rows;
      starts_are = c.in_ok-beginning_of_rows.ensures.starts ∙ ap (λ rs. (simulation config rs).starts) c.as_slice.ensures.value;
      initial_are = c.in_ok-beginning_of_rows.ensures.initial ∙ ap (λ rs. (simulation config rs).initial) c.as_slice.ensures.value;
      ready = c.in_ok-beginning_of_rows.ensures.ready;
    }
