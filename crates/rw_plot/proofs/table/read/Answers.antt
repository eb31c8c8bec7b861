use Rattle.std.proofs.Common.{◌≡◌, Err, subst}
use Rattle.std.specs.Prelude.{◌≢◌}
use Rattle.rw_trace.specs.Unread.{records_of}
use Rattle.rw_plot.specs.Tables.{table_of}
use Rattle.rw_plot.specs.declared.plot_fault.PlotFault.TheVariants as fault
use Rattle.rw_plot.proofs.Headers.{header-passed}
use Rattle.rw_plot.proofs.table.read.Goals as goal

pub returns-in_err-layout-clause-header : goal.returns-in_err-layout-clause-header
returns-in_err-layout-clause-header c =
    let e = c.in_err-layout.field-0.0 in
    header-passed c.args.drawing (records_of c.args.bytes.now) c.from_residual.result e c.from_residual.ensures.1
    (subst (λ recs. e ≢ fault.Memory → table_of c.args.drawing recs ≡ Err e) c.open_records-reader.ensures.all c.in_err-layout.ensures.fault)
