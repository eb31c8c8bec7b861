use Rattle.rw_command.proofs.Sweeps.{handed-left, left-by-sweep}
use Rattle.rw_command.proofs.sweep.in_memory.Goals as goal

pub returns-in_err-sweep-clause-nothing : goal.returns-in_err-sweep-clause-nothing
returns-in_err-sweep-clause-nothing g c =
    let e = c.in_err-sweep.field-0.0 in
    let said = c.in_err-sweep.ensures in
    let sweeping = c.args.sweeping.now in
    handed-left c.from_residual.result e _ _ c.from_residual.ensures.1
    (left-by-sweep sweeping.grid.now sweeping.part sweeping.outlook c.args.trace.now _ _ e said.fault (λ f is. said.nothing f cc) (λ is. said.early cc) said.whole_lines)
