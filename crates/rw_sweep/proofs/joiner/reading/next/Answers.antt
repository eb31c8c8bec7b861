use Rattle.std.proofs.Common.{List, ℕ, subst, sym}
use Rattle.std.proofs.lemmas.Result.{err_from_is_err_and}
use Rattle.rw_sweep.specs.JoinFaults.{IsWrongLine}
use Rattle.rw_sweep.specs.declared.joiner.join_fault.JoinFault.{JoinFault}
use Rattle.rw_sweep.proofs.joiner.reading.next.Goals as goal

pub returns-in_err-place-clause-fault : goal.returns-in_err-place-clause-fault
returns-in_err-place-clause-fault c =
    let after : List ℕ = c.in-Some.after.now in
    let e : JoinFault = c.in_err-place.field-0.0 in
    let p = err_from_is_err_and c.from_residual.result c.from_residual.ensures.1 in
    rw (p.1, p.2) (λ some. subst (λ t. IsWrongLine c.args.file c.args.row t e) (sym c.in-Some.ensures.told) (c.in_err-place.ensures.fault after))
