use Rattle.rw_sweep.proofs.Cuts.{other-field}
use Rattle.rw_sweep.proofs.joiner.places.place.Goals as goal

pub returns-in_err-place-clause-told : goal.returns-in_err-place-clause-told
returns-in_err-place-clause-told c = rw c.from_residual-in_err-place.ensures (other-field c.args.text.now c.in_ok-field.field.now c.in_ok-field.rest.now c.in_ok-field.ensures.told c.in_ok-field.ensures.first c.in_err-place.ensures.told)
