use Rattle.std.proofs.Common.{◌∙◌, sym}
use Rattle.std.proofs.lemmas.Bool.{false≢true}
use Rattle.rw_sweep.proofs.Fields.{great-no-place, other-no-place, unread-no-place}
use Rattle.rw_sweep.proofs.joiner.places.place_in.Goals as goal

pub returns-in_err-place-clause-told : goal.returns-in_err-place-clause-told
returns-in_err-place-clause-told c = rw c.from_residual.ensures (unread-no-place c.args.field.now (sym c.in_err-place.ensures.value))

pub returns-then-place-ge-MAX_CONFIGURATIONS-clause-told : goal.returns-then-place-ge-MAX_CONFIGURATIONS-clause-told
returns-then-place-ge-MAX_CONFIGURATIONS-clause-told c = great-no-place c.args.field.now c.in_ok-place.place (sym c.in_ok-place.ensures.value) c.if-place-ge-MAX_CONFIGURATIONS.true

pub returns-then-not-is_written-clause-told : goal.returns-then-not-is_written-clause-told
returns-then-not-is_written-clause-told c = other-no-place c.args.field.now c.in_ok-place.place (sym c.in_ok-place.ensures.value) (λ e. false≢true (sym c.if-not-is_written.true ∙ c.is_written.ensures.1 e))
