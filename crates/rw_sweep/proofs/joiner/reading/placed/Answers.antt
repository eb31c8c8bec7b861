use Rattle.std.proofs.Common.{◌++◌, ◌∷◌, [], List, ℕ, ap, append_assoc, refl, ◌∙◌}
use Rattle.rw_sweep.specs.Joining.{newline}
use Rattle.rw_sweep.proofs.Fields.{row-has-place, row-placed}
use Rattle.rw_sweep.proofs.joiner.reading.placed.Goals as goal

pub returns-in-Some-place-clause-right : goal.returns-in-Some-place-clause-right
returns-in-Some-place-clause-right c =
    row-placed c.in-Some-place.place c.args.line.now c.in-Some-place.own.now c.without_end-body.result.now c.without_end-body.ensures.told c.without_end-body.ensures.one c.in-Some-place.ensures.told c.in-Some-place.ensures.within c.in-None.ensures

pub returns-in-None-place-clause-fault : goal.returns-in-None-place-clause-fault
returns-in-None-place-clause-fault c = λ after. absurd (row-has-place c.args.line.now c.without_end-body.result.now c.without_end-body.ensures.told c.in-None.ensures c.in-None-place.ensures.told)

pub returns-in-Some-clause-fault : goal.returns-in-Some-clause-fault
returns-in-Some-clause-fault c = λ after.
    let body : List ℕ = c.without_end-body.result.now in (
      refl,
      refl,
      record {
        body = body;
        after = after;
        told = ap (λ l. l ++ after) c.without_end-body.ensures.told ∙ append_assoc body (newline ∷ []) after;
        one = c.without_end-body.ensures.one;
        holds = c.in-Some.ensures;
      },
    )
