-- Refusals that are passed on.
use Rattle.std.proofs.Common.{◌≡◌, Result, Ok, Err, sym, ◌∙◌}
use Rattle.std.specs.Result.{IfErr, IsErrAnd}
use Rattle.rw_vt.specs.declared.refusal.Refusal.{Refusal}
use Rattle.rw_vt.specs.declared.refusal.Refusal.TheVariants.{Exhausted}

-- a refusal that is passed on
pub passed-on : {T : Type 0} (P : Type 0) (r : Result T Refusal) (e : Refusal) → IsErrAnd r (λ f. f ≡ e) → (e ≡ Exhausted → P) → IfErr r (λ f. f ≡ Exhausted → P)
passed-on P (Ok v) e is h = tt
passed-on P (Err f) e is h = λ same. h (sym is ∙ same)
