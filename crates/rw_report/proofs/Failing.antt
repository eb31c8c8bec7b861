-- What a call that failed hands on.
use Rattle.std.proofs.Common.{◌≡◌, Result, Ok, Err, sym, subst}
use Rattle.std.specs.Prelude.{IfOk, OnOk}
use Rattle.std.specs.Result.{IfErr, IsErrAnd}
use Rattle.rw_vt.specs.declared.refusal.Refusal.{Refusal}
use Rattle.rw_vt.specs.declared.refusal.Refusal.TheVariants.{Exhausted, Memory}

-- what holds of an error holds where that one was handed on
pub handed-on : {T E : Type 0} (r : Result T E) (e : E) (P : E → Type 0) → IsErrAnd r (λ y. y ≡ e) → P e → IfErr r P
handed-on (Ok t) e P is p = tt
handed-on (Err y) e P is p = subst P (sym is) p

-- what holds of an answer holds of it in weaker words
pub if_ok_weaker : {T E : Type 0} (r : Result T E) (P Q : T → Type 0) → ((t : T) → P t → Q t) → IfOk r P → IfOk r Q
if_ok_weaker (Ok t) P Q f p = f t p
if_ok_weaker (Err e) P Q f p = tt

pub if_err_weaker : {T E : Type 0} (r : Result T E) (P Q : E → Type 0) → ((e : E) → P e → Q e) → IfErr r P → IfErr r Q
if_err_weaker (Ok t) P Q f p = tt
if_err_weaker (Err e) P Q f p = f e p

-- what holds anyway
pub any_ok : {T E : Type 0} (r : Result T E) (P : Type 0) → P → OnOk r P
any_ok (Ok t) P p = p
any_ok (Err e) P p = tt

-- where memory was refused, no cache was exhausted
pub only_memory : {T : Type 0} (r : Result T Refusal) (P : Type 0) → IsErrAnd r (λ e. e ≡ Memory) → IfErr r (λ e. e ≡ Exhausted → P)
only_memory (Ok t) P is = tt
only_memory (Err e) P is = λ same. absurd (cc)
