-- What an error meets, and a value that may be missing.
use Rattle.std.proofs.Common.{◌≡◌, refl, Result, Ok, Err}
use Rattle.std.specs.Prelude.{Option, Some, None, IfSome, IsNone, IsErrAnd, IfOk, OnOk, OnErr}

-- an error meets whatever is said of an `Ok`, and whatever holds anyway may be said of it
pub on_error : {T E : Type 0} (P : Type 0) (Q : E → Type 0) (r : Result T E) → IsErrAnd r Q → OnOk r P
on_error P Q (Ok x) is = absurd is
on_error P Q (Err e) is = tt

pub if_error : {T E : Type 0} (P : T → Type 0) (Q : E → Type 0) (r : Result T E) → IsErrAnd r Q → IfOk r P
if_error P Q (Ok x) is = absurd is
if_error P Q (Err e) is = tt

pub of_error : {T E : Type 0} (P : Type 0) (r : Result T E) → P → OnErr r P
of_error P (Ok x) p = tt
of_error P (Err e) p = p

-- what is said of a value that may be missing holds of the one that is there
pub at_some : {A : Type 0} (P : A → Type 0) (o : Option A) (x : A) → o ≡ Some x → IfSome o P → P x
at_some P o x is h = let g = rw is at h in g

pub when_none : {A : Type 0} (P : Type 0) (o : Option A) → o ≡ None → (IsNone o → P) → P
when_none P o is h = let g = rw is at h in g refl
