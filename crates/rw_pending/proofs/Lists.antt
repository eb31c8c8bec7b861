-- What is left of a list where all is taken.
use Rattle.std.proofs.Common.{◌≡◌, ℕ, zero, suc, List, [], ◌∷◌, refl, arith, length, drop}

pub dropped_all : {E : Type 0} (xs : List E) (k : ℕ) → k ≡ length xs → drop k xs ≡ []
dropped_all [] zero all = refl
dropped_all [] (suc k) all = absurd (omega arith)
dropped_all (x ∷ xs) zero all = absurd (omega arith)
dropped_all (x ∷ xs) (suc k) all = dropped_all xs k (omega arith)
