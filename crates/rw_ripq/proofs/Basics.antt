-- Case distinctions that the other files share.
use Rattle.std.proofs.Common.{◌≡◌, ℕ, zero, suc, ◌≤◌, List, [], ◌∷◌, drop, length, arith, refl, sym, ◌∙◌, Bool, true, false}
use Rattle.std.proofs.Math.Seq.{drop-nil}
use Rattle.std.specs.Prelude.{Option, Some, None, IsSome}

pub by_bool : {P : Type 0} (b : Bool) → (b ≡ true → P) → (b ≡ false → P) → P
by_bool true t f = t refl
by_bool false t f = f refl

pub clash : true ≡ false → ⊥
clash e = cc

pub true_not_false : {P : Type 0} (b : Bool) → b ≡ true → b ≡ false → P
true_not_false b t f = absurd (clash (sym t ∙ f))

pub none_some : {X : Type 0} {v : X} → None ≡ Some v → ⊥
none_some e = cc

pub some_is : {X : Type 0} {u v : X} → Some u ≡ Some v → u ≡ v
some_is e = cc

pub of_some : {X : Type 0} (o : Option X) → IsSome o → (x : X) × (o ≡ Some x)
of_some None is = absurd (cc)
of_some (Some x) is = (x, refl)

-- nothing is left of a list at its end
pub nothing_left : {X : Type 0} (xs : List X) (i : ℕ) → length xs ≤ i → drop i xs ≡ []
nothing_left [] i past = drop-nil i
nothing_left (x ∷ xs) zero past = absurd (omega (arith, past))
nothing_left (x ∷ xs) (suc i) past = nothing_left xs i (omega (arith, past))
