-- Lists that go together, place by place.
use Rattle.std.proofs.Common.{◌≡◌, List, [], ◌∷◌, ◌++◌, length, refl, sym, ap, ◌∙◌, subst, append_assoc}
use Rattle.std.specs.List.{AllZip}
use Rattle.rw_pool.proofs.Lists.{all_walked}

-- one more of each
pub zip_push : {A B : Type 0} (R : A → B → Type 0) (xs : List A) (ys : List B) (x : A) (y : B) → AllZip R xs ys → R x y → AllZip R (xs ++ x ∷ []) (ys ++ y ∷ [])
zip_push R [] [] x y known one = (one, tt)
zip_push R [] (b ∷ ys) x y known one = absurd known
zip_push R (a ∷ xs) [] x y known one = absurd known
zip_push R (a ∷ xs) (b ∷ ys) x y known one = (known.0, zip_push R xs ys x y known.1 one)

-- what goes with what goes with it
pub zip_through : {A B C : Type 0} (P : A → B → Type 0) (Q : B → C → Type 0) (S : A → C → Type 0) (xs : List A) (ys : List B) (zs : List C) → ((x : A) (y : B) (z : C) → P x y → Q y z → S x z) → AllZip P xs ys → AllZip Q ys zs → AllZip S xs zs
zip_through P Q S [] [] [] step p q = tt
zip_through P Q S [] [] (c ∷ zs) step p q = absurd q
zip_through P Q S [] (b ∷ ys) zs step p q = absurd p
zip_through P Q S (a ∷ xs) [] zs step p q = absurd p
zip_through P Q S (a ∷ xs) (b ∷ ys) [] step p q = absurd q
zip_through P Q S (a ∷ xs) (b ∷ ys) (c ∷ zs) step p q = (step a b c p.0 q.0, zip_through P Q S xs ys zs step p.1 q.1)

-- what is walked of a list goes with what is made
abbrev pub IsWalkedWith : {A B : Type 0} → (A → B → Type 0) → List A → List A → List B → Type 0
IsWalkedWith {A} R whole rest ys = (done : List A) × (done ++ rest ≡ whole) × AllZip R done ys

-- nothing is walked yet
pub walk_start : {A B : Type 0} (R : A → B → Type 0) (whole : List A) (ys : List B) → ys ≡ [] → IsWalkedWith R whole whole ys
walk_start R whole ys none = ([], refl, subst (AllZip R []) (sym none) tt)

-- one more is walked
pub walk_on : {A B : Type 0} (R : A → B → Type 0) (whole rest rest' : List A) (ys ys' : List B) (x : A) (y : B) → IsWalkedWith R whole rest ys → rest ≡ x ∷ rest' → ys' ≡ ys ++ y ∷ [] → R x y → IsWalkedWith R whole rest' ys'
walk_on R whole rest rest' ys ys' x y known next more one = (
  known.0 ++ x ∷ [],
  append_assoc known.0 (x ∷ []) rest' ∙ ap (λ z. known.0 ++ z) (sym next) ∙ known.1,
  subst (AllZip R (known.0 ++ x ∷ [])) (sym more) (zip_push R known.0 ys x y known.2 one),
)

-- all are walked
pub walked_all : {A B : Type 0} (R : A → B → Type 0) (whole rest : List A) (ys : List B) → IsWalkedWith R whole rest ys → length rest ≡ 0 → AllZip R whole ys
walked_all R whole rest ys known none = subst (λ xs. AllZip R xs ys) (all_walked known.0 rest whole known.1 none) known.2
