-- The last element of a list, and the first one.
use Rattle.std.proofs.Common.{◌≡◌, List, [], ◌∷◌, ◌++◌, sym, subst, ap, ◌∙◌, Option, Some, None}
use denote.Bor.{Bor}
use Rattle.std.specs.Option.{MatchOption, option_copied}
use Rattle.rw_vt.specs.Order.{IsFirst, IsLeastOf}
use Rattle.std.specs.declared.cmp.Ordering.{Ordering}
use Rattle.std.specs.Ordering.{is_gt}
use Rattle.rw_lp.specs.Process.{is_less_than_last, split_last}
use Rattle.rw_lp.proofs.Bridges.{split_push}

module _ {E : Type 0} (cmp : E → E → Ordering) (e : E) where
  pub last_is : (xs front : List E) (l : E) → xs ≡ front ++ l ∷ [] → is_less_than_last cmp e (split_last xs) ≡ is_gt (cmp l e)
  last_is xs front l is = ap (λ v. is_less_than_last cmp e (split_last v)) is ∙ ap (is_less_than_last cmp e) (split_push front l)

-- a copy of the first element
copied_first : {E : Type 0} (r : Option (Bor E)) (l : List E) → MatchOption r (l ≡ []) (λ e. IsFirst l e.now) → MatchOption (option_copied r) (l ≡ []) (IsFirst l)
copied_first None l h = h
copied_first (Some e) l h = h

pub first_is : {E : Type 0} (r : Option (Bor E)) (w v : Option E) (l : List E) → w ≡ option_copied r → MatchOption r (l ≡ []) (λ e. IsFirst l e.now) → w ≡ v → MatchOption v (l ≡ []) (IsFirst l)
first_is r w v l copied first is = subst (λ k. MatchOption k (l ≡ []) (IsFirst l)) is (subst (λ k. MatchOption k (l ≡ []) (IsFirst l)) (sym copied) (copied_first r l first))

copied_least : {E : Type 0} (cmp : E → E → Ordering) (r : Option (Bor E)) (l : List E) → MatchOption r (l ≡ []) (λ e. IsLeastOf cmp l e.now) → MatchOption (option_copied r) (l ≡ []) (IsLeastOf cmp l)
copied_least cmp None l h = h
copied_least cmp (Some e) l h = h

pub least_is : {E : Type 0} (cmp : E → E → Ordering) (r : Option (Bor E)) (w v : Option E) (l : List E) → w ≡ option_copied r → MatchOption r (l ≡ []) (λ e. IsLeastOf cmp l e.now) → w ≡ v → MatchOption v (l ≡ []) (IsLeastOf cmp l)
least_is cmp r w v l copied least is = subst (λ k. MatchOption k (l ≡ []) (IsLeastOf cmp l)) is (subst (λ k. MatchOption k (l ≡ []) (IsLeastOf cmp l)) (sym copied) (copied_least cmp r l least))
