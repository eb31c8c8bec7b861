-- An output that takes one event more.
use Rattle.std.proofs.Common.{◌≡◌, ℕ, ◌+◌, ◌<◌, List, [], ◌∷◌, ◌++◌, length, get_or, take, refl, sym, ◌∙◌, ap, subst, arith, add-one}
use Rattle.std.proofs.lemmas.List.{take_more}
use Rattle.rw_vt.specs.declared.event.Event.{Event}
use Rattle.rw_engine.specs.Outputs.{TookEach}

module _ {O B : Type 0} (Takes : O → Event B → O → Type 0) where
  one_more : (a : O) (es : List (Event B)) (b : O) (e : Event B) (c : O) → TookEach Takes a es b → Takes b e c → TookEach Takes a (es ++ e ∷ []) c
  one_more a [] b e c was takes = (c, subst (λ x. Takes x e c) was takes, refl)
  one_more a (x ∷ es) b e c was takes = (was.0, was.1, one_more was.0 es b e c was.2 takes)

  -- a loop that commits each event has committed those up to one more
  pub taken_more : (a b c : O) (events : List (Event B)) (i : ℕ) (e : Event B) → i < length events → e ≡ get_or events i e
      → TookEach Takes a (take i events) b → Takes b e c → TookEach Takes a (take (i + 1) events) c
  taken_more a b c events i e l at was takes =
      subst (λ es. TookEach Takes a es c) (ap (λ x. take i events ++ x ∷ []) at ∙ sym (take_more events i e l)) (one_more a (take i events) b e c was takes)
