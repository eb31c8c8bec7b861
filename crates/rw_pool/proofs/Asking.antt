-- What is answered where something was asked.
use Rattle.std.proofs.Common.{◌≡◌, List, [], ◌∷◌, ◌++◌, IfOk, Ok, map, length, get_or, subst, sym, ap, ◌∙◌, arith}
use Rattle.std.specs.declared.snapshot.Snapshot.{Snapshot}
use Rattle.std.specs.Prelude.{Result}
use Rattle.std.specs.List.{AllZip}
use Rattle.rw_vt.specs.declared.refusal.Refusal.{Refusal}
use Rattle.rw_pool.specs.declared.note.Note.{Note}
use Rattle.rw_pool.specs.declared.note.Note.TheVariants.{Asked, Done}
use Rattle.rw_pool.specs.Notes.{IsAsked, may_answer_with}
use Rattle.rw_pool.proofs.Zipped.{zip_push, zip_through}

module _ {J T : Type 0} (Gives : J → T → T → Type 0) where
  -- what the job gives may be answered
  pub may_answer : (job : J) (input : T) (notes : List (Note J T)) (result : Result T Refusal) → IsAsked job input notes → IfOk result (Gives job input) → may_answer_with Gives notes (Done result)
  may_answer job input (Asked j t ∷ []) result asked gives =
      subst (λ x. IfOk result (Gives x t.value)) (sym asked.0) (subst (λ y. IfOk result (Gives job y)) (sym asked.1) gives)
  may_answer job input [] result asked gives = absurd asked
  may_answer job input (Asked j t ∷ (more ∷ rest)) result asked gives = absurd asked
  may_answer job input (Done done ∷ rest) result asked gives = absurd asked

  -- what is answered is what the job gives
  pub was_answered : (job : J) (input : T) (notes : List (Note J T)) (result : Result T Refusal) → IsAsked job input notes → may_answer_with Gives notes (Done result) → IfOk result (Gives job input)
  was_answered job input (Asked j t ∷ []) result asked answer =
      subst (λ x. IfOk result (Gives x input)) asked.0 (subst (λ y. IfOk result (Gives j.value y)) asked.1 answer)
  was_answered job input [] result asked answer = absurd asked
  was_answered job input (Asked j t ∷ (more ∷ rest)) result asked answer = absurd asked
  was_answered job input (Done done ∷ rest) result asked answer = absurd asked

  -- the first that goes through may ask
  pub may_ask : (notes : List (Note J T)) (j : Snapshot J) (t : Snapshot T) → notes ≡ [] → may_answer_with Gives notes (Asked j t)
  may_ask [] j t none = tt
  may_ask (note ∷ rest) j t none = absurd (omega (arith, ap length none))

module _ {J T : Type 0} where
  -- what was asked stands where nothing else went through
  pub is_asked : (job : J) (input : T) (j : Snapshot J) (t : Snapshot T) (notes : List (Note J T)) → notes ≡ Asked j t ∷ [] → j.value ≡ job → t.value ≡ input → IsAsked job input notes
  is_asked job input j t notes is same alike = subst (IsAsked job input) (sym is) (same, alike)

-- the only item that was sent is the one that came
pub came_through : {X : Type 0} (before known after sent all : List X) (x y : X) → before ≡ [] → before ++ known ≡ sent → sent ≡ [] ++ x ∷ [] → known ≡ y ∷ after → all ≡ before ++ y ∷ [] → all ≡ x ∷ []
came_through before known after sent all x y none fifo is next came = came ∙ ap (λ b. b ++ y ∷ []) none ∙ ap (λ z. z ∷ []) (one (sym next ∙ sym (ap (λ b. b ++ known) none) ∙ fifo ∙ is))
  where
    one : y ∷ after ≡ x ∷ [] → y ≡ x
    one e = ap (λ list. get_or list 0 y) e

module _ {J T : Type 0} (Gives : J → T → T → Type 0) (job : J) where
  -- where all went well, each is what the job gives
  all_went : (inputs done : List T) → AllZip (λ t (r : Result T Refusal). IfOk r (Gives job t)) inputs (map (λ d. Ok d) done) → AllZip (Gives job) inputs done
  all_went [] [] known = tt
  all_went [] (d ∷ done) known = absurd known
  all_went (t ∷ inputs) [] known = absurd known
  all_went (t ∷ inputs) (d ∷ done) known = (known.0, all_went inputs done known.1)

  -- what was handed out and answered, and what was done beside it
  pub all_answered : {A : Type 0} (notes : A → List (Note J T)) (inputs others : List T) (own : T) (awaited : List A) (results all : List (Result T Refusal)) (result : Result T Refusal) (done : List T)
      → inputs ≡ others ++ own ∷ [] → AllZip (λ t a. IsAsked job t (notes a)) others awaited → AllZip (λ a r. may_answer_with Gives (notes a) (Done r)) awaited results
      → IfOk result (Gives job own) → all ≡ results ++ result ∷ [] → map (λ d. Ok d) done ≡ all → AllZip (Gives job) inputs done
  all_answered notes inputs others own awaited results all result done is asked answered gave more went =
      let Gave : T → Result T Refusal → Type 0 = λ t r. IfOk r (Gives job t) in
      let each = zip_through (λ t a. IsAsked job t (notes a)) (λ a r. may_answer_with Gives (notes a) (Done r)) Gave others awaited results (λ t a r s p. was_answered Gives job t (notes a) r s p) asked answered in
      let whole = zip_push Gave others results own result each gave in
      all_went inputs done (subst (AllZip Gave inputs) (sym (went ∙ more)) (subst (λ xs. AllZip Gave xs (results ++ result ∷ [])) (sym is) whole))
