-- What goes through the ring of an answer.
use Rattle.std.specs.Prelude.{◌≡◌, List, [], ◌∷◌, IfOk}
use Rattle.rw_pool.specs.declared.note.Note.{Note}
use Rattle.rw_pool.specs.declared.note.Note.TheVariants.{Asked, Done}

-- what came out of the ring of an answer
pub record AwaitedState (J T : Type 0) : Type 0 where
  pub notes : List (Note J T)

module _ {J T : Type 0} where
  -- what was asked, and nothing else
  abbrev pub IsAsked : J → T → List (Note J T) → Type 0
  IsAsked job input (Asked j t ∷ []) = (j.value ≡ job) × (t.value ≡ input)
  IsAsked job input [] = ⊥
  IsAsked job input (Asked j t ∷ more ∷ rest) = ⊥
  IsAsked job input (Done result ∷ rest) = ⊥

  -- what was asked comes first, and then what the job gives for it
  abbrev pub may_answer_with : (J → T → T → Type 0) → List (Note J T) → Note J T → Type 0
  may_answer_with Gives [] (Asked job input) = Unit {0}
  may_answer_with Gives [] (Done result) = ⊥
  may_answer_with Gives (Asked job input ∷ []) (Asked job' input') = ⊥
  may_answer_with Gives (Asked job input ∷ []) (Done done) = IfOk done (Gives job.value input.value)
  may_answer_with Gives (Asked job input ∷ more ∷ rest) note = ⊥
  may_answer_with Gives (Done result ∷ rest) note = ⊥
