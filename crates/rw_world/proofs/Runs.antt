-- Schedules, one step after another.
use Rattle.std.proofs.Common.{◌≡◌, ℕ, ◌+◌, ◌<◌, ◌≤◌, List, [], ◌∷◌, ◌++◌, length, take, drop, get_or, refl, sym, ap, ◌∙◌, subst}
use Rattle.std.proofs.lemmas.List.{take_all, take_more, take-append-drop, drop_more}
use Rattle.std.specs.declared.cmp.Ordering.{Ordering}
use Rattle.rw_vt.specs.declared.model.Model.{Ghosts}
use Rattle.rw_vt.specs.System.{System}
use Rattle.rw_lp.specs.declared.answer.Answer.{Answer}
use Rattle.rw_world.specs.declared.parts.Parts.{Parts}
use Rattle.rw_world.specs.declared.step.Step.{Step}
use Rattle.rw_world.specs.WorldState.{WorldState}
use Rattle.rw_world.specs.Steps.{apply, run, answers}
use Rattle.rw_world.specs.Calls.{Simulation, system_of, with_world, simulation_of, world_of}

module _ {S B : Type 0} (y : System S B) where
  run_push : (w : WorldState S B) (ss : List Step) (s : Step) → run y w (ss ++ s ∷ []) ≡ (apply y (run y w ss) s).0
  run_push w [] s = refl
  run_push w (a ∷ ss) s = run_push (apply y w a).0 ss s

  answers_push : (w : WorldState S B) (ss : List Step) (s : Step) → answers y w (ss ++ s ∷ []) ≡ answers y w ss ++ (apply y (run y w ss) s).1 ∷ []
  answers_push w [] s = refl
  answers_push w (a ∷ ss) s = ap (λ l. (apply y w a).1 ∷ l) (answers_push (apply y w a).0 ss s)

  module _ (w : WorldState S B) (ss : List Step) (k : ℕ) (s : Step) (within : k < length ss) (read : s ≡ get_or ss k s) where
    taken : take (k + 1) ss ≡ take k ss ++ s ∷ []
    taken = take_more ss k s within ∙ ap (λ a. take k ss ++ a ∷ []) (sym read)

    pub run_more : run y w (take (k + 1) ss) ≡ (apply y (run y w (take k ss)) s).0
    run_more = ap (run y w) taken ∙ run_push w (take k ss) s

    pub answers_more : answers y w (take (k + 1) ss) ≡ answers y w (take k ss) ++ (apply y (run y w (take k ss)) s).1 ∷ []
    answers_more = ap (answers y w) taken ∙ answers_push w (take k ss) s

-- a list parted at the k-th element
pub parted_at : {A : Type 0} (xs : List A) (k : ℕ) (x : A) → k < length xs → x ≡ get_or xs k x → xs ≡ take k xs ++ x ∷ drop (k + 1) xs
parted_at xs k x within read = sym (take-append-drop k xs) ∙ ap (λ l. take k xs ++ l) (drop_more xs k x within ∙ ap (λ a. a ∷ drop (k + 1) xs) (sym read))

-- what the first k steps did to the world of x, which is the world v, where those are all
module _ {M S B U : Type 0} (model : Ghosts M S B U) (order : B → B → Ordering) (x : Parts M S B U) (v : Simulation M S B) (is : simulation_of x ≡ v) (steps : List Step) (k : ℕ) (all : length steps ≤ k) where
  pub all_run : (z : Simulation M S B) → z ≡ with_world (simulation_of x) (run (system_of model order (simulation_of x)) (world_of x) (take k steps)) → z ≡ with_world v (run (system_of model order v) v.world steps)
  all_run z went =
      subst (λ (w : Simulation M S B). z ≡ with_world w (run (system_of model order w) w.world steps)) is
      (subst (λ ss. z ≡ with_world (simulation_of x) (run (system_of model order (simulation_of x)) (world_of x) ss)) (take_all k steps all) went)

  pub all_answers : (told : List Answer) → told ≡ answers (system_of model order (simulation_of x)) (world_of x) (take k steps) → told ≡ answers (system_of model order v) v.world steps
  all_answers told are =
      subst (λ (w : Simulation M S B). told ≡ answers (system_of model order w) w.world steps) is
      (subst (λ ss. told ≡ answers (system_of model order (simulation_of x)) (world_of x) ss) (take_all k steps all) are)

-- one step more: `now` is where the first k steps lead from the world of x, and `next` where the step after them leads
module _ {M S B U : Type 0} (model : Ghosts M S B U) (order : B → B → Ordering) (x : Parts M S B U) (now next : Simulation M S B) (steps : List Step) (k : ℕ) (s : Step) (within : k < length steps) (read : s ≡ get_or steps k s)
    (went : now ≡ with_world (simulation_of x) (run (system_of model order (simulation_of x)) (world_of x) (take k steps))) where
  abbrev y : System S B
  y = system_of model order (simulation_of x)

  pub run_next : next ≡ with_world now (apply (system_of model order now) now.world s).0 → next ≡ with_world (simulation_of x) (run y (world_of x) (take (k + 1) steps))
  run_next made =
      subst (λ (v : Simulation M S B). next ≡ with_world v (apply (system_of model order v) v.world s).0) went made
      ∙ ap (with_world (simulation_of x)) (sym (run_more y (world_of x) steps k s within read))

  pub answers_next : (before after : List Answer) (answer : Answer) → before ≡ answers y (world_of x) (take k steps) → answer ≡ (apply (system_of model order now) now.world s).1 → after ≡ before ++ answer ∷ []
      → after ≡ answers y (world_of x) (take (k + 1) steps)
  answers_next before after answer told made more =
      let is = subst (λ (v : Simulation M S B). answer ≡ (apply (system_of model order v) v.world s).1) went made in
      more ∙ ap (λ l. l ++ answer ∷ []) told ∙ ap (λ a. answers y (world_of x) (take k steps) ++ a ∷ []) is ∙ sym (answers_more y (world_of x) steps k s within read)
