-- The parts of a turn, one after another, where none is left at hand.
use Rattle.std.proofs.Common.{◌≡◌, ℕ, ◌+◌, List, [], refl}
use Rattle.std.specs.declared.cmp.Ordering.{Ordering}
use Rattle.rw_vt.specs.declared.event.Letter.{Letter}
use Rattle.rw_vt.specs.declared.model.Model.{Ghosts}
use Rattle.rw_vt.specs.System.{rules}
use Rattle.rw_rounds.specs.declared.inner.Context.{Context}
use Rattle.rw_rounds.specs.declared.inner.Inner.{Inner}
use Rattle.rw_rounds.specs.Working.{role_of, worker_of, CanWork, Deals, DealsWithAll}
use Rattle.rw_rounds.proofs.Adding.{works_none, works_then}

module _ {M S B U : Type 0} (model : Ghosts M S B U) (order : B → B → Ordering) (context : Context M S B U) where
  pub dealt_none : (a : Inner M S B U) (left : List (Letter B)) → CanWork model order context a → left ≡ [] → DealsWithAll model order context a a [] left 0
  dealt_none a left ready none = record { works = works_none (rules model order context.model.now) (role_of a) (worker_of a) [] refl; can_work = ready; none_left = none }

  pub dealt_then : (a b c : Inner M S B U) (at_hand left : List (Letter B)) (n k : ℕ) → Deals model order context a b at_hand [] n → DealsWithAll model order context b c [] left k → DealsWithAll model order context a c at_hand left (n + k)
  dealt_then a b c at_hand left n k first next = record {
    works = works_then (rules model order context.model.now) (role_of a) (worker_of a) (worker_of b) (worker_of c) at_hand [] [] n k first next.works;
    can_work = next.can_work;
    none_left = next.none_left;
  }
