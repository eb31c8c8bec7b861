-- What a model sends is as far ahead as its lookahead, and one tick at least.
use Rattle.std.proofs.Common.{◌≡◌, ℕ, ◌+◌, ◌≤◌, true, arith, max}
use Rattle.std.specs.declared.cmp.Ordering.{Ordering}
use Rattle.rw_vt.specs.declared.model.Model.{Ghosts}
use Rattle.rw_vt.specs.Valid.{IsSentBy}
use Rattle.rw_vt.proofs.Laws.{Laws}
use Rattle.rw_windows.specs.Working.{IsAhead}
use Rattle.rw_engine.proofs.Onward.{All-both}

pub ahead_at_least : {M S B U : Type 0} {model : Ghosts M S B U} {order : B → B → Ordering} (laws : Laws model order) (m : M) (l n : ℕ) → IsAhead model m l → n ≡ max l 1 → IsAhead model m n
ahead_at_least {model} laws m l n far is p s e well valid to =
    All-both (λ f. e.time + l ≤ f.time) (λ f. IsSentBy p e f × (model.is_valid m f ≡ true)) (λ f. e.time + n ≤ f.time) (λ f x y. let later = y.0.later in omega (arith, is, x, later)) (model.step m p s e).1
    (far p s e well valid to) (laws.future m p s e well valid to)
