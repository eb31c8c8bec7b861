-- How a worker's turns follow one another, and how it closes.
use Rattle.std.proofs.Common.{ℕ, zero, suc, refl, subst, sym}
use Rattle.std.specs.declared.cmp.Ordering.{Ordering}
use Rattle.rw_vt.specs.declared.model.Model.{Ghosts}
use Rattle.rw_vt.specs.System.{Rules}
use Rattle.rw_rounds.specs.Turns.{WorkerState, IsFit, TookTurn, TookTurns, Closes}

module _ {M S B : Type 0} (y : Rules S B) where
  -- one turn more, at the end
  pub turns_more : (turns : ℕ) (a c b : WorkerState M S B) (n : ℕ) → TookTurns y turns a c → TookTurn y c b n → TookTurns y (suc turns) a b
  turns_more zero a c b n same last = (b, n, subst (λ w. TookTurn y w b n) same last, refl)
  turns_more (suc turns) a c b n first last = (first.0, first.1, first.2, turns_more turns first.0 c b n first.3 last)

module _ {M S B U : Type 0} (model : Ghosts M S B U) (order : B → B → Ordering) (m : M) where
  -- a worker that closes stays fit
  pub fit_closed : (a b : WorkerState M S B) → Closes a b → IsFit model order m a → IsFit model order m b
  fit_closed a b k f = subst (IsFit model order m) (sym k) (record {
    number = f.number;
    window = f.window;
    in_place = f.in_place;
    complete = f.complete;
    inbox_fair = f.inbox_fair;
    inbox_own = f.inbox_own;
    kept = f.kept;
    port = f.port;
    wide = f.wide;
  })
