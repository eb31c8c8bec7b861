use Rattle.std.proofs.Common.{◌≡◌, ◌∷◌, ◌++◌, [], false, refl, ap, ◌∙◌, subst, arith}
use Rattle.std.proofs.lemmas.Bool.{ne_eqb}
use Rattle.rw_vt.specs.System.{rules}
use Rattle.rw_exchange.specs.Ports.{after_sending, free_to}
use Rattle.rw_rounds.specs.Turns.{owner, is_own}
use Rattle.rw_rounds.specs.Working.{role_of, worker_of}
use Rattle.rw_rounds.proofs.Adding.{works_sent, works_kept}
use Rattle.rw_rounds.proofs.inner.Inner.post.Goals as goal

pub returns-in-Ok-clause-works : goal.returns-in-Ok-clause-works
returns-in-Ok-clause-works g c =
    let other : is_own (role_of c.args.self.now) c.args.letter ≡ false = ne_eqb (owner (role_of c.args.self.now) c.args.letter) c.args.self.now.number (λ e. c.requires.other (c.requires.to ∙ e)) in
    let sent = subst (λ t. c.send.new.self ≡ after_sending c.args.self.now.port t c.args.letter (free_to c.send.new.self t)) c.requires.to c.in-Ok.ensures.ok in
    works_sent (rules g.M.Model g.M.Body.Ord.cmp c.args.context.now.model.now) (role_of c.args.self.now) (worker_of c.args.self.now) _ refl refl refl c.args.letter other refl refl (omega arith) c.requires.port.1.2 refl sent c.in-Ok.ensures.same c.note.ensures.noted

pub returns-in_ok-push-in-Err-clause-works : goal.returns-in_ok-push-in-Err-clause-works
returns-in_ok-push-in-Err-clause-works g c =
    let other : is_own (role_of c.args.self.now) c.args.letter ≡ false = ne_eqb (owner (role_of c.args.self.now) c.args.letter) c.args.self.now.number (λ e. c.requires.other (c.requires.to ∙ e)) in
    let kept : c.push.new.self.items ≡ c.args.self.now.kept.items ++ c.args.letter ∷ [] = c.in_ok-push-in-Err.ensures.items ∙ ap (λ l. c.args.self.now.kept.items ++ l ∷ []) c.in-Err.ensures.err.0 in
    works_kept (rules g.M.Model g.M.Body.Ord.cmp c.args.context.now.model.now) (role_of c.args.self.now) (worker_of c.args.self.now) _ refl refl refl c.args.letter other refl refl kept c.in-Err.ensures.err.1 refl
