use Rattle.std.proofs.Common.{◌%◌, ◌∙◌, [], ◌∷◌, refl, subst, sym, arith, length, ◌≡◌, ◌<◌}
use Rattle.std.proofs.lemmas.List.{length-map}
use Rattle.rw_pool.proofs.Lists.{pushed_at}
use Rattle.rw_windows.proofs.Dealing.{dealt_outbox, dealt_by, dealt_own}
use Rattle.rw_windows.proofs.worker.Worker.deal_one.Goals as goal

pub returns-then-to-self : goal.returns-then-to-self
returns-then-to-self g c =
    record { dealt = dealt_by c.args.self.now _ _ (c.args.event ∷ []) c.self.view_is (dealt_own _ _ c.args.event (rw c.in_ok-put.ensures.time refl) c.in_ok-put.ensures.added c.if-to-self.true) }

pub returns : goal.returns
returns g c =
    let outbox = c.self.inside.domain.outbox.items in
    let to = c.args.event.to % c.self.inside.domain.workers in
    let lists : length outbox ≡ c.self.inside.domain.workers = sym (length-map outbox (λ l. l.items)) ∙ subst (λ w. length w.outbox ≡ w.workers) (sym c.self.view_is) c.requires.lists in
    let number : c.self.inside.domain.number < c.self.inside.domain.workers = subst (λ w. w.number < w.workers) (sym c.self.view_is) c.requires.number in
    let within : to < length outbox = omega arith in
    let pushed = pushed_at (λ l. l.items) outbox to c.index_mut.result.now c.push.new.self c.args.event within c.index_mut.ensures.value c.in_ok-push.ensures.items in
    record { dealt = dealt_by c.args.self.now _ _ (c.args.event ∷ []) c.self.view_is (dealt_outbox _ _ c.args.event to refl refl pushed c.if-to-self.false (omega (arith, within, length-map outbox (λ l. l.items)))) }
