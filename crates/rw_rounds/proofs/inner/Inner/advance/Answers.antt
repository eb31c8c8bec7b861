use Rattle.std.proofs.Common.{◌≡◌, ◌+◌, cond, [], ◌++◌, refl, sym, ap, ◌∙◌, subst, arith}
use Rattle.rw_vt.specs.System.{rules}
use Rattle.rw_vt.proofs.Laws.{laws_of}
use Rattle.rw_rounds.specs.Bags.{Every}
use Rattle.rw_rounds.specs.Deeds.{IsFair}
use Rattle.rw_rounds.specs.Working.{role_of, worker_of, Works, Moved}
use Rattle.rw_rounds.proofs.Adding.{works_then}
use Rattle.rw_rounds.proofs.Fits.{fit_after}
use Rattle.rw_rounds.proofs.Stepping.{there_model, there_collected, next_pending, works_moved, moved_fair, executed_dones, undone_dones}
use Rattle.rw_rounds.proofs.inner.Inner.advance.Goals as goal

pub advance-requires-clause-place : goal.advance-requires-clause-place
advance-requires-clause-place g c = c.requires.next.1.within

pub advance-requires-clause-model : goal.advance-requires-clause-model
advance-requires-clause-model g c = there_model c.args.context.now.model.now (worker_of c.args.self.now) c.requires.ready.worker.fit c.args.place

pub advance-requires-clause-pending : goal.advance-requires-clause-pending
advance-requires-clause-pending g c = λ l there. next_pending c.args.context.now.model.now (worker_of c.args.self.now) c.requires.ready.worker.fit c.args.place l there c.requires.next.0 c.requires.next.1

pub advance-requires-clause-undoable : goal.advance-requires-clause-undoable
advance-requires-clause-undoable g c = there_collected c.args.context.now.model.now (worker_of c.args.self.now) c.requires.ready.worker.fit c.args.place

pub deal-requires-clause-ready : goal.deal-requires-clause-ready
deal-requires-clause-ready g c =
    let laws = laws_of g.met.M.Model g.met.M.Body.Ord.total in
    let x = c.args.self.now in
    let next = c.requires.next in
    let one = c.in_ok-executed.ensures.moved in
    let moved = one.by in
    let given : c.advance.new.out.items ≡ moved.0 = moved.1 ∙ ap (λ l. l ++ moved.0) c.requires.none in
    record {
      worker = fit_after laws c.args.context.now.model.now (role_of x) (worker_of x) _ [] moved.0 (cond c.in_ok-executed.executed 1 0) c.requires.ready.worker (works_moved laws c.args.context.now.model.now (worker_of x) _ c.requires.ready.worker refl refl refl refl refl refl c.args.place one.was one.is one.there one.set one.same next.0 next.1 _ c.way-way.ensures moved.0 c.in_ok-executed.executed moved.2);
      board = c.requires.ready.board;
    }

pub deal-requires-clause-fair : goal.deal-requires-clause-fair
deal-requires-clause-fair g c =
    let laws = laws_of g.met.M.Model g.met.M.Body.Ord.total in
    let x = c.args.self.now in
    let next = c.requires.next in
    let one = c.in_ok-executed.ensures.moved in
    let moved = one.by in
    let given : c.advance.new.out.items ≡ moved.0 = moved.1 ∙ ap (λ l. l ++ moved.0) c.requires.none in
    subst (Every (IsFair (rules g.M.Model g.M.Body.Ord.cmp c.args.context.now.model.now) x.collected)) (sym given) (moved_fair laws c.args.context.now.model.now (worker_of x) (record (worker_of x) { processes = c.advance.new.self.items }) c.requires.ready.worker refl refl refl refl refl refl c.args.place one.was one.is one.there one.set one.same next.0 next.1 _ c.way-way.ensures moved.0 c.in_ok-executed.executed moved.2)

pub returns-clause-works : goal.returns-clause-works
returns-clause-works g c =
    let laws = laws_of g.met.M.Model g.met.M.Body.Ord.total in
    let x = c.args.self.now in
    let next = c.requires.next in
    let one = c.in_ok-executed.ensures.moved in
    let moved = one.by in
    let given : c.advance.new.out.items ≡ moved.0 = moved.1 ∙ ap (λ l. l ++ moved.0) c.requires.none in
    let one = works_moved laws c.args.context.now.model.now (worker_of x) (record (worker_of x) { processes = c.advance.new.self.items }) c.requires.ready.worker refl refl refl refl refl refl c.args.place one.was one.is one.there one.set one.same next.0 next.1 _ c.way-way.ensures moved.0 c.in_ok-executed.executed moved.2 in
    let dealt = subst (λ ls. Works (rules g.M.Model g.M.Body.Ord.cmp c.args.context.now.model.now) (role_of x) (record (worker_of x) { processes = c.advance.new.self.items }) (worker_of c.deal.new.self) ls [] 0) given c.in_ok-deal.ensures.works.works in
    let n : cond c.in_ok-executed.executed 1 0 + 0 ≡ cond c.in_ok-executed.executed 1 0 = omega arith in
    record {
      works = subst (Works (rules g.M.Model g.M.Body.Ord.cmp c.args.context.now.model.now) (role_of x) (worker_of x) (worker_of c.deal.new.self) [] []) n (works_then (rules g.M.Model g.M.Body.Ord.cmp c.args.context.now.model.now) (role_of x) (worker_of x) (record (worker_of x) { processes = c.advance.new.self.items }) (worker_of c.deal.new.self) [] moved.0 [] (cond c.in_ok-executed.executed 1 0) 0 one dealt);
      can_work = c.in_ok-deal.ensures.works.can_work;
      none_left = c.in_ok-deal.ensures.works.none_left;
    }

pub returns-clause-executed : goal.returns-clause-executed
returns-clause-executed g c =
    let laws = laws_of g.met.M.Model g.met.M.Body.Ord.total in
    let x = c.args.self.now in
    let next = c.requires.next in
    let one = c.in_ok-executed.ensures.moved in
    let moved = one.by in
    let given : c.advance.new.out.items ≡ moved.0 = moved.1 ∙ ap (λ l. l ++ moved.0) c.requires.none in
    λ did.
    let by = subst (λ b. Moved (rules g.M.Model g.M.Body.Ord.cmp one.was.model) c.way-way.result one.was.number one.was.process one.is.process b moved.0) did moved.2 in
    omega (arith, c.in_ok-deal.ensures.fewer, executed_dones laws c.args.context.now.model.now (worker_of x) (record (worker_of x) { processes = c.advance.new.self.items }) c.requires.ready.worker refl refl refl refl refl refl c.args.place one.was one.is one.there one.set one.same next.0 next.1 _ c.way-way.ensures moved.0 by)

pub returns-clause-undone : goal.returns-clause-undone
returns-clause-undone g c =
    let laws = laws_of g.met.M.Model g.met.M.Body.Ord.total in
    let x = c.args.self.now in
    let next = c.requires.next in
    let one = c.in_ok-executed.ensures.moved in
    let moved = one.by in
    let given : c.advance.new.out.items ≡ moved.0 = moved.1 ∙ ap (λ l. l ++ moved.0) c.requires.none in
    λ did.
    let by = subst (λ b. Moved (rules g.M.Model g.M.Body.Ord.cmp one.was.model) c.way-way.result one.was.number one.was.process one.is.process b moved.0) did moved.2 in
    omega (arith, c.in_ok-deal.ensures.fewer, undone_dones laws c.args.context.now.model.now (worker_of x) (record (worker_of x) { processes = c.advance.new.self.items }) c.requires.ready.worker refl refl refl refl refl refl c.args.place one.was one.is one.there one.set one.same next.0 next.1 _ c.way-way.ensures moved.0 by)
