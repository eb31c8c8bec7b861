use Rattle.std.proofs.Common.{◌≡◌, [], ◌∷◌, ◌++◌, refl, sym, ap, ◌∙◌, subst, arith, length, length-append, append-nil}
use Rattle.std.proofs.lemmas.List.{nil_from_length}
use Rattle.std.specs.Prelude.{reverse}
use Rattle.rw_vt.specs.System.{rules}
use Rattle.rw_vt.proofs.Laws.{laws_of}
use Rattle.rw_rounds.specs.Bags.{Every}
use Rattle.rw_rounds.specs.Deeds.{IsFair}
use Rattle.rw_rounds.specs.Working.{role_of, worker_of, Works, sizes, dones}
use Rattle.rw_rounds.proofs.Adding.{works_reordered, works_then, works_more}
use Rattle.rw_rounds.proofs.Fits.{fit_after}
use Rattle.rw_rounds.proofs.Sums.{every_front, every_back, weigh_reverse, every_reverse}
use Rattle.rw_rounds.proofs.inner.Inner.deal.Goals as goal

pub loop-letter-init : goal.loop-letter-init
loop-letter-init g c = record {
  works =
      subst (λ ls. Works (rules g.M.Model g.M.Body.Ord.cmp c.args.context.now.model.now) (role_of c.args.self.now) (worker_of c.args.self.now) (worker_of c.args.self.now) c.args.at_hand.now.items ls 0) (sym c.reverse.ensures.items)
      (works_reordered (rules g.M.Model g.M.Body.Ord.cmp c.args.context.now.model.now) (role_of c.args.self.now) (worker_of c.args.self.now) c.args.at_hand.now.items (reverse c.args.at_hand.now.items) refl (λ h. weigh_reverse h c.args.at_hand.now.items));
  ready = c.requires.ready;
  fair = subst (Every (IsFair (rules g.M.Model g.M.Body.Ord.cmp c.args.context.now.model.now) c.args.self.now.collected)) (sym c.reverse.ensures.items) (every_reverse (IsFair (rules g.M.Model g.M.Body.Ord.cmp c.args.context.now.model.now) c.args.self.now.collected) c.args.at_hand.now.items c.requires.fair);
  fewer = omega arith;
}

pub arrive-requires-clause-fair : goal.arrive-requires-clause-fair
arrive-requires-clause-fair g c =
    let known = c.loop-letter.invariant in
    let all = subst (Every (IsFair (rules g.M.Model g.M.Body.Ord.cmp c.args.context.now.model.now) c.args.self.now.collected)) c.in-Some.ensures.items known.fair in
    let one = every_back (IsFair (rules g.M.Model g.M.Body.Ord.cmp c.args.context.now.model.now) c.args.self.now.collected) c.pop.new.self.items (c.in-Some.letter ∷ []) all in
    subst (λ k. IsFair (rules g.M.Model g.M.Body.Ord.cmp c.args.context.now.model.now) k c.in-Some.letter) (sym (ap (λ k. k.collected) known.works.after)) one.0

pub loop-letter-preserved-in-Continue-1 : goal.loop-letter-preserved-in-Continue-1
loop-letter-preserved-in-Continue-1 g c =
    let known = c.loop-letter.invariant in
    let before = c.loop-letter.self in
    let collected = ap (λ k. k.collected) known.works.after in
    let all = subst (Every (IsFair (rules g.M.Model g.M.Body.Ord.cmp c.args.context.now.model.now) c.args.self.now.collected)) c.in-Some.ensures.items known.fair in
    let rest = every_front (IsFair (rules g.M.Model g.M.Body.Ord.cmp c.args.context.now.model.now) c.args.self.now.collected) c.pop.new.self.items (c.in-Some.letter ∷ []) all in
    let one = subst (λ ls. Works (rules g.M.Model g.M.Body.Ord.cmp c.args.context.now.model.now) (role_of before) (worker_of before) (worker_of c.arrive.new.self) ls c.arrive.new.out.items 0) (sym c.in-Some.ensures.items) c.in_ok-arrive.ensures.works in
    record {
      works = works_then (rules g.M.Model g.M.Body.Ord.cmp c.args.context.now.model.now) (role_of c.args.self.now) (worker_of c.args.self.now) (worker_of before) (worker_of c.arrive.new.self) c.args.at_hand.now.items c.loop-letter.at_hand.items c.arrive.new.out.items 0 0 known.works one;
      ready = c.in_ok-arrive.ensures.ready;
      fair = subst (λ k. Every (IsFair (rules g.M.Model g.M.Body.Ord.cmp c.args.context.now.model.now) k) c.arrive.new.out.items) collected (c.in_ok-arrive.ensures.fair (subst (λ k. Every (IsFair (rules g.M.Model g.M.Body.Ord.cmp c.args.context.now.model.now) k) c.pop.new.self.items) (sym collected) rest));
      fewer = omega (arith, c.in_ok-arrive.ensures.fewer, known.fewer);
    }

pub loop-letter-preserved : goal.loop-letter-preserved
loop-letter-preserved g c =
    let laws = laws_of g.met.M.Model g.met.M.Body.Ord.total in
    let known = c.loop-letter.invariant in
    let before = c.loop-letter.self in
    let all = subst (Every (IsFair (rules g.M.Model g.M.Body.Ord.cmp c.args.context.now.model.now) c.args.self.now.collected)) c.in-Some.ensures.items known.fair in
    let posted = c.in_ok-post.ensures.works in
    let more = works_more (rules g.M.Model g.M.Body.Ord.cmp c.args.context.now.model.now) (role_of before) (worker_of before) (worker_of c.post.new.self) c.pop.new.self.items (c.in-Some.letter ∷ []) [] 0 posted in
    let one =
    subst (λ ls. Works (rules g.M.Model g.M.Body.Ord.cmp c.args.context.now.model.now) (role_of before) (worker_of before) (worker_of c.post.new.self) ls c.pop.new.self.items 0) (sym c.in-Some.ensures.items)
    (subst (λ ls. Works (rules g.M.Model g.M.Body.Ord.cmp c.args.context.now.model.now) (role_of before) (worker_of before) (worker_of c.post.new.self) (c.pop.new.self.items ++ c.in-Some.letter ∷ []) ls 0) (append-nil c.pop.new.self.items) more) in
    record {
      works = works_then (rules g.M.Model g.M.Body.Ord.cmp c.args.context.now.model.now) (role_of c.args.self.now) (worker_of c.args.self.now) (worker_of before) (worker_of c.post.new.self) c.args.at_hand.now.items c.loop-letter.at_hand.items c.pop.new.self.items 0 0 known.works one;
      ready = record { worker = fit_after laws c.args.context.now.model.now (role_of before) (worker_of before) (worker_of c.post.new.self) (c.in-Some.letter ∷ []) [] 0 known.ready.worker posted; board = posted.same_board ∙ known.ready.board };
      fair = every_front (IsFair (rules g.M.Model g.M.Body.Ord.cmp c.args.context.now.model.now) c.args.self.now.collected) c.pop.new.self.items (c.in-Some.letter ∷ []) all;
      fewer = omega (arith, known.fewer, ap (λ v. dones v.items) c.in_ok-post.ensures.processes);
    }

pub owner-to-requires : goal.owner-to-requires
owner-to-requires g c = omega (arith, c.loop-letter.invariant.ready.worker.fit.number)

pub arrive-requires-clause-ready : goal.arrive-requires-clause-ready
arrive-requires-clause-ready g c = c.loop-letter.invariant.ready

pub post-requires-clause-workers : goal.post-requires-clause-workers
post-requires-clause-workers g c = c.loop-letter.invariant.ready.worker.fit.number

pub post-requires-clause-port : goal.post-requires-clause-port
post-requires-clause-port g c = (c.loop-letter.invariant.ready.worker.fit.port, c.loop-letter.invariant.ready.worker.fit.wide)

pub post-requires-clause-board : goal.post-requires-clause-board
post-requires-clause-board g c = c.loop-letter.invariant.ready.board

pub returns-clause-works : goal.returns-clause-works
returns-clause-works g c =
    let known = c.loop-letter.invariant in
    let x = c.args.self.now in
    let none : c.loop-letter.at_hand.items ≡ [] = nil_from_length c.loop-letter.at_hand.items (omega (arith, c.in_default.ensures.cases.0, c.loop-letter.at_hand.ok.0)) in
    record {
      works = subst (λ ls. Works (rules g.M.Model g.M.Body.Ord.cmp c.args.context.now.model.now) (role_of x) (worker_of x) (worker_of c.loop-letter.self) c.args.at_hand.now.items ls 0) none known.works;
      can_work = known.ready;
      none_left = sym (append-nil c.pop.new.self.items) ∙ (sym c.in_default.ensures.items ∙ none);
    }

pub returns-clause-fewer : goal.returns-clause-fewer
returns-clause-fewer g c = c.loop-letter.invariant.fewer

pub loop-letter-smaller : goal.loop-letter-smaller
loop-letter-smaller g c =
    let y = rules g.M.Model g.M.Body.Ord.cmp c.args.context.now.model.now in
    omega (arith, ap (λ v. sizes y v.items) c.in_ok-post.ensures.processes, ap length c.in-Some.ensures.items, length-append c.pop.new.self.items (c.in-Some.letter ∷ []))
