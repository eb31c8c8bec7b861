use Rattle.std.proofs.Common.{◌≡◌, ℕ, Bool, ◌+◌, cond, [], refl, sym, ap, ◌∙◌, subst, arith}
use Rattle.rw_vt.specs.System.{rules}
use Rattle.rw_vt.proofs.Laws.{laws_of}
use Rattle.rw_rounds.specs.Working.{role_of, worker_of, DealsWithAll, HeldBack, IsFitAndSound, IsNext, Works, dones}
use Rattle.rw_rounds.proofs.Adding.{works_then, works_read}
use Rattle.rw_rounds.proofs.Dealt.{dealt_none, dealt_then}
use Rattle.rw_rounds.proofs.Fits.{fit_with_seat}
use Rattle.rw_rounds.proofs.inner.Inner.execute_some.Goals as goal

pub loop-executed-init : goal.loop-executed-init
loop-executed-init g c = record { dealt = dealt_none g.M.Model g.M.Body.Ord.cmp c.args.context.now c.args.self.now c.args.at_hand.now.items c.requires.ready c.requires.none; plan = refl; within = omega arith }

pub loop-executed-preserved-then-done : goal.loop-executed-preserved-then-done
loop-executed-preserved-then-done g c =
    let known = c.loop-executed.invariant in
    let x = c.args.self.now in
    let before = c.loop-executed.self in
    let y = rules g.M.Model g.M.Body.Ord.cmp c.args.context.now.model.now in
    let seat = c.floor.ensures.seat in
    let same = ap (λ p. p.items) c.next_before.ensures.same in
    let looked = works_read y (role_of before) (worker_of before) (record (worker_of before) { processes = c.next_before.new.self.items; seat = c.floor.new.seat }) refl refl refl same refl refl refl (ap (λ s. s.board) seat) (ap (λ s. s.noted) seat) in
    let first = works_then y (role_of x) (worker_of x) (worker_of before) (record (worker_of before) { processes = c.next_before.new.self.items; seat = c.floor.new.seat }) [] [] [] c.loop-executed.executed 0 known.dealt.works looked in
    let both = dealt_then g.M.Model g.M.Body.Ord.cmp c.args.context.now x _ c.advance.new.self [] c.advance.new.at_hand.items (c.loop-executed.executed + 0) (cond c.in_ok-done.done 1 0) first c.in_ok-done.ensures.works in
    let one : cond {A = ℕ} c.in_ok-done.done 1 0 ≡ 1 = ap (λ (b : Bool). cond {A = ℕ} b 1 0) c.if-done.true in
    let sum : c.loop-executed.executed + 0 + cond {A = ℕ} c.in_ok-done.done 1 0 ≡ c.loop-executed.executed + 1 = omega arith in
    record {
      dealt = subst (DealsWithAll g.M.Model g.M.Body.Ord.cmp c.args.context.now x c.advance.new.self [] c.advance.new.at_hand.items) sum both;
      plan = ap (λ k. k.plan) both.works.after;
      within = omega (arith, known.within, c.from-batch.ensures);
    }

pub loop-executed-preserved : goal.loop-executed-preserved
loop-executed-preserved g c =
    let known = c.loop-executed.invariant in
    let x = c.args.self.now in
    let before = c.loop-executed.self in
    let y = rules g.M.Model g.M.Body.Ord.cmp c.args.context.now.model.now in
    let seat = c.floor.ensures.seat in
    let same = ap (λ p. p.items) c.next_before.ensures.same in
    let looked = works_read y (role_of before) (worker_of before) (record (worker_of before) { processes = c.next_before.new.self.items; seat = c.floor.new.seat }) refl refl refl same refl refl refl (ap (λ s. s.board) seat) (ap (λ s. s.noted) seat) in
    let first = works_then y (role_of x) (worker_of x) (worker_of before) (record (worker_of before) { processes = c.next_before.new.self.items; seat = c.floor.new.seat }) [] [] [] c.loop-executed.executed 0 known.dealt.works looked in
    let both = dealt_then g.M.Model g.M.Body.Ord.cmp c.args.context.now x _ c.advance.new.self [] c.advance.new.at_hand.items (c.loop-executed.executed + 0) (cond c.in_ok-done.done 1 0) first c.in_ok-done.ensures.works in
    let one : cond {A = ℕ} c.in_ok-done.done 1 0 ≡ 0 = ap (λ (b : Bool). cond {A = ℕ} b 1 0) c.if-done.false in
    let sum : c.loop-executed.executed + 0 + cond {A = ℕ} c.in_ok-done.done 1 0 ≡ c.loop-executed.executed = omega arith in
    record {
      dealt = subst (DealsWithAll g.M.Model g.M.Body.Ord.cmp c.args.context.now x c.advance.new.self [] c.advance.new.at_hand.items) sum both;
      plan = ap (λ k. k.plan) both.works.after;
      within = omega (arith, known.within, c.from-batch.ensures);
    }

pub overflow_add-bound : goal.overflow_add-bound
overflow_add-bound g c = omega (arith, c.floor.ensures.end, c.loop-executed.invariant.dealt.can_work.worker.fit.window)

pub advance-requires-clause-ready : goal.advance-requires-clause-ready
advance-requires-clause-ready g c =
    let laws = laws_of g.met.M.Model g.met.M.Body.Ord.total in
    let ready = c.loop-executed.invariant.dealt.can_work in
    record {
      worker = subst (λ ps. IsFitAndSound g.M.Model g.M.Body.Ord.cmp c.args.context.now.model.now (record (worker_of c.loop-executed.self) { processes = ps; seat = c.floor.new.seat })) (ap (λ p. p.items) (sym c.next_before.ensures.same)) (fit_with_seat laws c.args.context.now.model.now (worker_of c.loop-executed.self) c.floor.new.seat ready.worker);
      board = ap (λ s. s.board) c.floor.ensures.seat ∙ ready.board;
    }

pub advance-requires-clause-next : goal.advance-requires-clause-next
advance-requires-clause-next g c =
    let m = c.args.context.now.model.now in
    let bound = c.floor.result + c.loop-executed.self.plan.window in
    let next = (rw c.in-Some.is at c.in_ok-place.ensures.some) m in
    (bound, subst (λ ls. IsNext (rules g.M.Model g.M.Body.Ord.cmp m) bound ls c.in-Some.place) (ap (λ p. p.items) (sym c.next_before.ensures.same)) next)

pub loop-executed-smaller-then-done : goal.loop-executed-smaller-then-done
loop-executed-smaller-then-done g c = omega (arith, c.in_ok-done.ensures.executed c.if-done.true, ap (λ p. dones p.items) c.next_before.ensures.same, c.loop-executed-test.true, c.from-batch.ensures)

pub loop-executed-smaller : goal.loop-executed-smaller
loop-executed-smaller g c = omega (arith, c.in_ok-done.ensures.undone c.if-done.false, ap (λ p. dones p.items) c.next_before.ensures.same)

pub returns-in_default-clause-works : goal.returns-in_default-clause-works
returns-in_default-clause-works g c =
    let laws = laws_of g.met.M.Model g.met.M.Body.Ord.total in
    let y = rules g.M.Model g.M.Body.Ord.cmp c.args.context.now.model.now in
    let known = c.loop-executed.invariant.dealt in
    let before = c.loop-executed.self in
    let seat = c.floor.ensures.seat in
    let same = ap (λ p. p.items) c.next_before.ensures.same in
    let looked = works_read y (role_of before) (worker_of before) (record (worker_of before) { processes = c.next_before.new.self.items; seat = c.floor.new.seat }) refl refl refl same refl refl refl (ap (λ s. s.board) seat) (ap (λ s. s.noted) seat) in
    let both = works_then y (role_of c.args.self.now) (worker_of c.args.self.now) (worker_of before) (record (worker_of before) { processes = c.next_before.new.self.items; seat = c.floor.new.seat }) [] [] [] c.loop-executed.executed 0 known.works looked in
    let sum : c.loop-executed.executed + 0 ≡ c.loop-executed.executed = omega arith in
    record {
      works = subst (Works y (role_of c.args.self.now) (worker_of c.args.self.now) (record (worker_of before) { processes = c.next_before.new.self.items; seat = c.floor.new.seat }) [] []) sum both;
      can_work = record {
        worker = subst (λ ps. IsFitAndSound g.M.Model g.M.Body.Ord.cmp c.args.context.now.model.now (record (worker_of before) { processes = ps; seat = c.floor.new.seat })) (sym same) (fit_with_seat laws c.args.context.now.model.now (worker_of before) c.floor.new.seat known.can_work.worker);
        board = ap (λ s. s.board) seat ∙ known.can_work.board;
      };
      none_left = known.none_left;
    }

pub returns-in_default-clause-held_back : goal.returns-in_default-clause-held_back
returns-in_default-clause-held_back g c few =
    let before = c.loop-executed.self in
    let y = rules g.M.Model g.M.Body.Ord.cmp c.args.context.now.model.now in
    let bound : c.floor.result + before.plan.window ≡ c.floor.new.seat.read + c.args.self.now.plan.window = omega (arith, ap (λ s. s.read) c.floor.ensures.seat, ap (λ p. p.window) c.loop-executed.invariant.plan) in
    subst (λ b. HeldBack y b c.next_before.new.self.items) bound (subst (HeldBack y (c.floor.result + before.plan.window)) (ap (λ p. p.items) (sym c.next_before.ensures.same)) ((rw c.in_default.is at c.in_ok-place.ensures.none) c.args.context.now.model.now))

pub returns-clause-held_back : goal.returns-clause-held_back
returns-clause-held_back g c few = absurd (omega (arith, c.loop-executed-test.false, c.from-batch.ensures))
