use Rattle.std.proofs.Common.{◌≡◌, ◌∷◌, ◌++◌, [], true, false, refl, sym, ap, ◌∙◌, subst}
use Rattle.rw_vt.specs.System.{rules}
use Rattle.rw_vt.proofs.Laws.{laws_of}
use Rattle.rw_rounds.specs.Bags.{Every}
use Rattle.rw_rounds.specs.Deeds.{IsFair}
use Rattle.rw_rounds.specs.Turns.{is_accepted}
use Rattle.rw_rounds.specs.Working.{role_of, worker_of, IsFitAndSound, Works}
use Rattle.rw_rounds.proofs.Adding.{works_none, works_then, works_received, works_set_aside}
use Rattle.rw_rounds.proofs.Fits.{fit_with_port}
use Rattle.rw_rounds.proofs.Passing.{passes_own, passes_fair}
use Rattle.rw_rounds.proofs.inner.Inner.receive_one.Goals as goal

pub returns-in_default : goal.returns-in_default
returns-in_default g c = record {
  works = record {
    works = subst (λ p. Works (rules g.M.Model g.M.Body.Ord.cmp c.args.context.now.model.now) (role_of c.args.self.now) (worker_of c.args.self.now) (record (worker_of c.args.self.now) { port = p }) [] [] 0) (sym c.in_default.ensures.none) (works_none (rules g.M.Model g.M.Body.Ord.cmp c.args.context.now.model.now) (role_of c.args.self.now) (worker_of c.args.self.now) [] refl);
    can_work = record { worker = subst (λ p. IsFitAndSound g.M.Model g.M.Body.Ord.cmp c.args.context.now.model.now (record (worker_of c.args.self.now) { port = p })) (sym c.in_default.ensures.none) c.requires.ready.worker; board = c.requires.ready.board };
    none_left = c.requires.none;
  };
}

pub arrive-requires-clause-ready : goal.arrive-requires-clause-ready
arrive-requires-clause-ready g c =
    let laws = laws_of g.met.M.Model g.met.M.Body.Ord.total in
    let x = c.args.self.now in
    record { worker = fit_with_port laws c.args.context.now.model.now (worker_of x) c.receive.new.self x.aside.items c.in-Some.ensures.same c.requires.ready.worker; board = c.requires.ready.board }

pub arrive-requires-clause-fair : goal.arrive-requires-clause-fair
arrive-requires-clause-fair g c = passes_fair (rules g.M.Model g.M.Body.Ord.cmp c.args.context.now.model.now) (role_of c.args.self.now) c.in-Some.letter (sym c.passes.ensures.passes ∙ c.if-passes.true)

pub arrive-requires-clause-own : goal.arrive-requires-clause-own
arrive-requires-clause-own g c = passes_own (rules g.M.Model g.M.Body.Ord.cmp c.args.context.now.model.now) (role_of c.args.self.now) c.in-Some.letter (sym c.passes.ensures.passes ∙ c.if-passes.true)

pub deal-requires-clause-fair : goal.deal-requires-clause-fair
deal-requires-clause-fair g c =
    let fair = IsFair (rules g.M.Model g.M.Body.Ord.cmp c.args.context.now.model.now) in
    let none = subst (Every (fair c.args.self.now.collected)) (sym c.requires.none) tt in
    subst (λ r. Every (fair r.collected) c.arrive.new.out.items) (sym c.in_ok-arrive.ensures.works.after) (c.in_ok-arrive.ensures.fair none)

pub returns-in_ok-deal : goal.returns-in_ok-deal
returns-in_ok-deal g c =
    let y = rules g.M.Model g.M.Body.Ord.cmp c.args.context.now.model.now in
    let x = c.args.self.now in
    let received = record (worker_of x) { port = c.receive.new.self } in
    let pass : is_accepted y (role_of x) c.in-Some.letter ≡ true = sym c.passes.ensures.passes ∙ c.if-passes.true in
    let one : c.args.at_hand.now.items ++ c.in-Some.letter ∷ [] ≡ c.in-Some.letter ∷ [] = ap (λ l. l ++ c.in-Some.letter ∷ []) c.requires.none in
    let came = works_received y (role_of x) (worker_of x) received refl refl refl c.in-Some.letter c.args.from c.requires.other.0 c.requires.ready.worker.fit.wide.3 refl refl c.in-Some.ensures.some c.in-Some.ensures.same refl pass (passes_own y (role_of x) c.in-Some.letter pass) refl in
    let arrived = subst (λ ls. Works y (role_of x) received (worker_of c.arrive.new.self) ls c.arrive.new.out.items 0) one c.in_ok-arrive.ensures.works in
    let first = works_then y (role_of x) (worker_of x) received (worker_of c.arrive.new.self) [] (c.in-Some.letter ∷ []) c.arrive.new.out.items 0 0 came arrived in
    record {
      works = record {
        works = works_then y (role_of x) (worker_of x) (worker_of c.arrive.new.self) (worker_of c.deal.new.self) [] c.arrive.new.out.items [] 0 0 first c.in_ok-deal.ensures.works.works;
        can_work = c.in_ok-deal.ensures.works.can_work;
        none_left = c.in_ok-deal.ensures.works.none_left;
      };
    }

pub returns-in_ok-push : goal.returns-in_ok-push
returns-in_ok-push g c =
    let laws = laws_of g.met.M.Model g.met.M.Body.Ord.total in
    let x = c.args.self.now in
    let fails : is_accepted (rules g.M.Model g.M.Body.Ord.cmp c.args.context.now.model.now) (role_of x) c.in-Some.letter ≡ false = sym c.passes.ensures.passes ∙ c.if-passes.false in
    record {
      works = record {
        works = works_set_aside (rules g.M.Model g.M.Body.Ord.cmp c.args.context.now.model.now) (role_of x) (worker_of x) _ refl refl refl c.in-Some.letter c.args.from c.requires.other.0 c.requires.ready.worker.fit.wide.3 refl refl c.in-Some.ensures.some c.in-Some.ensures.same refl fails c.in_ok-push.ensures.items;
        can_work = record { worker = fit_with_port laws c.args.context.now.model.now (worker_of x) c.receive.new.self c.push.new.self.items c.in-Some.ensures.same c.requires.ready.worker; board = c.requires.ready.board };
        none_left = c.requires.none;
      };
    }
