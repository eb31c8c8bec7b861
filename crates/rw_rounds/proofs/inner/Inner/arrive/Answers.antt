use Rattle.std.proofs.Common.{[], ◌∷◌, ◌++◌, length, length-append, refl, sym, ap, subst, arith}
use Rattle.std.specs.Prelude.{◌/◌}
use Rattle.rw_vt.specs.System.{rules}
use Rattle.rw_vt.proofs.Laws.{laws_of}
use Rattle.rw_rounds.specs.Bags.{Every}
use Rattle.rw_rounds.specs.Deeds.{IsFair}
use Rattle.rw_rounds.specs.Working.{role_of, worker_of}
use Rattle.rw_rounds.proofs.Fits.{fit_after}
use Rattle.rw_rounds.proofs.Stepping.{place_within, its_process, works_arrival, arrival_fair, arrival_sizes, arrival_dones}
use Rattle.rw_rounds.proofs.Sums.{every_append}
use Rattle.rw_rounds.proofs.inner.Inner.arrive.Goals as goal

pub arrive-requires-clause-place : goal.arrive-requires-clause-place
arrive-requires-clause-place g c =
    let laws = laws_of g.met.M.Model g.met.M.Body.Ord.total in
    place_within laws c.args.context.now.model.now (worker_of c.args.self.now) c.requires.ready.worker.fit c.args.letter c.requires.fair c.requires.own

pub arrive-requires-clause-model : goal.arrive-requires-clause-model
arrive-requires-clause-model g c =
    let laws = laws_of g.met.M.Model g.met.M.Body.Ord.total in
    λ l there. (its_process laws c.args.context.now.model.now (worker_of c.args.self.now) c.requires.ready.worker.fit c.args.letter c.requires.fair c.requires.own l there).0

pub arrive-requires-clause-valid : goal.arrive-requires-clause-valid
arrive-requires-clause-valid g c = c.requires.fair.valid

pub arrive-requires-clause-here : goal.arrive-requires-clause-here
arrive-requires-clause-here g c =
    let laws = laws_of g.met.M.Model g.met.M.Body.Ord.total in
    λ l there. (its_process laws c.args.context.now.model.now (worker_of c.args.self.now) c.requires.ready.worker.fit c.args.letter c.requires.fair c.requires.own l there).1

pub returns-clause-works : goal.returns-clause-works
returns-clause-works g c =
    let laws = laws_of g.met.M.Model g.met.M.Body.Ord.total in
    let x = c.args.self.now in
    let one = c.in_ok-undone.ensures.arrived in
    let arrived = one.by in
    works_arrival laws c.args.context.now.model.now (worker_of x) _ c.requires.ready.worker refl refl refl refl refl refl (c.args.letter.event.to / x.plan.workers) one.was one.is one.there one.set one.same c.args.letter c.requires.fair c.requires.own refl _ c.way-way.ensures arrived.0 arrived.2 c.args.out.now.items c.arrive.new.out.items arrived.1

pub returns-clause-ready : goal.returns-clause-ready
returns-clause-ready g c =
    let laws = laws_of g.met.M.Model g.met.M.Body.Ord.total in
    let x = c.args.self.now in
    let one = c.in_ok-undone.ensures.arrived in
    let arrived = one.by in
    record {
      worker = fit_after laws c.args.context.now.model.now (role_of x) (worker_of x) _ (c.args.out.now.items ++ c.args.letter ∷ []) c.arrive.new.out.items 0 c.requires.ready.worker (works_arrival laws c.args.context.now.model.now (worker_of x) _ c.requires.ready.worker refl refl refl refl refl refl (c.args.letter.event.to / x.plan.workers) one.was one.is one.there one.set one.same c.args.letter c.requires.fair c.requires.own refl _ c.way-way.ensures arrived.0 arrived.2 c.args.out.now.items c.arrive.new.out.items arrived.1);
      board = c.requires.ready.board;
    }

pub returns-clause-fair : goal.returns-clause-fair
returns-clause-fair g c =
    let laws = laws_of g.met.M.Model g.met.M.Body.Ord.total in
    let x = c.args.self.now in
    let one = c.in_ok-undone.ensures.arrived in
    let arrived = one.by in
    λ fair. subst (Every (IsFair (rules g.M.Model g.M.Body.Ord.cmp c.args.context.now.model.now) x.collected)) (sym arrived.1) (every_append (IsFair (rules g.M.Model g.M.Body.Ord.cmp c.args.context.now.model.now) x.collected) c.args.out.now.items arrived.0 fair (arrival_fair laws c.args.context.now.model.now (worker_of x) _ c.requires.ready.worker refl refl refl refl refl refl (c.args.letter.event.to / x.plan.workers) one.was one.is one.there one.set one.same c.args.letter c.requires.fair c.requires.own refl _ c.way-way.ensures arrived.0 arrived.2))

pub returns-clause-falls : goal.returns-clause-falls
returns-clause-falls g c =
    let laws = laws_of g.met.M.Model g.met.M.Body.Ord.total in
    let x = c.args.self.now in
    let one = c.in_ok-undone.ensures.arrived in
    let arrived = one.by in
    omega (arith, arrival_sizes laws c.args.context.now.model.now (worker_of x) _ c.requires.ready.worker refl refl refl refl refl refl (c.args.letter.event.to / x.plan.workers) one.was one.is one.there one.set one.same c.args.letter c.requires.fair c.requires.own refl _ c.way-way.ensures arrived.0 arrived.2, ap length arrived.1, length-append c.args.out.now.items arrived.0)

pub returns-clause-fewer : goal.returns-clause-fewer
returns-clause-fewer g c =
    let laws = laws_of g.met.M.Model g.met.M.Body.Ord.total in
    let x = c.args.self.now in
    let one = c.in_ok-undone.ensures.arrived in
    let arrived = one.by in
    arrival_dones laws c.args.context.now.model.now (worker_of x) _ c.requires.ready.worker refl refl refl refl refl refl (c.args.letter.event.to / x.plan.workers) one.was one.is one.there one.set one.same c.args.letter c.requires.fair c.requires.own refl _ c.way-way.ensures arrived.0 arrived.2
