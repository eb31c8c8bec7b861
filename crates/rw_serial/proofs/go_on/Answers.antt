use Rattle.std.proofs.Common.{arith, IsPermutation, All, ◌≡◌, ◌+◌, ◌<◌, ◌^◌, sym, subst, refl, [], ◌∷◌, ◌++◌, ◌∙◌, get_or, length, replicate}
use Rattle.std.specs.List.{slice_set}
use Rattle.std.proofs.lemmas.List.Sorted.{IsPermutation-refl}
use Rattle.std.proofs.lemmas.Result.{err_from_is_err_and}
use Rattle.rw_vt.specs.declared.event.Event.{Event}
use Rattle.rw_vt.specs.Limits.{end_of_time}
use Rattle.rw_vt.specs.Order.{event_cmp}
use Rattle.rw_vt.specs.Rest.{EndsAs}
use Rattle.rw_vt.specs.System.{system, IsReady}
use Rattle.rw_vt.proofs.Laws.{lawful, laws_of}
use Rattle.rw_pending.proofs.Cited.{taken_at, least_at, none_at, reached_at}
use Rattle.rw_serial.specs.Counts.{events_below}
use Rattle.rw_serial.proofs.Counting.{count_entered, count_none, midrun_counted}
use Rattle.rw_serial.proofs.Midrun.{length-states, midrun_start, next_valid, next_inside, next_well_formed, midrun_step_by, midrun_meets, next_sends_later}
use Rattle.rw_serial.proofs.Onward.{midrun_ready, midrun_rest, none_still}
use Rattle.rw_serial.proofs.go_on.Goals as goal

pub loop-executed-init : goal.loop-executed-init
loop-executed-init g c =
    let laws = laws_of g.met.M.Model g.met.M.Body.Ord.total in
    let m = c.args.model.now in
    let starts = c.args.states.now.items in
    let law = lawful laws m starts c.args.pending.now.events c.requires.ready in (
      replicate (length starts) [],
      midrun_start (system g.M.Model g.M.Body.Ord.cmp m starts c.args.pending.now.events) law (replicate (length starts) []) c.args.pending.now.events refl (IsPermutation-refl c.args.pending.now.events),
      count_none (Event _) (length starts),
    )

pub execute-requires-clause-process : goal.execute-requires-clause-process
execute-requires-clause-process g c =
    let inside = next_inside c.loop-executed.invariant.1 (taken_at c.in-Some.is c.in_ok-pop.ensures.taken) (least_at (event_cmp g.M.Body.Ord.cmp) c.loop-executed.pending.events c.in-Some.is c.in_ok-pop.ensures.least) in
    subst (λ n. c.in-Some.event.to < n) c.requires.ready.enough inside.to

pub execute-requires-clause-enough : goal.execute-requires-clause-enough
execute-requires-clause-enough g c = length-states c.loop-executed.invariant.1 ∙ c.requires.ready.enough

pub execute-requires-clause-well_formed : goal.execute-requires-clause-well_formed
execute-requires-clause-well_formed g c = next_well_formed c.loop-executed.invariant.1 (taken_at c.in-Some.is c.in_ok-pop.ensures.taken) (least_at (event_cmp g.M.Body.Ord.cmp) c.loop-executed.pending.events c.in-Some.is c.in_ok-pop.ensures.least)

pub execute-requires-clause-valid : goal.execute-requires-clause-valid
execute-requires-clause-valid g c = next_valid c.loop-executed.invariant.1 (taken_at c.in-Some.is c.in_ok-pop.ensures.taken) (least_at (event_cmp g.M.Body.Ord.cmp) c.loop-executed.pending.events c.in-Some.is c.in_ok-pop.ensures.least)

pub extend-requires : goal.extend-requires
extend-requires g c =
    let x = c.in-Some.event in
    let later = next_sends_later c.loop-executed.invariant.1 (taken_at c.in-Some.is c.in_ok-pop.ensures.taken) (least_at (event_cmp g.M.Body.Ord.cmp) c.loop-executed.pending.events c.in-Some.is c.in_ok-pop.ensures.least) c.execute.new.sent.items c.in_ok-execute.ensures.sends in
    subst (All (λ e. c.pop.new.self.time < e.time)) (sym c.deref.ensures.value)
    (subst (λ t. All (λ e. t < e.time) c.execute.new.sent.items) (sym (reached_at c.in-Some.is c.in_ok-pop.ensures.reached)) later)

pub loop-executed-preserved : goal.loop-executed-preserved
loop-executed-preserved g c =
    let journals = c.loop-executed.invariant.0 in
    let x = c.in-Some.event in
    let run = c.loop-executed.invariant.1 in
    let taken = taken_at c.in-Some.is c.in_ok-pop.ensures.taken in
    let least = least_at (event_cmp g.M.Body.Ord.cmp) c.loop-executed.pending.events c.in-Some.is c.in_ok-pop.ensures.least in
    let inside = next_inside run taken least in
    let entered = slice_set journals x.to (get_or journals x.to [] ++ x ∷ []) in (
      entered,
      midrun_step_by run taken least
          c.execute.new.states.items entered c.execute.new.sent.items c.extend.new.self.events
          c.in_ok-execute.ensures.states refl c.in_ok-execute.ensures.sends (subst (λ l. IsPermutation (c.pop.new.self.events ++ l) c.extend.new.self.events) c.deref.ensures.value c.in_ok-extend.ensures.added),
      count_entered journals x.to x c.loop-executed.executed (subst (λ n. x.to < n) (sym run.count) inside.to) c.loop-executed.invariant.2,
    )

pub returns-in_err-execute-clause-exhausted : goal.returns-in_err-execute-clause-exhausted
returns-in_err-execute-clause-exhausted g c =
    let run = c.loop-executed.invariant.1 in
    let taken = taken_at c.in-Some.is c.in_ok-pop.ensures.taken in
    let least = least_at (event_cmp g.M.Body.Ord.cmp) c.loop-executed.pending.events c.in-Some.is c.in_ok-pop.ensures.least in
    let inside = next_inside run taken least in
    let meets = midrun_meets run taken least (2 ^ 40) inside.time (g.M.Model.is_exhausted c.args.model.now) in
    let p = err_from_is_err_and c.from_residual-in_err-execute.result c.from_residual-in_err-execute.ensures.1 in
    rw (p.1, p.2) (λ e. meets (λ s there. c.in_err-execute.ensures.exhausted e s there))

pub returns-in_default-clause-rest : goal.returns-in_default-clause-rest
returns-in_default-clause-rest g c =
    let y = system g.M.Model g.M.Body.Ord.cmp c.args.model.now c.args.states.now.items c.args.pending.now.events in
    subst (λ es. EndsAs (system g.M.Model g.M.Body.Ord.cmp c.args.model.now c.loop-executed.states.items es) y) (none_still c.in_default.is c.in_ok-pop.ensures.none c.in_ok-pop.ensures.none_left)
    (midrun_rest c.loop-executed.invariant.1)

pub returns-in_default-clause-ready : goal.returns-in_default-clause-ready
returns-in_default-clause-ready g c =
    subst (IsReady g.M.Model c.args.model.now c.loop-executed.states.items) (none_still c.in_default.is c.in_ok-pop.ensures.none c.in_ok-pop.ensures.none_left)
    (midrun_ready g.M.Model g.M.Body.Ord.cmp c.args.model.now c.args.states.now.items c.args.pending.now.events c.requires.ready c.loop-executed.invariant.1)

pub returns-clause-rest : goal.returns-clause-rest
returns-clause-rest g c = midrun_rest c.loop-executed.invariant.1

pub returns-clause-ready : goal.returns-clause-ready
returns-clause-ready g c = midrun_ready g.M.Model g.M.Body.Ord.cmp c.args.model.now c.args.states.now.items c.args.pending.now.events c.requires.ready c.loop-executed.invariant.1

pub returns-in_default-clause-count : goal.returns-in_default-clause-count
returns-in_default-clause-count g c =
    let y = system g.M.Model g.M.Body.Ord.cmp c.args.model.now c.args.states.now.items c.args.pending.now.events in
    let n = c.loop-executed.executed in (
      omega arith,
      subst (λ es. n + events_below (system g.M.Model g.M.Body.Ord.cmp c.args.model.now c.loop-executed.states.items es) end_of_time ≡ events_below y end_of_time)
          (none_still c.in_default.is c.in_ok-pop.ensures.none c.in_ok-pop.ensures.none_left)
          (midrun_counted c.loop-executed.invariant.1 n c.loop-executed.invariant.2),
    )

pub returns-clause-count : goal.returns-clause-count
returns-clause-count g c =
    let all : c.args.limit ≡ c.loop-executed.executed = omega arith in
    (omega arith, midrun_counted c.loop-executed.invariant.1 c.args.limit (all ∙ c.loop-executed.invariant.2))

pub returns-in_err-pop-clause-exhausted : goal.returns-in_err-pop-clause-exhausted
returns-in_err-pop-clause-exhausted g c =
    let p = err_from_is_err_and c.from_residual.result c.from_residual.ensures.1 in
    rw (p.1, p.2) (λ e. cc)

pub returns-in_err-extend-clause-exhausted : goal.returns-in_err-extend-clause-exhausted
returns-in_err-extend-clause-exhausted g c =
    let p = err_from_is_err_and c.from_residual-in_err-extend.result c.from_residual-in_err-extend.ensures.1 in
    rw (p.1, p.2) (λ e. cc)

pub returns-in_default-clause-all : goal.returns-in_default-clause-all
returns-in_default-clause-all g c = λ _. none_at c.in_default.is c.in_ok-pop.ensures.none_left

pub returns-clause-all : goal.returns-clause-all
returns-clause-all g c = λ fewer. absurd (omega (arith, fewer))
