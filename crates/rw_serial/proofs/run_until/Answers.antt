use Rattle.std.proofs.Common.{arith, IsPermutation, All, ◌<◌, ◌^◌, ◌∙◌, sym, subst, refl, [], ◌∷◌, ◌++◌, get_or, length, replicate}
use Rattle.std.specs.List.{slice_set}
use Rattle.std.proofs.lemmas.List.Sorted.{IsPermutation-refl}
use Rattle.std.proofs.lemmas.Result.{err_from_is_err_and}
use Rattle.rw_vt.specs.Order.{event_cmp}
use Rattle.rw_vt.specs.System.{system}
use Rattle.rw_vt.proofs.Laws.{lawful, laws_of}
use Rattle.rw_vt.proofs.Moments.{reached_further, reached_rest}
use Rattle.rw_pending.proofs.Cited.{taken_at, least_at, reached_at}
use Rattle.rw_serial.proofs.Left.{midrun_falls}
use Rattle.rw_serial.proofs.Midrun.{length-states, midrun_start, next_valid, next_inside, next_well_formed, midrun_step_by, midrun_meets, next_sends_later}
use Rattle.rw_serial.proofs.Onward.{midrun_ready}
use Rattle.rw_serial.proofs.Until.{early_none, early_entered, midrun_reached_to, found_before}
use Rattle.rw_serial.proofs.run_until.Goals as goal

pub events-init : goal.events-init
events-init g c =
    let laws = laws_of g.met.M.Model g.met.M.Body.Ord.total in
    let m = c.args.model.now in
    let starts = c.args.states.now.items in
    let y = system g.M.Model g.M.Body.Ord.cmp m starts c.args.pending.now.events in
    let law = lawful laws m starts c.args.pending.now.events c.requires.ready in
    (replicate (length starts) [], midrun_start y law (replicate (length starts) []) c.args.pending.now.events refl (IsPermutation-refl c.args.pending.now.events), early_none y c.args.until (length starts), λ soon. soon)

pub returns-in_default-clause-reached : goal.returns-in_default-clause-reached
returns-in_default-clause-reached g c = (midrun_reached_to c.events.pending c.pop_before.new.self c.args.until c.events.invariant.1 c.events.invariant.2 c.in_default.is c.in_ok-pop_before.ensures.none).1

pub returns-in_default-clause-further : goal.returns-in_default-clause-further
returns-in_default-clause-further g c =
    let m = c.args.model.now in
    let come = (midrun_reached_to c.events.pending c.pop_before.new.self c.args.until c.events.invariant.1 c.events.invariant.2 c.in_default.is c.in_ok-pop_before.ensures.none).1 in
    λ starts initial t ordered ready before.
    reached_further (system g.M.Model g.M.Body.Ord.cmp m starts initial) (lawful (laws_of g.met.M.Model g.met.M.Body.Ord.total) m starts initial ready) t c.args.until
    c.args.states.now.items c.events.states.items c.args.pending.now.events c.pop_before.new.self.events ordered before come

pub returns-in_default-clause-rest : goal.returns-in_default-clause-rest
returns-in_default-clause-rest g c =
    let law = lawful (laws_of g.met.M.Model g.met.M.Body.Ord.total) c.args.model.now c.args.states.now.items c.args.pending.now.events c.requires.ready in
    reached_rest (system g.M.Model g.M.Body.Ord.cmp c.args.model.now c.args.states.now.items c.args.pending.now.events) law c.args.until c.events.states.items c.pop_before.new.self.events
    (midrun_reached_to c.events.pending c.pop_before.new.self c.args.until c.events.invariant.1 c.events.invariant.2 c.in_default.is c.in_ok-pop_before.ensures.none).1

pub returns-in_default-clause-ready : goal.returns-in_default-clause-ready
returns-in_default-clause-ready g c =
    midrun_ready g.M.Model g.M.Body.Ord.cmp c.args.model.now c.args.states.now.items c.args.pending.now.events c.requires.ready
    (midrun_reached_to c.events.pending c.pop_before.new.self c.args.until c.events.invariant.1 c.events.invariant.2 c.in_default.is c.in_ok-pop_before.ensures.none).0

pub execute-requires-clause-process : goal.execute-requires-clause-process
execute-requires-clause-process g c =
    let inside = next_inside c.events.invariant.1 (taken_at c.in-Some.is c.in_ok-pop_before.ensures.taken) (least_at (event_cmp g.M.Body.Ord.cmp) c.events.pending.events c.in-Some.is c.in_ok-pop_before.ensures.least) in
    subst (λ n. c.in-Some.event.to < n) c.requires.ready.enough inside.to

pub execute-requires-clause-enough : goal.execute-requires-clause-enough
execute-requires-clause-enough g c = length-states c.events.invariant.1 ∙ c.requires.ready.enough

pub execute-requires-clause-well_formed : goal.execute-requires-clause-well_formed
execute-requires-clause-well_formed g c = next_well_formed c.events.invariant.1 (taken_at c.in-Some.is c.in_ok-pop_before.ensures.taken) (least_at (event_cmp g.M.Body.Ord.cmp) c.events.pending.events c.in-Some.is c.in_ok-pop_before.ensures.least)

pub execute-requires-clause-valid : goal.execute-requires-clause-valid
execute-requires-clause-valid g c = next_valid c.events.invariant.1 (taken_at c.in-Some.is c.in_ok-pop_before.ensures.taken) (least_at (event_cmp g.M.Body.Ord.cmp) c.events.pending.events c.in-Some.is c.in_ok-pop_before.ensures.least)

pub returns-in_err-execute-clause-exhausted : goal.returns-in_err-execute-clause-exhausted
returns-in_err-execute-clause-exhausted g c =
    let run = c.events.invariant.1 in
    let taken = taken_at c.in-Some.is c.in_ok-pop_before.ensures.taken in
    let least = least_at (event_cmp g.M.Body.Ord.cmp) c.events.pending.events c.in-Some.is c.in_ok-pop_before.ensures.least in
    let soon = found_before c.args.until c.in-Some.is c.in_ok-pop_before.ensures.before in
    let meets = midrun_meets run taken least c.args.until soon (g.M.Model.is_exhausted c.args.model.now) in
    let p = err_from_is_err_and c.from_residual-in_err-execute.result c.from_residual-in_err-execute.ensures.1 in
    rw (p.1, p.2) (λ e. meets (λ s there. c.in_err-execute.ensures.exhausted e s there))

pub extend-requires : goal.extend-requires
extend-requires g c =
    let x = c.in-Some.event in
    let later = next_sends_later c.events.invariant.1 (taken_at c.in-Some.is c.in_ok-pop_before.ensures.taken) (least_at (event_cmp g.M.Body.Ord.cmp) c.events.pending.events c.in-Some.is c.in_ok-pop_before.ensures.least) c.execute.new.sent.items c.in_ok-execute.ensures.sends in
    subst (All (λ e. c.pop_before.new.self.time < e.time)) (sym c.deref.ensures.value)
    (subst (λ t. All (λ e. t < e.time) c.execute.new.sent.items) (sym (reached_at c.in-Some.is c.in_ok-pop_before.ensures.reached)) later)

pub events-smaller : goal.events-smaller
events-smaller g c =
    let journals = c.events.invariant.0 in
    let x = c.in-Some.event in
    midrun_falls c.events.invariant.1 (taken_at c.in-Some.is c.in_ok-pop_before.ensures.taken) (least_at (event_cmp g.M.Body.Ord.cmp) c.events.pending.events c.in-Some.is c.in_ok-pop_before.ensures.least)
    c.execute.new.states.items (slice_set journals x.to (get_or journals x.to [] ++ x ∷ [])) c.execute.new.sent.items c.extend.new.self.events
    c.in_ok-execute.ensures.states refl c.in_ok-execute.ensures.sends (subst (λ l. IsPermutation (c.pop_before.new.self.events ++ l) c.extend.new.self.events) c.deref.ensures.value c.in_ok-extend.ensures.added) (2 ^ 40) (λ e inside. inside.time)

pub events-preserved : goal.events-preserved
events-preserved g c =
    let journals = c.events.invariant.0 in
    let x = c.in-Some.event in
    let run = c.events.invariant.1 in
    let taken = taken_at c.in-Some.is c.in_ok-pop_before.ensures.taken in
    let least = least_at (event_cmp g.M.Body.Ord.cmp) c.events.pending.events c.in-Some.is c.in_ok-pop_before.ensures.least in
    let inside = next_inside run taken least in
    let y = system g.M.Model g.M.Body.Ord.cmp c.args.model.now c.args.states.now.items c.args.pending.now.events in
    let entered = slice_set journals x.to (get_or journals x.to [] ++ x ∷ []) in (
      entered,
      midrun_step_by run taken least
          c.execute.new.states.items entered c.execute.new.sent.items c.extend.new.self.events
          c.in_ok-execute.ensures.states refl c.in_ok-execute.ensures.sends (subst (λ l. IsPermutation (c.pop_before.new.self.events ++ l) c.extend.new.self.events) c.deref.ensures.value c.in_ok-extend.ensures.added),
      early_entered y run.law.rules.exact c.args.until journals x (subst (λ n. x.to < n) (sym run.count) inside.to) (found_before c.args.until c.in-Some.is c.in_ok-pop_before.ensures.before) c.events.invariant.2,
      λ _. let soon = found_before c.args.until c.in-Some.is c.in_ok-pop_before.ensures.before in omega (arith, soon, c.in_ok-extend.ensures.time, reached_at c.in-Some.is c.in_ok-pop_before.ensures.reached),
    )
