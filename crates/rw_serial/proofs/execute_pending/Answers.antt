use Rattle.std.proofs.Common.{rules, arith, IsPermutation, true, false, true≢false, ◌≡◌, All, ◌<◌, ◌^◌, ◌-◌, ◌∙◌, sym, subst, refl, [], ◌∷◌, ◌++◌, get_or, length, replicate}
use Rattle.std.specs.List.{slice_set}
use Rattle.std.proofs.lemmas.List.Sorted.{IsPermutation-refl}
use Rattle.std.proofs.lemmas.Result.{err_from_is_err_and}
use Rattle.rw_vt.specs.Order.{event_cmp}
use Rattle.rw_vt.specs.System.{system}
use Rattle.rw_vt.proofs.Laws.{lawful, laws_of}
use Rattle.rw_pending.proofs.Cited.{taken_at, least_at, none_at, reached_at}
use Rattle.rw_serial.proofs.Counting.{midrun_fewer}
use Rattle.rw_serial.proofs.Left.{midrun_falls}
use Rattle.rw_serial.proofs.Midrun.{length-states, midrun_start, next_valid, next_inside, next_well_formed, midrun_step_by, midrun_meets, midrun_done, next_sends_later}
use Rattle.rw_serial.proofs.execute_pending.Goals as goal

pub events-init : goal.events-init
events-init g c =
    let laws = laws_of g.met.M.Model g.met.M.Body.Ord.total in
    let m = c.args.model.now in
    let starts = c.args.states.now.items in
    let law = lawful laws m starts c.args.pending.now.events c.requires.ready in
    (replicate (length starts) [], λ _ none. none, midrun_start (system g.M.Model g.M.Body.Ord.cmp m starts c.args.pending.now.events) law (replicate (length starts) []) c.args.pending.now.events refl (IsPermutation-refl c.args.pending.now.events))

pub execute-requires-clause-process : goal.execute-requires-clause-process
execute-requires-clause-process g c =
    let inside = next_inside c.events.invariant.2 (taken_at c.in-Some.is c.in_ok-pop.ensures.taken) (least_at (event_cmp g.M.Body.Ord.cmp) c.events.pending.events c.in-Some.is c.in_ok-pop.ensures.least) in
    subst (λ n. c.in-Some.event.to < n) c.requires.ready.enough inside.to

pub execute-requires-clause-enough : goal.execute-requires-clause-enough
execute-requires-clause-enough g c = length-states c.events.invariant.2 ∙ c.requires.ready.enough

pub execute-requires-clause-well_formed : goal.execute-requires-clause-well_formed
execute-requires-clause-well_formed g c = next_well_formed c.events.invariant.2 (taken_at c.in-Some.is c.in_ok-pop.ensures.taken) (least_at (event_cmp g.M.Body.Ord.cmp) c.events.pending.events c.in-Some.is c.in_ok-pop.ensures.least)

pub execute-requires-clause-valid : goal.execute-requires-clause-valid
execute-requires-clause-valid g c = next_valid c.events.invariant.2 (taken_at c.in-Some.is c.in_ok-pop.ensures.taken) (least_at (event_cmp g.M.Body.Ord.cmp) c.events.pending.events c.in-Some.is c.in_ok-pop.ensures.least)

pub enter-requires : goal.enter-requires
enter-requires g c =
    let run = c.events.invariant.2 in
    let inside = next_inside run (taken_at c.in-Some.is c.in_ok-pop.ensures.taken) (least_at (event_cmp g.M.Body.Ord.cmp) c.events.pending.events c.in-Some.is c.in_ok-pop.ensures.least) in
    let none = c.requires.none in
    (none.0, c.events.invariant.0, c.events.invariant.1 none.0 none.1, subst (λ n. c.in-Some.event.to < n) (sym run.count) inside.to)

pub events-smaller : goal.events-smaller
events-smaller g c =
    let journals = c.events.invariant.0 in
    let x = c.in-Some.event in
    midrun_falls c.events.invariant.2 (taken_at c.in-Some.is c.in_ok-pop.ensures.taken) (least_at (event_cmp g.M.Body.Ord.cmp) c.events.pending.events c.in-Some.is c.in_ok-pop.ensures.least)
    c.execute.new.states.items (slice_set journals x.to (get_or journals x.to [] ++ x ∷ [])) c.execute.new.sent.items c.extend.new.self.events
    c.in_ok-execute.ensures.states refl c.in_ok-execute.ensures.sends (subst (λ l. IsPermutation (c.pop.new.self.events ++ l) c.extend.new.self.events) c.deref.ensures.value c.in_ok-extend.ensures.added) (2 ^ 40) (λ e inside. inside.time)

pub events-preserved : goal.events-preserved
events-preserved g c =
    let there : c.in_ok-enter.field-0 ≡ true = search rules in
    let run = c.events.invariant.2 in
    let inside = next_inside run (taken_at c.in-Some.is c.in_ok-pop.ensures.taken) (least_at (event_cmp g.M.Body.Ord.cmp) c.events.pending.events c.in-Some.is c.in_ok-pop.ensures.least) in
    let within = subst (λ n. c.in-Some.event.to < n) (sym run.count) inside.to in
    let journals = c.events.invariant.0 in
    let x = c.in-Some.event in
    let entered = slice_set journals x.to (get_or journals x.to [] ++ x ∷ []) in (
      entered,
      λ limit none. c.in_ok-enter.ensures.entered there limit journals within (c.events.invariant.1 limit none),
      midrun_step_by c.events.invariant.2 (taken_at c.in-Some.is c.in_ok-pop.ensures.taken) (least_at (event_cmp g.M.Body.Ord.cmp) c.events.pending.events c.in-Some.is c.in_ok-pop.ensures.least)
          c.execute.new.states.items entered c.execute.new.sent.items c.extend.new.self.events
          c.in_ok-execute.ensures.states refl c.in_ok-execute.ensures.sends (subst (λ l. IsPermutation (c.pop.new.self.events ++ l) c.extend.new.self.events) c.deref.ensures.value c.in_ok-extend.ensures.added),
    )

pub returns-in_err-execute-clause-exhausted : goal.returns-in_err-execute-clause-exhausted
returns-in_err-execute-clause-exhausted g c =
    let run = c.events.invariant.2 in
    let inside = next_inside run (taken_at c.in-Some.is c.in_ok-pop.ensures.taken) (least_at (event_cmp g.M.Body.Ord.cmp) c.events.pending.events c.in-Some.is c.in_ok-pop.ensures.least) in
    let meets = midrun_meets run (taken_at c.in-Some.is c.in_ok-pop.ensures.taken) (least_at (event_cmp g.M.Body.Ord.cmp) c.events.pending.events c.in-Some.is c.in_ok-pop.ensures.least) (2 ^ 40) inside.time (g.M.Model.is_exhausted c.args.model.now) in
    let p = err_from_is_err_and c.from_residual-in_err-execute.result c.from_residual-in_err-execute.ensures.1 in
    rw (p.1, p.2) (λ e. meets (λ s there. c.in_err-execute.ensures.exhausted e s there))

pub returns-in_default-clause-outcome : goal.returns-in_default-clause-outcome
returns-in_default-clause-outcome g c = λ _ limit none. (c.events.invariant.0, c.events.invariant.1 limit none, midrun_done c.events.invariant.2 (2 ^ 40) (2 ^ 40 - 1) refl (λ e inside. inside.time) (none_at c.in_default.is c.in_ok-pop.ensures.none))

pub extend-requires : goal.extend-requires
extend-requires g c =
    let x = c.in-Some.event in
    let later = next_sends_later c.events.invariant.2 (taken_at c.in-Some.is c.in_ok-pop.ensures.taken) (least_at (event_cmp g.M.Body.Ord.cmp) c.events.pending.events c.in-Some.is c.in_ok-pop.ensures.least) c.execute.new.sent.items c.in_ok-execute.ensures.sends in
    subst (All (λ e. c.pop.new.self.time < e.time)) (sym c.deref.ensures.value)
    (subst (λ t. All (λ e. t < e.time) c.execute.new.sent.items) (sym (reached_at c.in-Some.is c.in_ok-pop.ensures.reached)) later)

pub returns-then-not-branch-clause-used_up : goal.returns-then-not-branch-clause-used_up
returns-then-not-branch-clause-used_up g c =
    let run = c.events.invariant.2 in
    let taken = taken_at c.in-Some.is c.in_ok-pop.ensures.taken in
    let least = least_at (event_cmp g.M.Body.Ord.cmp) c.events.pending.events c.in-Some.is c.in_ok-pop.ensures.least in
    let fewer = midrun_fewer run taken least (2 ^ 40) (next_inside run taken least).time in
    let no_room : c.in_ok-enter.field-0 ≡ false = search rules in
    λ _ limit none. let full = c.in_ok-enter.ensures.full no_room limit c.events.invariant.0 (c.events.invariant.1 limit none) in omega arith

pub returns-in_err-pop-clause-exhausted : goal.returns-in_err-pop-clause-exhausted
returns-in_err-pop-clause-exhausted g c =
    let p = err_from_is_err_and c.from_residual.result c.from_residual.ensures.1 in
    rw (p.1, p.2) (λ e. cc)

pub returns-in_err-enter-clause-exhausted : goal.returns-in_err-enter-clause-exhausted
returns-in_err-enter-clause-exhausted g c =
    let p = err_from_is_err_and c.from_residual-in_err-enter.result c.from_residual-in_err-enter.ensures.1 in
    rw (p.1, p.2) (λ e. cc)

pub returns-in_err-extend-clause-exhausted : goal.returns-in_err-extend-clause-exhausted
returns-in_err-extend-clause-exhausted g c =
    let p = err_from_is_err_and c.from_residual-in_err-extend.result c.from_residual-in_err-extend.ensures.1 in
    rw (p.1, p.2) (λ e. cc)

pub returns-in_default-clause-used_up : goal.returns-in_default-clause-used_up
returns-in_default-clause-used_up g c = λ is. absurd (true≢false is)

pub returns-then-not-branch-clause-outcome : goal.returns-then-not-branch-clause-outcome
returns-then-not-branch-clause-outcome g c = λ is. absurd (true≢false (sym is))
