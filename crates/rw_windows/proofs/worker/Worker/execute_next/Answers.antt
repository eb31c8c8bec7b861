use Rattle.std.proofs.Common.{◌≡◌, ◌≤◌, ◌<◌, ◌/◌, ◌∷◌, ◌++◌, All, IfNone, IfSome, IsPermutation, refl, subst, sym, ap, ◌∙◌, arith}
use Rattle.std.proofs.lemmas.Option.{get_or_from_slice_get}
use Rattle.rw_vt.specs.Order.{AtMost, event_cmp}
use Rattle.rw_vt.proofs.Laws.{laws_of}
use Rattle.rw_exchange.specs.Ports.{SamePort}
use Rattle.rw_windows.specs.Working.{IsAtWork, SameWorker}
use Rattle.rw_windows.proofs.Executing.{executed_here, fine_here, has_place, here, in_range, later_here, valid}
use Rattle.rw_windows.proofs.Workers.{same_itself, same_then}
use Rattle.rw_windows.proofs.worker.Worker.execute_next.Goals as goal

pub index_mut-requires : goal.index_mut-requires
index_mut-requires g c =
    let laws = laws_of g.met.M.Model g.met.M.Body.Ord.total in
    let at = subst (IsAtWork g.M.Model g.M.Body.Ord.cmp c.args.model.now) (sym c.self.view_is) c.requires.at_work in
    let popped = c.in_ok-pop_before.ensures in
    let soon = subst (λ o. IfSome o (λ e. e.time < c.self.inside.domain.until)) c.in-Some.is popped.before in
    let least = subst (λ o. IfSome o (λ e. All (AtMost (event_cmp g.M.Body.Ord.cmp) e) c.self.inside.pending.events)) c.in-Some.is popped.least in
    let taken = subst (λ o. IfSome o (λ e. IsPermutation c.self.inside.pending.events (e ∷ c.pop_before.new.self.events))) c.in-Some.is popped.taken in
    omega (arith, has_place laws c.args.model.now _ at c.in-Some.event c.pop_before.new.self.events soon least taken, c.self.inside.domain.states.ok.0)

pub advance-requires-clause-process : goal.advance-requires-clause-process
advance-requires-clause-process g c =
    let laws = laws_of g.met.M.Model g.met.M.Body.Ord.total in
    let at = subst (IsAtWork g.M.Model g.M.Body.Ord.cmp c.args.model.now) (sym c.self.view_is) c.requires.at_work in
    let popped = c.in_ok-pop_before.ensures in
    let soon = subst (λ o. IfSome o (λ e. e.time < c.self.inside.domain.until)) c.in-Some.is popped.before in
    let least = subst (λ o. IfSome o (λ e. All (AtMost (event_cmp g.M.Body.Ord.cmp) e) c.self.inside.pending.events)) c.in-Some.is popped.least in
    let taken = subst (λ o. IfSome o (λ e. IsPermutation c.self.inside.pending.events (e ∷ c.pop_before.new.self.events))) c.in-Some.is popped.taken in
    in_range laws c.args.model.now _ at c.in-Some.event c.pop_before.new.self.events soon least taken

pub advance-requires-clause-well_formed : goal.advance-requires-clause-well_formed
advance-requires-clause-well_formed g c =
    let laws = laws_of g.met.M.Model g.met.M.Body.Ord.total in
    let at = subst (IsAtWork g.M.Model g.M.Body.Ord.cmp c.args.model.now) (sym c.self.view_is) c.requires.at_work in
    let popped = c.in_ok-pop_before.ensures in
    let soon = subst (λ o. IfSome o (λ e. e.time < c.self.inside.domain.until)) c.in-Some.is popped.before in
    let least = subst (λ o. IfSome o (λ e. All (AtMost (event_cmp g.M.Body.Ord.cmp) e) c.self.inside.pending.events)) c.in-Some.is popped.least in
    let taken = subst (λ o. IfSome o (λ e. IsPermutation c.self.inside.pending.events (e ∷ c.pop_before.new.self.events))) c.in-Some.is popped.taken in
    let there = here laws c.args.model.now _ at c.in-Some.event c.pop_before.new.self.events soon least taken in
    let state = c.index_mut.ensures.value ∙ get_or_from_slice_get c.self.inside.domain.states.items (c.in-Some.event.to / c.self.inside.domain.workers) _ c.index_mut.result.now there in
    fine_here laws c.args.model.now _ at c.in-Some.event c.pop_before.new.self.events soon least taken c.index_mut.result.now state

pub advance-requires-clause-valid : goal.advance-requires-clause-valid
advance-requires-clause-valid g c =
    let laws = laws_of g.met.M.Model g.met.M.Body.Ord.total in
    let at = subst (IsAtWork g.M.Model g.M.Body.Ord.cmp c.args.model.now) (sym c.self.view_is) c.requires.at_work in
    let popped = c.in_ok-pop_before.ensures in
    let soon = subst (λ o. IfSome o (λ e. e.time < c.self.inside.domain.until)) c.in-Some.is popped.before in
    let least = subst (λ o. IfSome o (λ e. All (AtMost (event_cmp g.M.Body.Ord.cmp) e) c.self.inside.pending.events)) c.in-Some.is popped.least in
    let taken = subst (λ o. IfSome o (λ e. IsPermutation c.self.inside.pending.events (e ∷ c.pop_before.new.self.events))) c.in-Some.is popped.taken in
    valid laws c.args.model.now _ at c.in-Some.event c.pop_before.new.self.events soon least taken

pub deal-requires-clause-later : goal.deal-requires-clause-later
deal-requires-clause-later g c =
    let laws = laws_of g.met.M.Model g.met.M.Body.Ord.total in
    let at = subst (IsAtWork g.M.Model g.M.Body.Ord.cmp c.args.model.now) (sym c.self.view_is) c.requires.at_work in
    let popped = c.in_ok-pop_before.ensures in
    let soon = subst (λ o. IfSome o (λ e. e.time < c.self.inside.domain.until)) c.in-Some.is popped.before in
    let least = subst (λ o. IfSome o (λ e. All (AtMost (event_cmp g.M.Body.Ord.cmp) e) c.self.inside.pending.events)) c.in-Some.is popped.least in
    let taken = subst (λ o. IfSome o (λ e. IsPermutation c.self.inside.pending.events (e ∷ c.pop_before.new.self.events))) c.in-Some.is popped.taken in
    let there = here laws c.args.model.now _ at c.in-Some.event c.pop_before.new.self.events soon least taken in
    let state = c.index_mut.ensures.value ∙ get_or_from_slice_get c.self.inside.domain.states.items (c.in-Some.event.to / c.self.inside.domain.workers) _ c.index_mut.result.now there in
    let time = subst (λ o. IfSome o (λ e. c.pop_before.new.self.time ≡ e.time)) c.in-Some.is popped.reached in
    let sends = c.deref.ensures.value ∙ c.in_ok-advance.ensures.sends ∙ ap (λ l. l ++ (g.M.Model.step c.args.model.now c.in-Some.event.to c.index_mut.result.now c.in-Some.event).1) c.clear.ensures.items in
    later_here laws c.args.model.now _ at c.in-Some.event c.pop_before.new.self.events soon least taken c.index_mut.result.now state c.deref.result.now sends c.pop_before.new.self.time time

pub returns-clause-at_work : goal.returns-clause-at_work
returns-clause-at_work g c =
    let laws = laws_of g.met.M.Model g.met.M.Body.Ord.total in
    let at = subst (IsAtWork g.M.Model g.M.Body.Ord.cmp c.args.model.now) (sym c.self.view_is) c.requires.at_work in
    let popped = c.in_ok-pop_before.ensures in
    let soon = subst (λ o. IfSome o (λ e. e.time < c.self.inside.domain.until)) c.in-Some.is popped.before in
    let least = subst (λ o. IfSome o (λ e. All (AtMost (event_cmp g.M.Body.Ord.cmp) e) c.self.inside.pending.events)) c.in-Some.is popped.least in
    let taken = subst (λ o. IfSome o (λ e. IsPermutation c.self.inside.pending.events (e ∷ c.pop_before.new.self.events))) c.in-Some.is popped.taken in
    let there = here laws c.args.model.now _ at c.in-Some.event c.pop_before.new.self.events soon least taken in
    let state = c.index_mut.ensures.value ∙ get_or_from_slice_get c.self.inside.domain.states.items (c.in-Some.event.to / c.self.inside.domain.workers) _ c.index_mut.result.now there in
    let time = subst (λ o. IfSome o (λ e. c.pop_before.new.self.time ≡ e.time)) c.in-Some.is popped.reached in
    let sends = c.deref.ensures.value ∙ c.in_ok-advance.ensures.sends ∙ ap (λ l. l ++ (g.M.Model.step c.args.model.now c.in-Some.event.to c.index_mut.result.now c.in-Some.event).1) c.clear.ensures.items in
    executed_here laws c.args.model.now _ at c.in-Some.event c.pop_before.new.self.events soon least taken c.index_mut.result.now state c.deref.result.now sends c.pop_before.new.self.time time c.advance.new.state c.in_ok-advance.ensures.state c.deal.new.self
    c.in_ok-deal.ensures.dealt

pub returns-in_default-clause-at_work : goal.returns-in_default-clause-at_work
returns-in_default-clause-at_work g c =
    let none = subst (λ o. IfNone o (All (λ e. c.self.inside.domain.until ≤ e.time) c.self.inside.pending.events × (c.pop_before.new.self ≡ c.self.inside.pending))) c.in_default.is c.in_ok-pop_before.ensures.none in
    rw none.1 (subst (IsAtWork g.M.Model g.M.Body.Ord.cmp c.args.model.now) (sym c.self.view_is) c.requires.at_work)

pub returns-in_default-clause-same : goal.returns-in_default-clause-same
returns-in_default-clause-same g c =
    let none = subst (λ o. IfNone o (All (λ e. c.self.inside.domain.until ≤ e.time) c.self.inside.pending.events × (c.pop_before.new.self ≡ c.self.inside.pending))) c.in_default.is c.in_ok-pop_before.ensures.none in
    rw none.1 (subst (SameWorker c.args.self.now) (sym c.self.view_is) (same_itself c.args.self.now))

pub returns-in_default-clause-none : goal.returns-in_default-clause-none
returns-in_default-clause-none g c =
    let none = subst (λ o. IfNone o (All (λ e. c.self.inside.domain.until ≤ e.time) c.self.inside.pending.events × (c.pop_before.new.self ≡ c.self.inside.pending))) c.in_default.is c.in_ok-pop_before.ensures.none in
    λ _. rw none.1 none.0

pub nonzero_div-place : goal.nonzero_div-place
nonzero_div-place g c =
    let at = subst (IsAtWork g.M.Model g.M.Body.Ord.cmp c.args.model.now) (sym c.self.view_is) c.requires.at_work in
    omega (arith, at.seated.number)

pub deal-requires-clause-number : goal.deal-requires-clause-number
deal-requires-clause-number g c =
    let at = subst (IsAtWork g.M.Model g.M.Body.Ord.cmp c.args.model.now) (sym c.self.view_is) c.requires.at_work in
    at.seated.number

pub deal-requires-clause-lists : goal.deal-requires-clause-lists
deal-requires-clause-lists g c =
    let at = subst (IsAtWork g.M.Model g.M.Body.Ord.cmp c.args.model.now) (sym c.self.view_is) c.requires.at_work in
    at.seated.lists

pub advance-requires-clause-here : goal.advance-requires-clause-here
advance-requires-clause-here g c = refl

pub returns-clause-same : goal.returns-clause-same
returns-clause-same g c =
    let dealt = c.in_ok-deal.ensures.dealt.same in
    let port = subst (λ p. SamePort p p) (sym (ap (λ w. w.port) c.self.view_is)) (same_itself c.args.self.now).port in
    same_then _ _ _ (subst (SameWorker c.args.self.now) (sym c.self.view_is) (same_itself c.args.self.now))
    (record {
      number = ap (λ w. w.number) dealt;
      workers = ap (λ w. w.workers) dealt;
      end = ap (λ w. w.end) dealt;
      lookahead = ap (λ w. w.lookahead) dealt;
      starts = ap (λ w. w.starts) dealt;
      given = ap (λ w. w.given) dealt;
      port = subst (SamePort c.self.inside.domain.port) (sym (ap (λ w. w.port) dealt)) port;
    })
