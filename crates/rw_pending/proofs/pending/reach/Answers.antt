use Rattle.std.proofs.Common.{◌≡◌, ◌≤◌, [], ◌∷◌, ◌∙◌, IfNone, ap, refl, subst, sym, true≢false}
use Rattle.std.specs.Option.{option_to_list}
use Rattle.rw_pending.specs.Pending.{AreAround, IsDue, IsNextEvent, IsReached}
use Rattle.rw_pending.proofs.ByTime.{all_later, late_left, left_same, on_err}
use Rattle.rw_pending.proofs.Next.{due_at, lost_after, next_initial, next_reached, not_none, reached_alone, reached_before, reached_gathered, some_first}
use Rattle.rw_pending.proofs.Waiting.{around_left, no_first, taken_at}
use Rattle.rw_pending.proofs.pending.reach.Goals as goal

pub returns-in_default-clause-taken : goal.returns-in_default-clause-taken
returns-in_default-clause-taken g c =
    let none = subst (λ n. IfNone n ((c.take_due.new.later ≡ c.args.later.now) × IsDue c.args.initial.now c.args.later.now)) c.in_default.is c.in_ok-take_due.ensures.none in
    let hand = no_first c.first.result c.args.now.now c.first.ensures.first (sym c.is_some.ensures ∙ c.if-is_some.false) in
    λ _. subst (IsNextEvent g.B.Ord.cmp c.args.time c.args.initial.now c.args.now.now c.args.later.now c.pop.new.next c.pop.new.self c.args.now.now) (sym none.0)
    (next_initial g.B.Ord.cmp c.args.time c.args.initial.now c.args.now.now c.args.later.now c.pop.new.self c.pop.new.next c.requires hand none.1 c.pop.ensures.taken c.pop.ensures.least c.pop.ensures.none)

pub returns-in_err-take_due-clause-lost : goal.returns-in_err-take_due-clause-lost
returns-in_err-take_due-clause-lost g c =
    on_err c.from_residual.result (around_left c.args.time c.args.initial.now c.args.now.now c.args.later.now c.take_due.new.later c.requires c.in_err-take_due.ensures.left)

pub gather-requires-clause-none : goal.gather-requires-clause-none
gather-requires-clause-none g c = no_first c.first.result c.args.now.now c.first.ensures.first (sym c.is_some.ensures ∙ c.if-is_some.false)

pub returns-in_err-gather-clause-lost : goal.returns-in_err-gather-clause-lost
returns-in_err-gather-clause-lost g c =
    let lost = c.in_err-gather.ensures.lost in
    on_err c.from_residual-in_err-gather.result
    (lost_after c.args.time c.args.initial.now c.args.now.now c.args.later.now c.take_due.new.later c.gather.new.later c.gather.new.now c.in-Some.first c.requires (taken_at c.in-Some.is c.in_ok-take_due.ensures.taken) lost.0 lost.1)

pub returns-then-is_time-clause-reached : goal.returns-then-is_time-clause-reached
returns-then-is_time-clause-reached g c =
    let hand = no_first c.first.result c.args.now.now c.first.ensures.first (sym c.is_some.ensures ∙ c.if-is_some.false) in
    let went = c.in_ok-gather.ensures in
    λ _. (refl, reached_gathered hand (taken_at c.in-Some.is c.in_ok-take_due.ensures.taken) (due_at c.args.later.now c.args.initial.now c.in-Some.is c.in_ok-take_due.ensures.least).1 went.moved went.times.0 went.times.1)

pub take_lesser-requires-clause-none : goal.take_lesser-requires-clause-none
take_lesser-requires-clause-none g c = no_first c.first.result c.args.now.now c.first.ensures.first (sym c.is_some.ensures ∙ c.if-is_some.false)

pub returns-in_err-take_lesser-clause-lost : goal.returns-in_err-take_lesser-clause-lost
returns-in_err-take_lesser-clause-lost g c =
    let lost = c.in_err-take_lesser.ensures.lost in
    let mid = c.take_due.new.later in
    on_err c.from_residual-in_err-take_lesser.result
    (subst (λ xs. AreAround c.args.time xs c.take_lesser.new.now mid) (sym lost.0)
    (lost_after c.args.time c.args.initial.now c.args.now.now c.args.later.now mid mid c.take_lesser.new.now c.in-Some.first c.requires (taken_at c.in-Some.is c.in_ok-take_due.ensures.taken) lost.1 (left_same mid)))

pub returns-clause-taken : goal.returns-clause-taken
returns-clause-taken g c =
    let hand = no_first c.first.result c.args.now.now c.first.ensures.first (sym c.is_some.ensures ∙ c.if-is_some.false) in
    let first = c.in-Some.first in
    let mid = c.take_due.new.later in
    let taken = taken_at c.in-Some.is c.in_ok-take_due.ensures.taken in
    let due = due_at c.args.later.now c.args.initial.now c.in-Some.is c.in_ok-take_due.ensures.least in
    let late = late_left (λ e. first.time ≤ e.time) c.args.later.now (first ∷ []) mid taken due.0 in
    let past = all_later mid c.least_time.result first.time c.least_time.ensures late (λ is. true≢false (sym (c.is_time.ensures.1 is) ∙ c.if-is_time.false)) in
    let went = c.in_ok-take_lesser.ensures in
    let alone = subst (λ l. IsReached c.args.initial.now c.args.now.now c.args.later.now l mid) (sym (ap (λ n. option_to_list n) c.in-Some.is)) (reached_alone hand taken due.1 past) in
    λ _. next_reached g.B.Ord.cmp c.args.time c.take_lesser.new.next alone went.taken went.least (not_none _ c.take_lesser.new.next went.some)

pub returns-then-is_some-clause-reached : goal.returns-then-is_some-clause-reached
returns-then-is_some-clause-reached g c =
    let some = some_first c.first.result c.args.now.now c.first.ensures.first (sym c.is_some.ensures ∙ c.if-is_some.true) in
    λ _. (refl, reached_before c.args.time c.args.initial.now c.args.now.now c.args.later.now c.requires some)

pub returns-then-is_some-clause-taken : goal.returns-then-is_some-clause-taken
returns-then-is_some-clause-taken g c = λ is. absurd (true≢false (sym is))

pub returns-in_default-clause-reached : goal.returns-in_default-clause-reached
returns-in_default-clause-reached g c = λ is. absurd (true≢false is)

pub gather-requires-clause-least : goal.gather-requires-clause-least
gather-requires-clause-least g c =
    let first = c.in-Some.first in
    let taken = taken_at c.in-Some.is c.in_ok-take_due.ensures.taken in
    let due = due_at c.args.later.now c.args.initial.now c.in-Some.is c.in_ok-take_due.ensures.least in
    late_left (λ e. first.time ≤ e.time) c.args.later.now (first ∷ []) c.take_due.new.later taken due.0

pub returns-then-is_time-clause-taken : goal.returns-then-is_time-clause-taken
returns-then-is_time-clause-taken g c = λ is. absurd (true≢false (sym is))

pub returns-clause-reached : goal.returns-clause-reached
returns-clause-reached g c = λ is. absurd (true≢false is)
