use Rattle.std.proofs.Common.{◌<◌, ◌≤◌, arith, refl}
use Rattle.std.proofs.lemmas.Bool.Decides.{nat_tests}
use Rattle.std.proofs.lemmas.List.Elements.{All-weaker}
use Rattle.std.proofs.lemmas.Result.{on_ok_weaker}
use Rattle.rw_pending.proofs.ByTime.{least_or_from}
use Rattle.rw_pending.proofs.Waiting.{due_before, due_none_ok, taken_due}
use Rattle.rw_pending.proofs.pending.take_due.Goals as goal

pub returns-then-least-clause-none : goal.returns-then-least-clause-none
returns-then-least-clause-none g c =
    let early : c.least.result < c.least-least.result = grind (arith, nat_tests) in
    (refl, due_before g.B.Ord.cmp c.args.initial.now c.args.later.now c.least.ensures.first c.least-least.ensures early)

pub take_one-requires : goal.take_one-requires
take_one-requires g c = least_or_from c.args.later.now c.least-least.ensures

pub returns-else-least-clause-least : goal.returns-else-least-clause-least
returns-else-least-clause-least g c =
    let t = c.least-least.result in
    let s = c.least.result in
    let late : t ≤ s = grind (arith, nat_tests) in
    on_ok_weaker c.take_one.result
    (λ h. taken_due t c.args.initial.now c.args.later.now c.take_one.new.next h
    (All-weaker (λ e. s ≤ e.time) (λ e. t ≤ e.time) (λ e m. omega arith) c.args.initial.now (least_or_from c.args.initial.now c.least.ensures.least))
    (least_or_from c.args.later.now c.least-least.ensures))
    c.take_one.ensures.of_time

pub returns-else-least-clause-none : goal.returns-else-least-clause-none
returns-else-least-clause-none g c =
    due_none_ok g.B.Ord.cmp c.take_one.result c.args.initial.now c.args.later.now c.take_one.new.self c.take_one.new.next c.least-least.ensures c.take_one.ensures.none c.take_one.ensures.others
