use Rattle.std.proofs.Common.{◌≡◌, ◌++◌, true, false, sym, ap, ◌∙◌, append-nil}
use Rattle.rw_vt.specs.Order.{event_cmp, has}
use Rattle.rw_lp.specs.HeldBack.{antis_unless, held_unless}
use Rattle.std.proofs.lemmas.Result.{on_ok_weaker}
use Rattle.rw_lp.proofs.HeldRuns.{none_unless}
use Rattle.rw_lp.proofs.lp.annihilate.Goals as goal

pub returns-then-is_empty-clause-out : goal.returns-then-is_empty-clause-out
returns-then-is_empty-clause-out g c =
    let cmp = event_cmp g.M.Body.Ord.cmp in
    sym (ap (λ l. c.args.out.now.items ++ l) (none_unless cmp c.args.event (has cmp c.args.event c.args.pending.now) c.args.held.now (c.is_empty.ensures c.if-is_empty.true)).0 ∙ append-nil c.args.out.now.items)

pub returns-then-is_empty-clause-left : goal.returns-then-is_empty-clause-left
returns-then-is_empty-clause-left g c =
    let cmp = event_cmp g.M.Body.Ord.cmp in
    (none_unless cmp c.args.event (has cmp c.args.event c.args.pending.now) c.args.held.now (c.is_empty.ensures c.if-is_empty.true)).1

pub returns-then-holds-clause-out : goal.returns-then-holds-clause-out
returns-then-holds-clause-out g c =
    let cmp = event_cmp g.M.Body.Ord.cmp in
    let there : has cmp c.args.event c.args.pending.now ≡ true = sym c.holds.ensures ∙ c.if-holds.true in
    sym (ap (λ b. c.args.out.now.items ++ antis_unless b cmp c.args.event c.args.held.now) there ∙ append-nil c.args.out.now.items)

pub returns-then-holds-clause-left : goal.returns-then-holds-clause-left
returns-then-holds-clause-left g c =
    let cmp = event_cmp g.M.Body.Ord.cmp in
    let there : has cmp c.args.event c.args.pending.now ≡ true = sym c.holds.ensures ∙ c.if-holds.true in
    sym (ap (λ b. held_unless b cmp c.args.event c.args.held.now) there)

pub returns-clause-out : goal.returns-clause-out
returns-clause-out g c =
    let cmp = event_cmp g.M.Body.Ord.cmp in
    let none : has cmp c.args.event c.args.pending.now ≡ false = sym c.holds.ensures ∙ c.if-holds.false in
    on_ok_weaker c.cancel.result (λ is. is ∙ sym (ap (λ b. c.args.out.now.items ++ antis_unless b cmp c.args.event c.args.held.now) none)) c.cancel.ensures.out

pub returns-clause-left : goal.returns-clause-left
returns-clause-left g c =
    let cmp = event_cmp g.M.Body.Ord.cmp in
    let none : has cmp c.args.event c.args.pending.now ≡ false = sym c.holds.ensures ∙ c.if-holds.false in
    on_ok_weaker c.cancel.result (λ is. is ∙ sym (ap (λ b. held_unless b cmp c.args.event c.args.held.now) none)) c.cancel.ensures.left
