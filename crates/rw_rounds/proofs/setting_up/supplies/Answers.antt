use Rattle.std.proofs.Common.{◌≡◌, arith, [], length, map, sym, ap, ◌∙◌, subst, get_or, All}
use Rattle.std.specs.Prelude.{◌%◌, ◌==◌, filter}
use Rattle.rw_exchange.specs.Ports.{IsNew, IsOpening, StayAnOpening}
use Rattle.rw_board.specs.Seats.{new_seat}
use Rattle.rw_rounds.proofs.setting_up.supplies.Goals as goal

pub returns-clause-inboxes : goal.returns-clause-inboxes
returns-clause-inboxes g c =
    let n = c.args.plan.now.workers in
    let same = c.from.ensures.0 in (
      ap length same ∙ c.in_ok-inboxes.ensures.count,
      λ i below. ap (λ bs. get_or (map (λ b. b.items) bs) i []) same ∙ c.in_ok-inboxes.ensures.each i below ∙ ap (filter (λ l. l.event.to % n == i)) c.deref.ensures.value,
    )

pub returns-clause-ports : goal.returns-clause-ports
returns-clause-ports g c =
    let its = c.in_ok-ports.ensures in
    let same = c.from-2.ensures.0 in
    (omega (arith, ap length same, c.in_ok-ports.ports.ok.0, its.count), subst IsOpening (sym same) its.opening, subst StayAnOpening (sym same) its.stays, subst (All IsNew) (sym same) its.new)

pub returns-clause-seats : goal.returns-clause-seats
returns-clause-seats g c =
    let its = c.in_ok-board.ensures in
    let same = c.from-3.ensures.0 in
    (omega (arith, ap length same, c.in_ok-board.seats.ok.0, its.count), its.board, subst (All (λ s. s ≡ new_seat c.in_ok-board.board.board)) (sym same) its.new)
