use Rattle.std.proofs.Common.{◌≡◌, sym, ap, ◌∙◌, subst, get_or, map, All, []}
use Rattle.rw_exchange.specs.Ports.{IsNew, IsOpening, StayAnOpening}
use Rattle.rw_board.specs.Seats.{new_seat}
use Rattle.rw_rounds.proofs.setting_up.set_up.Goals as goal

pub returns : goal.returns
returns g c =
    let board = c.in_ok-board.board in
    let had = c.in_ok-board.ensures in
    let its = c.in_ok-workers.ensures in
    record {
      many = its.count;
      roles = its.roles;
      own_processes = its.processes ∙ ap (map (λ h. h.items)) had.shares;
      own_letters = λ i below. ap (λ bs. get_or bs i []) its.inboxes ∙ had.inboxes.1 i below;
      none = its.none;
      opening = subst IsOpening (sym its.ports) had.ports.1;
      stays = subst StayAnOpening (sym its.ports) had.ports.2;
      new_ports = subst (All IsNew) (sym its.ports) had.ports.3;
      seats = had.seats.1;
      new_seats = subst (All (λ s. s ≡ new_seat board.board)) (sym its.seats) had.seats.2;
    }
