use Rattle.std.proofs.Common.{◌∷◌, [], ◌++◌, map, ap, ◌∙◌, append_assoc}
use Rattle.rw_board.specs.Seats.{SeatState}
use Rattle.rw_lp.specs.Calls.{least_of_processes}
use Rattle.rw_rounds.specs.Working.{worker_of}
use Rattle.rw_rounds.proofs.inner.Inner.close.Goals as goal

pub returns : goal.returns
returns g c =
    let x = c.args.self.now in
    let least = c.least_of_processes-least.result in
    let is = c.least_of_processes-least.ensures ∙ ap (λ ls. least_of_processes 1099511627776 (map (λ l. l.process) ls)) c.as_slice.ensures in
    let noted =
    c.note_all.ensures.noted
    ∙ ap (λ ls. record c.note.new.seat { noted = c.note.new.seat.noted ++ map (λ l. l.event.time) ls }) c.deref.ensures.value
    ∙ ap {A = SeatState} (λ s. record s { noted = s.noted ++ map (λ l. l.event.time) x.kept.items }) c.note.ensures.noted
    ∙ ap (λ n. record x.seat { noted = n }) (append_assoc x.seat.noted (least ∷ []) (map (λ l. l.event.time) x.kept.items))
    ∙ ap (λ t. record x.seat { noted = x.seat.noted ++ t ∷ map (λ l. l.event.time) x.kept.items }) is in
    record { closes = ap {A = SeatState} (λ s. record (worker_of x) { seat = s }) noted }
