use Rattle.std.proofs.Common.{◌∷◌, map, sym, ap, ◌∙◌}
use Rattle.rw_rounds.proofs.setting_up.next_worker.Goals as goal

pub returns-clause-role : goal.returns-clause-role
returns-clause-role g c = ap (λ w. w.role) c.of.ensures.is

pub returns-clause-processes : goal.returns-clause-processes
returns-clause-processes g c =
    ap (map (λ h. h.items)) c.first_of-processes.ensures.first
    ∙ ap (λ h. h ∷ map (λ h. h.items) c.first_of-processes.new.items.items) (sym (ap (λ w. w.processes) c.of.ensures.is))

pub returns-clause-inbox : goal.returns-clause-inbox
returns-clause-inbox g c =
    ap (map (λ b. b.items)) c.first_of-inbox.ensures.first
    ∙ ap (λ b. b ∷ map (λ b. b.items) c.first_of-inbox.new.items.items) (sym (ap (λ w. w.inbox) c.of.ensures.is))

pub returns-clause-port : goal.returns-clause-port
returns-clause-port g c =
    c.first_of-port.ensures.first ∙ ap (λ p. p ∷ c.first_of-port.new.items.items) (sym (ap (λ w. w.port) c.of.ensures.is))

pub returns-clause-seat : goal.returns-clause-seat
returns-clause-seat g c =
    c.first_of-seat.ensures.first ∙ ap (λ s. s ∷ c.first_of-seat.new.items.items) (sym (ap (λ w. w.seat) c.of.ensures.is))

pub first_of-processes-requires : goal.first_of-processes-requires
first_of-processes-requires g c = record { some = c.requires.shares }

pub first_of-inbox-requires : goal.first_of-inbox-requires
first_of-inbox-requires g c = record { some = c.requires.inboxes }

pub first_of-port-requires : goal.first_of-port-requires
first_of-port-requires g c = record { some = c.requires.ports }

pub first_of-seat-requires : goal.first_of-seat-requires
first_of-seat-requires g c = record { some = c.requires.seats }
