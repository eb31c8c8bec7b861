use Rattle.std.proofs.Common.{◌∷◌, length, map, refl, sym, ap, ◌∙◌, arith}
use Rattle.rw_windows.proofs.beginning.next_share.Goals as goal

pub first_of-inbox-requires : goal.first_of-inbox-requires
first_of-inbox-requires g c = record { some = c.requires.inboxes }

pub first_of-requires : goal.first_of-requires
first_of-requires g c = record { some = c.requires.shares }

pub first_of-requires-2 : goal.first_of-requires-2
first_of-requires-2 g c = record { some = c.requires.ports }

pub first_of-requires-3 : goal.first_of-requires-3
first_of-requires-3 g c = record { some = c.requires.parkers }

pub returns-clause-number : goal.returns-clause-number
returns-clause-number g c = refl

pub returns-clause-states : goal.returns-clause-states
returns-clause-states g c = ap (map (λ h. h.items)) c.first_of.ensures.first

pub returns-clause-given : goal.returns-clause-given
returns-clause-given g c =
    ap (map (λ b. b.items)) c.first_of-inbox.ensures.first
    ∙ ap (λ v. v.items ∷ map (λ b. b.items) c.first_of-inbox.new.items.items) (sym c.of-given.ensures)

pub returns-clause-port : goal.returns-clause-port
returns-clause-port g c = c.first_of-2.ensures.first

pub returns-clause-parkers : goal.returns-clause-parkers
returns-clause-parkers g c = omega (arith, ap length c.first_of-3.ensures.first)

pub returns-clause-starts : goal.returns-clause-starts
returns-clause-starts g c = ap (λ s. s.value.items) c.of.ensures
