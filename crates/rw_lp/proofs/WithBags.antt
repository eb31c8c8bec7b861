-- A process with other bags: the one form of what a delivery makes of it, for proofs.
use Rattle.std.proofs.Common.{List}
use Rattle.rw_vt.specs.declared.event.Event.{Event}
use Rattle.rw_lp.specs.declared.held.Held.{Held}
use Rattle.rw_lp.specs.Process.{ProcessState}

abbrev pub with_bags : {S B : Type 0} → ProcessState S B → List (Event B) → List (Event B) → List (Held B) → ProcessState S B
with_bags x pending debts held = record x { pending = pending; debts = debts; held = held }
