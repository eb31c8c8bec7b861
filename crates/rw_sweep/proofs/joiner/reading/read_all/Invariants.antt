use Rattle.std.proofs.Common.{map, take}
use Rattle.rw_sweep.specs.JoinSlots.{HaveRead}
use Rattle.rw_sweep.proofs.joiner.reading.read_all.Given as goal

abbrev pub invariant-loop-file : goal.invariant-loop-file
invariant-loop-file l = HaveRead (map (λ part. part.items) (take l.file l.texts)) l.slots.items
