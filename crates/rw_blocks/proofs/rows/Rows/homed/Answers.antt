use Rattle.rw_blocks.proofs.rows.Rows.homed.Goals as goal

pub sorted-requires-clause-covers : goal.sorted-requires-clause-covers
sorted-requires-clause-covers c = c.self.invariant.homed.covers c.args.serial
