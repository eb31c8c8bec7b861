use Rattle.std.proofs.Common.{sym, ap}
use Rattle.rw_photo.specs.declared.counters.Counters.{Counters}
use Rattle.rw_photo.specs.Counts.{plus}
use Rattle.rw_photo.proofs.Happenings.{uncounted}
use Rattle.rw_photo.proofs.counters.Counters.insert.Goals as goal

pub returns : goal.returns
returns c =
    let k : Counters = c.args.self.now in
    ap (λ (x : Counters). record x { inserted = plus k.inserted 1; evicted = plus k.evicted c.args.tally.evicted; reinserted = plus k.reinserted c.args.tally.reinserted; writes = plus k.writes c.args.tally.writes; splits = plus k.splits c.args.tally.splits; merges = plus k.merges c.args.tally.merges; inserted_bytes = plus k.inserted_bytes c.args.size }) (sym (uncounted k c.requires))
