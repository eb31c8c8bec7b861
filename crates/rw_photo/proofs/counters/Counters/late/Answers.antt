use Rattle.std.proofs.Common.{sym, ap}
use Rattle.rw_photo.specs.declared.counters.Counters.{Counters}
use Rattle.rw_photo.specs.Counts.{plus}
use Rattle.rw_photo.proofs.Happenings.{uncounted}
use Rattle.rw_photo.proofs.counters.Counters.late.Goals as goal

pub returns : goal.returns
returns c =
    let k : Counters = c.args.self.now in
    ap (λ (x : Counters). record x { late = plus k.late c.args.late }) (sym (uncounted k c.requires))
