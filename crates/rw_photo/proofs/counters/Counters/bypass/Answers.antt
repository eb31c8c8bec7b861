use Rattle.std.proofs.Common.{sym, ap}
use Rattle.rw_photo.specs.declared.counters.Counters.{Counters}
use Rattle.rw_photo.specs.Counts.{plus}
use Rattle.rw_photo.proofs.Happenings.{uncounted}
use Rattle.rw_photo.proofs.counters.Counters.bypass.Goals as goal

pub returns : goal.returns
returns c =
    let k : Counters = c.args.self.now in
    ap (λ (x : Counters). record x { bypassed = plus k.bypassed 1 }) (sym (uncounted k c.requires))
