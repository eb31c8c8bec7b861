use Rattle.std.proofs.Common.{◌≡◌, ◌∙◌, ℕ, sym, ap, rules}
use Rattle.rw_ripq.specs.Work.{one_if}
use Rattle.rw_photo.specs.declared.counters.Counters.{Counters}
use Rattle.rw_photo.specs.Counts.{plus}
use Rattle.rw_photo.proofs.Happenings.{uncounted}
use Rattle.rw_photo.proofs.counters.Counters.purge.Goals as goal

pub returns : goal.returns
returns c =
    let k : Counters = c.args.self.now in
    let bit : c.from.result ≡ one_if c.args.stored = search rules in
    ap (λ (n : ℕ). record k { purges = plus k.purges 1; purged = plus k.purged n }) bit
    ∙ ap (λ (x : Counters). record x { purges = plus k.purges 1; purged = plus k.purged (one_if c.args.stored) }) (sym (uncounted k c.requires))
