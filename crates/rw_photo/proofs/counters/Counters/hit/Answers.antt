use Rattle.std.proofs.Common.{◌≡◌, ◌∙◌, ℕ, sym, ap, rules}
use Rattle.rw_ripq.specs.Work.{one_if}
use Rattle.rw_photo.specs.declared.counters.Counters.{Counters}
use Rattle.rw_photo.specs.Counts.{plus}
use Rattle.rw_photo.proofs.Happenings.{uncounted}
use Rattle.rw_photo.proofs.counters.Counters.hit.Goals as goal

pub returns : goal.returns
returns c =
    let k : Counters = c.args.self.now in
    let z : ℕ = c.args.size in
    let bit : c.from.result ≡ one_if c.args.moved = search rules in
    ap (λ (n : ℕ). record k { requests = plus k.requests 1; hits = plus k.hits 1; promoted = plus k.promoted n; hit_bytes = plus k.hit_bytes z; request_bytes = plus k.request_bytes z }) bit
    ∙ ap (λ (x : Counters). record x { requests = plus k.requests 1; hits = plus k.hits 1; promoted = plus k.promoted (one_if c.args.moved); hit_bytes = plus k.hit_bytes z; request_bytes = plus k.request_bytes z }) (sym (uncounted k c.requires))
