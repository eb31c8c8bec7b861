use Rattle.std.proofs.Common.{◌*◌, ℕ, length, min, sym, ap, ◌∙◌, lit<}
use Rattle.rw_sweep.specs.Grids.{combinations}
use Rattle.rw_sweep.specs.declared.axes.Axes.{Axes}
use Rattle.rw_sweep.proofs.Widened.{length-combinations, stopped-products, told-by-stopped}
use Rattle.rw_sweep.proofs.grid.has_too_many.Goals as goal

pub returns : goal.returns
returns c =
    let a : Axes = c.args.axes.now in
    let m : ℕ = 18446744073709551615 in
    let p = c.len.ensures ∙ a.policies.ok.0 in
    let s = c.len-2.ensures ∙ a.sections.ok.0 in
    let b = c.len-3.ensures ∙ a.blocks.ok.0 in
    let e = c.len-4.ensures ∙ a.edge_blocks.ok.0 in
    let o = c.len-5.ensures ∙ a.origin_blocks.ok.0 in
    let f = c.len-6.ensures ∙ a.edges.ok.0 in
    let g = c.len-7.ensures ∙ a.origins.ok.0 in
    let u = c.len-8.ensures ∙ a.up.ok.0 in
    let d = c.len-9.ensures ∙ a.down.ok.0 in
    let k = c.len-10.ensures ∙ a.back.ok.0 in
    let count = stopped-products m (length a.policies.items) (length a.sections.items) (length a.blocks.items) (length a.edge_blocks.items) (length a.origin_blocks.items)
    (length a.edges.items) (length a.origins.items) (length a.up.items) (length a.down.items) (length a.back.items)
    c.saturating_mul.result c.saturating_mul-2.result c.saturating_mul-3.result c.saturating_mul-4.result c.saturating_mul-5.result c.saturating_mul-6.result c.saturating_mul-7.result c.saturating_mul-8.result
    c.saturating_mul-count.result
    (c.saturating_mul.ensures ∙ (λ i. min (p i * s i) m)) (c.saturating_mul-2.ensures ∙ (λ i. min (c.saturating_mul.result * b i) m))
    (c.saturating_mul-3.ensures ∙ (λ i. min (c.saturating_mul-2.result * e i) m)) (c.saturating_mul-4.ensures ∙ (λ i. min (c.saturating_mul-3.result * o i) m))
    (c.saturating_mul-5.ensures ∙ (λ i. min (c.saturating_mul-4.result * f i) m)) (c.saturating_mul-6.ensures ∙ (λ i. min (c.saturating_mul-5.result * g i) m))
    (c.saturating_mul-7.ensures ∙ (λ i. min (c.saturating_mul-6.result * u i) m)) (c.saturating_mul-8.ensures ∙ (λ i. min (c.saturating_mul-7.result * d i) m))
    (c.saturating_mul-count.ensures ∙ (λ i. min (c.saturating_mul-8.result * k i) m)) in
    told-by-stopped 65536 c.saturating_mul-count.result (length (combinations a)) m (count ∙ ap (λ n. min n m) (sym (length-combinations a))) (lit< tt)
