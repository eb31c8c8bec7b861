use Rattle.std.proofs.Common.{◌≡◌, ◌++◌, ◌∷◌, [], List, ℕ, ap, ◌∙◌, subst}
use Rattle.std.specs.Prelude.{OnOk}
use Rattle.rw_photo.specs.declared.counters.Counters.{Counters}
use Rattle.rw_report.specs.Columns.{columns_of, counts_of, ratio_text}
use Rattle.rw_report.proofs.Lines.{six-pieces}
use Rattle.rw_report.proofs.columns.write_counts.Goals as goal

pub returns : goal.returns
returns c =
    let k : Counters = c.args.total.now in
    let m = c.args.measured in
    let text : List ℕ = c.args.text.now.items in
    let comma : List ℕ = 44 ∷ [] in
    let first = c.in_ok-write_columns.ensures ∙ ap (λ ns. text ++ columns_of ns) c.counts_of.ensures in
    let last = subst (λ ns. OnOk c.write_columns-2.result (c.write_columns-2.new.text.items ≡ c.write_ratio-2.new.text.items ++ columns_of ns))
    (λ i. m.flash_bytes ∷ m.written_bytes ∷ c.from.ensures i ∷ c.from-2.ensures i ∷ c.from-3.ensures i ∷ []) c.write_columns-2.ensures in
    six-pieces c.write_columns-2.result text (columns_of (counts_of k)) comma (ratio_text k.hits k.requests) comma (ratio_text k.hit_bytes k.request_bytes)
    (columns_of (m.flash_bytes ∷ m.written_bytes ∷ m.backend_requests ∷ m.backend_bytes ∷ k.inserted_bytes ∷ []))
    _ _ _ _ _ _ first c.in_ok-push.ensures.items c.in_ok-write_ratio.ensures c.in_ok-push-2.ensures.items c.in_ok-write_ratio-2.ensures last
