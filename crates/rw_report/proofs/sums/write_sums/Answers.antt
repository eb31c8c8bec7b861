use Rattle.std.proofs.Common.{◌++◌, List, ℕ, ap, ◌∙◌, codes}
use Rattle.rw_report.specs.Columns.{caches_name, measured_columns}
use Rattle.rw_report.specs.Sums.{counted_by, measured_by}
use Rattle.rw_report.proofs.Lines.{three-pieces}
use Rattle.rw_report.proofs.sums.write_sums.Goals as goal

pub returns : goal.returns
returns c =
    let text : List ℕ = c.args.text.now.items in
    let config = c.args.config.now in
    let sums = c.args.sums.now in
    let who = c.args.caches in
    let name = c.in_ok-extend_from_slice.ensures.items ∙ ap (λ l. text ++ l) c.caches_name.ensures in
    let counts = c.in_ok-write_counts.ensures ∙ (λ i. c.extend_from_slice.new.self.items ++ measured_columns (c.counted.ensures i) (c.measured.ensures i)) in
    three-pieces text (caches_name who) (measured_columns (counted_by sums who) (measured_by config sums who)) (codes "\n")
    _ _ _ name counts c.in_ok-push.ensures.items
