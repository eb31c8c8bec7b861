use Rattle.std.proofs.Common.{◌++◌, List, ℕ, ap, ◌∙◌, codes, decimal}
use Rattle.rw_report.proofs.Lines.{five-pieces}
use Rattle.rw_report.proofs.intervals.write_start.Goals as goal

pub returns : goal.returns
returns c =
    let text : List ℕ = c.args.text.now.items in
    let a = c.args.from.now in
    let b = c.args.to.now in
    let comma : List ℕ = codes "," in
    let from = c.in_ok-write_number.ensures ∙ ap (λ n. c.extend_from_slice.new.self.items ++ decimal n) c.from.ensures in
    let to = c.in_ok-write_number-2.ensures ∙ ap (λ n. c.push.new.self.items ++ decimal n) c.from-2.ensures in
    five-pieces text c.args.before.now (decimal a.time) comma (decimal b.time) comma
    _ _ _ _ _ c.in_ok-extend_from_slice.ensures.items from c.in_ok-push.ensures.items to c.in_ok-push-2.ensures.items
