use Rattle.std.proofs.Common.{sym, ◌∙◌, ap, List, ℕ, codes, nat_eq}
use Rattle.std.specs.List.{starts_with}
use Rattle.std.proofs.lemmas.List.{take_rest}
use Rattle.rw_trace.proofs.Lines.{end-feed, end-return, end-text}
use Rattle.rw_trace.proofs.plain.line_end.Goals as goal

pub returns-then-at-bytes : goal.returns-then-at-bytes
returns-then-at-bytes c = end-text c.args.bytes.now c.args.at c.requires c.if-at-bytes.true

pub returns-then-bytes-at-eq10 : goal.returns-then-bytes-at-eq10
returns-then-bytes-at-eq10 c = end-feed c.args.bytes.now c.args.at c.if-at-bytes.false c.if-bytes-at-eq10.true

pub returns-then-starts_with : goal.returns-then-starts_with
returns-then-starts_with c =
    let rest = sym (ap (λ (xs : List ℕ). starts_with nat_eq xs (codes "\r\n")) (take_rest c.args.bytes.now c.args.at)) in
    end-return c.args.bytes.now c.args.at (rest ∙ sym c.starts_with.ensures.value ∙ c.if-starts_with.true) c.requires
