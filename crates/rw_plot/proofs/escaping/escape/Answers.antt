-- What is written of a whole text is what is escaped, which is a text of pieces.
use Rattle.std.proofs.Common.{◌≡◌, ◌∙◌, sym}
use Rattle.rw_plot.specs.Escape.{escaped}
use Rattle.rw_plot.proofs.Escapes.{escaped-end, escaped-law}
use Rattle.rw_plot.proofs.escaping.escape.Goals as goal

pub returns-clause-value : goal.returns-clause-value
returns-clause-value c =
    sym (escaped-end c.loop-byte.out.items c.loop-byte.byte-index c.args.text.now c.loop-byte-test.false) ∙ c.loop-byte.invariant

pub returns-clause-law : goal.returns-clause-law
returns-clause-law c =
    let ended = escaped-end c.loop-byte.out.items c.loop-byte.byte-index c.args.text.now c.loop-byte-test.false in
    let all : c.loop-byte.out.items ≡ escaped c.args.text.now = sym ended ∙ c.loop-byte.invariant in
    rw all (escaped-law c.args.text.now)
