use Rattle.std.proofs.Common.{◌≡◌, ◌∙◌, ℕ, List, ap, sym, subst, take}
use Rattle.std.specs.Io.KnownBytes.{Appends}
use Rattle.rw_report.specs.Sink.{AppendsBeginning, one_more}
use Rattle.rw_report.proofs.Written.{appends-keeps}
use Rattle.rw_report.proofs.output.Out.write_text.Goals.{else-write_whole, then-write_whole}
use Rattle.rw_report.proofs.output.Out.write_text.Goals as goal

pub returns-then-not-whole-clause-failures : goal.returns-then-not-whole-clause-failures
returns-then-not-whole-clause-failures g c =
    let same : c.if-write_whole.self-inside.failures ≡ c.args.self.now.failures = elim c.if-write_whole.branch [
      | then-write_whole w ↦ ap (λ o. o.failures) w.self-inside-is ∙ ap (λ o. o.failures) c.self.view_is
      | else-write_whole w ↦ ap (λ o. o.failures) w.self-inside-is ∙ ap (λ o. o.failures) c.self.view_is
    ] in
    rw c.if-not-whole.true (ap one_more same)

pub returns-then-not-whole-clause-whole : goal.returns-then-not-whole-clause-whole
returns-then-not-whole-clause-whole g c = rw c.if-not-whole.true tt

pub returns-then-not-whole-clause-beginning : goal.returns-then-not-whole-clause-beginning
returns-then-not-whole-clause-beginning g c =
    let contents = g.W.Write.contents in
    let text : List ℕ = c.args.text.now in
    let old = c.args.self.now.writer in
    let begun : AppendsBeginning (contents old) (contents c.write_whole.new.writer) text =
    subst (λ w. AppendsBeginning (contents w) (contents c.write_whole.new.writer) text) (ap (λ o. o.writer) c.self.view_is) c.write_whole.ensures.beginning in
    elim c.if-write_whole.branch [
      | then-write_whole w ↦ subst (λ new. AppendsBeginning (contents old) (contents new) text) (sym (ap (λ o. o.writer) w.self-inside-is))
          (begun.0, appends-keeps (contents old) (contents c.write_whole.new.writer) (contents w.flush.new.self) (take begun.0 text) begun.1 w.flush.ensures.bytes)
      | else-write_whole w ↦ subst (λ new. AppendsBeginning (contents old) (contents new) text) (sym (ap (λ o. o.writer) w.self-inside-is)) begun
    ]

pub returns-else-not-whole-clause-failures : goal.returns-else-not-whole-clause-failures
returns-else-not-whole-clause-failures g c =
    let same : c.if-write_whole.self-inside.failures ≡ c.args.self.now.failures = elim c.if-write_whole.branch [
      | then-write_whole w ↦ ap (λ o. o.failures) w.self-inside-is ∙ ap (λ o. o.failures) c.self.view_is
      | else-write_whole w ↦ ap (λ o. o.failures) w.self-inside-is ∙ ap (λ o. o.failures) c.self.view_is
    ] in
    rw c.if-not-whole.false same

pub returns-else-not-whole-clause-whole : goal.returns-else-not-whole-clause-whole
returns-else-not-whole-clause-whole g c =
    let contents = g.W.Write.contents in
    let text : List ℕ = c.args.text.now in
    let old = c.args.self.now.writer in
    elim c.if-write_whole.branch [
      | then-write_whole w ↦
          let all : Appends (contents old) (contents c.write_whole.new.writer) text =
          subst (λ w. Appends (contents w) (contents c.write_whole.new.writer) text) (ap (λ o. o.writer) c.self.view_is) w.if-write_whole.ensures.whole in
          rw c.if-not-whole.false (subst (λ new. Appends (contents old) (contents new) text) (sym (ap (λ o. o.writer) w.self-inside-is))
          (appends-keeps (contents old) (contents c.write_whole.new.writer) (contents w.flush.new.self) text all w.flush.ensures.bytes))
      | else-write_whole w ↦ let not = c.if-not-whole.false in let is = w.whole-is in let cut = w.if-write_whole.false in cc
    ]

pub returns-else-not-whole-clause-beginning : goal.returns-else-not-whole-clause-beginning
returns-else-not-whole-clause-beginning g c =
    let contents = g.W.Write.contents in
    let text : List ℕ = c.args.text.now in
    let old = c.args.self.now.writer in
    let begun : AppendsBeginning (contents old) (contents c.write_whole.new.writer) text =
    subst (λ w. AppendsBeginning (contents w) (contents c.write_whole.new.writer) text) (ap (λ o. o.writer) c.self.view_is) c.write_whole.ensures.beginning in
    elim c.if-write_whole.branch [
      | then-write_whole w ↦ subst (λ new. AppendsBeginning (contents old) (contents new) text) (sym (ap (λ o. o.writer) w.self-inside-is))
          (begun.0, appends-keeps (contents old) (contents c.write_whole.new.writer) (contents w.flush.new.self) (take begun.0 text) begun.1 w.flush.ensures.bytes)
      | else-write_whole w ↦ subst (λ new. AppendsBeginning (contents old) (contents new) text) (sym (ap (λ o. o.writer) w.self-inside-is)) begun
    ]
