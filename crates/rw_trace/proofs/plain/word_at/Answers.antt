use Rattle.std.proofs.Common.{sym, ◌∙◌, ap, refl, List, ℕ, codes, nat_eq}
use Rattle.std.specs.List.{starts_with}
use Rattle.std.proofs.lemmas.List.{take_rest}
use Rattle.rw_trace.proofs.Lines.{kind-word}
use Rattle.rw_trace.specs.declared.Kind.TheVariants.{Get, Purge}
use Rattle.rw_trace.proofs.plain.word_at.Goals as goal

pub returns-then-starts_with : goal.returns-then-starts_with
returns-then-starts_with c =
    let rest = sym (ap (λ (xs : List ℕ). starts_with nat_eq xs (codes ",get")) (take_rest c.args.bytes.now c.args.from)) in
    kind-word c.args.bytes.now c.args.from 4 Get (rest ∙ sym c.starts_with.ensures.value ∙ c.if-starts_with.true) refl c.requires

pub returns-then-starts_with-2 : goal.returns-then-starts_with-2
returns-then-starts_with-2 c =
    let rest = sym (ap (λ (xs : List ℕ). starts_with nat_eq xs (codes ",purge")) (take_rest c.args.bytes.now c.args.from)) in
    kind-word c.args.bytes.now c.args.from 6 Purge (rest ∙ sym c.starts_with-else-starts_with.ensures.value ∙ c.if-starts_with-2.true) refl c.requires
