-- The set's texts.
use Rattle.std.proofs.Common.{◌∙◌, ap, map, sym}
use Rattle.std.specs.List.{position_or_len}
use Rattle.std.specs.Prelude.{is_some}
use Rattle.rw_trace.specs.Words.{Text}
use Rattle.rw_import.specs.Csv.{is_same_text, with_text}
use Rattle.rw_import.specs.Sheet.{texts_in}
use Rattle.rw_import.proofs.Texts.{insert-items, known-number, known-texts, place-items}
use Rattle.rw_import.proofs.numbering.number_of.Goals as goal

pub returns-in-Some-clause-number : goal.returns-in-Some-clause-number
returns-in-Some-clause-number c = known-number c.args.text.now c.args.texts.now.keys c.in-Some.known (sym c.get_index_of.ensures.index ∙ c.in-Some.is)

pub returns-in-Some-clause-texts : goal.returns-in-Some-clause-texts
returns-in-Some-clause-texts c = known-texts c.args.text.now c.args.texts.now.keys (sym c.get_index_of.ensures.found ∙ ap is_some c.in-Some.is)

pub returns-clause-number : goal.returns-clause-number
returns-clause-number c =
    let owned = c.in_ok-owned in
    c.in-Ok.ensures.index ∙ place-items owned.field-0.items c.args.texts.now.keys ∙ ap (λ (t : Text). position_or_len (is_same_text t) (texts_in c.args.texts.now)) owned.ensures.text

pub returns-clause-texts : goal.returns-clause-texts
returns-clause-texts c =
    let owned = c.in_ok-owned in
    ap (λ (vs : _). map (λ v. v.items) vs) c.in-Ok.ensures.keys ∙ insert-items owned.field-0 c.args.texts.now.keys ∙ ap (λ (t : Text). with_text (texts_in c.args.texts.now) t) owned.ensures.text
