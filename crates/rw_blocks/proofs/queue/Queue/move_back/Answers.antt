use Rattle.std.proofs.Common.{sym, ap, subst, ◌∙◌, ◌≡◌, ℕ, refl}
use Rattle.std.specs.Prelude.{Some}
use Rattle.std.proofs.lemmas.Result.{on_ok_weaker}
use Rattle.rw_blocks.specs.declared.Place.{Place}
use Rattle.rw_blocks.specs.State.{QueueState, row_at, row_or}
use Rattle.rw_blocks.specs.Loose.{IsLoose}
use Rattle.rw_blocks.specs.Primitives.{with_row, after_remove}
use Rattle.rw_blocks.proofs.Kept.{IsLoose-after_remove}
use Rattle.rw_blocks.proofs.Moving.{moved, gone-row}
use Rattle.rw_blocks.proofs.queue.Queue.move_back.Goals as goal

pub put_row_again-requires-clause-loose : goal.put_row_again-requires-clause-loose
put_row_again-requires-clause-loose c = subst IsLoose (sym c.take_row-size.ensures.rest) (IsLoose-after_remove c.args.self.now c.args.object c.requires.loose)

pub put_row_again-requires-clause-none : goal.put_row_again-requires-clause-none
put_row_again-requires-clause-none c = ap (λ (q : QueueState). row_at q c.args.object) c.take_row-size.ensures.rest ∙ gone-row c.args.self.now c.args.object c.requires.loose

-- the row that comes, on the queue without the old one
again : (q z : QueueState) (o h p : ℕ) (r : Place) → IsLoose q → row_at q o ≡ Some r → z ≡ after_remove q o
    → with_row z o (record { size = r.size; home = h; place = p }) ≡ with_row q o (record { size = (row_or q o).size; home = h; place = p })
again q z o h p r loose is gone =
    let new : Place = record { size = r.size; home = h; place = p } in
    ap (λ (y : QueueState). with_row y o new) gone ∙ (moved q o r new loose is ∙ rw is refl)

pub put_row_again-requires-clause-before : goal.put_row_again-requires-clause-before
put_row_again-requires-clause-before c =
    subst IsLoose (sym (again c.args.self.now c.take_row-size.new.self c.args.object c.args.home c.args.place c.take_row-size.result c.requires.loose c.take_row-size.ensures.row c.take_row-size.ensures.rest)) c.requires.before

pub returns : goal.returns
returns c =
    on_ok_weaker c.put_row_again.result
    (λ is. is ∙ again c.args.self.now c.take_row-size.new.self c.args.object c.args.home c.args.place c.take_row-size.result c.requires.loose c.take_row-size.ensures.row c.take_row-size.ensures.rest)
    c.put_row_again.ensures
