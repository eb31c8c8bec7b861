use Rattle.std.proofs.Common.{ap, ◌≡◌, ◌∙◌}
use Rattle.rw_blocks.specs.declared.Kind.TheVariants.{Device}
use Rattle.rw_blocks.specs.Sections.{active_of}
use Rattle.rw_blocks.specs.State.{QueueState, section_at}
use Rattle.rw_blocks.specs.Primitives.{with_row}
use Rattle.rw_blocks.specs.Rows.{row_homed}
use Rattle.rw_blocks.proofs.Laws.{Undoes-after_add}
use Rattle.rw_blocks.proofs.Kept.{IsLoose-after_add}
use Rattle.rw_blocks.proofs.Errors.{if_error, on_error}
use Rattle.rw_blocks.proofs.queue.Queue.add.Goals as goal

pub returns-clause-effect : goal.returns-clause-effect
returns-clause-effect c =
    let home : c.active-home.result ≡ active_of Device (section_at c.args.self.now c.args.section) =
    c.active-home.ensures.active ∙ ap (λ (q : QueueState). active_of Device (section_at q c.args.section)) c.self.view_is in
    c.in_ok-put_row.ensures.put ∙ ap (λ b. with_row c.args.self.now c.args.object (row_homed c.args.size b)) home

pub returns-clause-undoes : goal.returns-clause-undoes
returns-clause-undoes c =
    rw (returns-clause-effect c)
    (Undoes-after_add _ _ _ _ c.requires.loose c.requires.new
    (IsLoose-after_add _ _ _ _ c.requires.loose c.requires.there c.requires.new c.requires.some c.requires.fits c.requires.room))

pub returns-clause-kept : goal.returns-clause-kept
returns-clause-kept c = rw (returns-clause-effect c) (IsLoose-after_add _ _ _ _ c.requires.loose c.requires.there c.requires.new c.requires.some c.requires.fits c.requires.room)

pub returns-in_err-put_row-clause-effect : goal.returns-in_err-put_row-clause-effect
returns-in_err-put_row-clause-effect c = on_error _ _ c.from_residual.result c.from_residual.ensures.1

pub returns-in_err-put_row-clause-undoes : goal.returns-in_err-put_row-clause-undoes
returns-in_err-put_row-clause-undoes c = if_error _ _ c.from_residual.result c.from_residual.ensures.1

pub returns-in_err-put_row-clause-kept : goal.returns-in_err-put_row-clause-kept
returns-in_err-put_row-clause-kept c = on_error _ _ c.from_residual.result c.from_residual.ensures.1
