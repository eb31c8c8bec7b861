use Rattle.std.proofs.Common.{◌≡◌, ◌∙◌, sym, ap, subst}
use Rattle.std.specs.Prelude.{Some, IsSome, OnOk, unwrap_or}
use Rattle.std.proofs.lemmas.Result.{on_ok_weaker}
use Rattle.rw_blocks.specs.State.{row_at, row_or, no_place}
use Rattle.rw_blocks.specs.Loose.{IsLoose}
use Rattle.rw_blocks.specs.Primitives.{with_row}
use Rattle.rw_blocks.specs.Undo.{undo_of, Matches, IsUndoable}
use Rattle.rw_blocks.proofs.Undone.{was_before, loose_before}
use Rattle.rw_blocks.proofs.queue.Queue.undo.Goals as goal

pub take_row-requires-clause-resident : goal.take_row-requires-clause-resident
take_row-requires-clause-resident c = subst (λ m. Matches m c.args.self.now) c.in-Add.is c.requires.matches

pub put_row_again-requires-clause-none : goal.put_row_again-requires-clause-none
put_row_again-requires-clause-none c = subst (λ m. Matches m c.args.self.now) c.in-Remove.is c.requires.matches

pub put_row_again-requires-clause-before : goal.put_row_again-requires-clause-before
put_row_again-requires-clause-before c = subst (λ m. IsLoose (undo_of m c.args.self.now)) c.in-Remove.is c.requires.before

pub move_back-requires-clause-resident : goal.move_back-requires-clause-resident
move_back-requires-clause-resident c = subst (λ m. Matches m c.args.self.now) c.in-Rehome.is c.requires.matches

pub move_back-requires-clause-before : goal.move_back-requires-clause-before
move_back-requires-clause-before c = subst (λ m. IsLoose (undo_of m c.args.self.now)) c.in-Rehome.is c.requires.before

pub unwrap-home-requires : goal.unwrap-home-requires
unwrap-home-requires c = subst IsSome (sym c.row.ensures) (subst (λ m. Matches m c.args.self.now) c.in-Replace.is c.requires.matches)

pub move_back-requires-in-Replace-clause-resident : goal.move_back-requires-in-Replace-clause-resident
move_back-requires-in-Replace-clause-resident c = subst (λ m. Matches m c.args.self.now) c.in-Replace.is c.requires.matches

pub move_back-requires-in-Replace-clause-before : goal.move_back-requires-in-Replace-clause-before
move_back-requires-in-Replace-clause-before c =
    let row : row_at c.args.self.now c.in-Replace.object ≡ Some c.unwrap-home.result = sym c.row.ensures ∙ c.unwrap-home.ensures in
    let home : (row_or c.args.self.now c.in-Replace.object).home ≡ c.unwrap-home.result.home = ap (λ o. (unwrap_or o no_place).home) row in
    subst (λ h. IsLoose (with_row c.args.self.now c.in-Replace.object (record { size = (row_or c.args.self.now c.in-Replace.object).size; home = h; place = c.in-Replace.place }))) home
    (subst (λ m. IsLoose (undo_of m c.args.self.now)) c.in-Replace.is c.requires.before)

pub unseal-requires : goal.unseal-requires
unseal-requires c = subst (λ m. IsUndoable m c.args.self.now) c.in-Seal.is c.requires

pub put_back-requires : goal.put_back-requires
put_back-requires c = subst (λ m. IsUndoable m c.args.self.now) c.in-TakeOut.is c.requires

pub unsplit-requires : goal.unsplit-requires
unsplit-requires c = subst (λ m. IsUndoable m c.args.self.now) c.in-Split.is c.requires

pub unmerge-requires : goal.unmerge-requires
unmerge-requires c = subst (λ m. IsUndoable m c.args.self.now) c.in-Merge.is c.requires

pub returns-in-Add-clause-effect : goal.returns-in-Add-clause-effect
returns-in-Add-clause-effect c = c.take_row.ensures.rest ∙ ap (λ m. undo_of m c.args.self.now) (sym c.in-Add.is)

pub returns-in-Add-clause-restores : goal.returns-in-Add-clause-restores
returns-in-Add-clause-restores c = was_before c.args.mark c.args.self.now c.take_row.new.self (returns-in-Add-clause-effect c)

pub returns-in-Add-clause-kept : goal.returns-in-Add-clause-kept
returns-in-Add-clause-kept c = loose_before c.args.mark c.args.self.now c.take_row.new.self (returns-in-Add-clause-effect c) c.requires

pub returns-in-Remove-clause-effect : goal.returns-in-Remove-clause-effect
returns-in-Remove-clause-effect c =
    subst (λ m. OnOk c.put_row_again.result (c.put_row_again.new.self ≡ undo_of m c.args.self.now))
    (sym c.in-Remove.is) c.put_row_again.ensures

pub returns-in-Remove-clause-restores : goal.returns-in-Remove-clause-restores
returns-in-Remove-clause-restores c =
    on_ok_weaker c.put_row_again.result
    (was_before c.args.mark c.args.self.now c.put_row_again.new.self)
    (returns-in-Remove-clause-effect c)

pub returns-in-Remove-clause-kept : goal.returns-in-Remove-clause-kept
returns-in-Remove-clause-kept c =
    on_ok_weaker c.put_row_again.result
    (λ is. loose_before c.args.mark c.args.self.now c.put_row_again.new.self is c.requires)
    (returns-in-Remove-clause-effect c)

pub returns-in-Rehome-clause-effect : goal.returns-in-Rehome-clause-effect
returns-in-Rehome-clause-effect c =
    subst (λ m. OnOk c.move_back.result (c.move_back.new.self ≡ undo_of m c.args.self.now))
    (sym c.in-Rehome.is) c.move_back.ensures

pub returns-in-Rehome-clause-restores : goal.returns-in-Rehome-clause-restores
returns-in-Rehome-clause-restores c =
    on_ok_weaker c.move_back.result
    (was_before c.args.mark c.args.self.now c.move_back.new.self)
    (returns-in-Rehome-clause-effect c)

pub returns-in-Rehome-clause-kept : goal.returns-in-Rehome-clause-kept
returns-in-Rehome-clause-kept c =
    on_ok_weaker c.move_back.result
    (λ is. loose_before c.args.mark c.args.self.now c.move_back.new.self is c.requires)
    (returns-in-Rehome-clause-effect c)

pub returns-in-Replace-clause-effect : goal.returns-in-Replace-clause-effect
returns-in-Replace-clause-effect c =
    let row : row_at c.args.self.now c.in-Replace.object ≡ Some c.unwrap-home.result = sym c.row.ensures ∙ c.unwrap-home.ensures in
    let home : c.unwrap-home.result.home ≡ (row_or c.args.self.now c.in-Replace.object).home = ap (λ o. (unwrap_or o no_place).home) (sym row) in
    let old = row_or c.args.self.now c.in-Replace.object in
    subst (λ m. OnOk c.move_back-in-Replace.result (c.move_back-in-Replace.new.self ≡ undo_of m c.args.self.now))
    (sym c.in-Replace.is)
    (subst
    (λ h. OnOk c.move_back-in-Replace.result
    (c.move_back-in-Replace.new.self ≡ with_row c.args.self.now c.in-Replace.object (record { size = old.size; home = h; place = c.in-Replace.place })))
    home
    c.move_back-in-Replace.ensures)

pub returns-in-Replace-clause-restores : goal.returns-in-Replace-clause-restores
returns-in-Replace-clause-restores c =
    on_ok_weaker c.move_back-in-Replace.result
    (was_before c.args.mark c.args.self.now c.move_back-in-Replace.new.self)
    (returns-in-Replace-clause-effect c)

pub returns-in-Replace-clause-kept : goal.returns-in-Replace-clause-kept
returns-in-Replace-clause-kept c =
    on_ok_weaker c.move_back-in-Replace.result
    (λ is. loose_before c.args.mark c.args.self.now c.move_back-in-Replace.new.self is c.requires)
    (returns-in-Replace-clause-effect c)

pub returns-in-Seal-clause-effect : goal.returns-in-Seal-clause-effect
returns-in-Seal-clause-effect c = c.unseal.ensures ∙ ap (λ m. undo_of m c.args.self.now) (sym c.in-Seal.is)

pub returns-in-Seal-clause-restores : goal.returns-in-Seal-clause-restores
returns-in-Seal-clause-restores c = was_before c.args.mark c.args.self.now c.unseal.new.self (returns-in-Seal-clause-effect c)

pub returns-in-Seal-clause-kept : goal.returns-in-Seal-clause-kept
returns-in-Seal-clause-kept c = loose_before c.args.mark c.args.self.now c.unseal.new.self (returns-in-Seal-clause-effect c) c.requires

pub returns-in-TakeOut-clause-effect : goal.returns-in-TakeOut-clause-effect
returns-in-TakeOut-clause-effect c =
    subst (λ m. OnOk c.put_back.result (c.put_back.new.self ≡ undo_of m c.args.self.now))
    (sym c.in-TakeOut.is) c.put_back.ensures

pub returns-in-TakeOut-clause-restores : goal.returns-in-TakeOut-clause-restores
returns-in-TakeOut-clause-restores c =
    on_ok_weaker c.put_back.result
    (was_before c.args.mark c.args.self.now c.put_back.new.self)
    (returns-in-TakeOut-clause-effect c)

pub returns-in-TakeOut-clause-kept : goal.returns-in-TakeOut-clause-kept
returns-in-TakeOut-clause-kept c =
    on_ok_weaker c.put_back.result
    (λ is. loose_before c.args.mark c.args.self.now c.put_back.new.self is c.requires)
    (returns-in-TakeOut-clause-effect c)

pub returns-in-Split-clause-effect : goal.returns-in-Split-clause-effect
returns-in-Split-clause-effect c =
    subst (λ m. OnOk c.unsplit.result (c.unsplit.new.self ≡ undo_of m c.args.self.now))
    (sym c.in-Split.is) c.unsplit.ensures

pub returns-in-Split-clause-restores : goal.returns-in-Split-clause-restores
returns-in-Split-clause-restores c =
    on_ok_weaker c.unsplit.result
    (was_before c.args.mark c.args.self.now c.unsplit.new.self)
    (returns-in-Split-clause-effect c)

pub returns-in-Split-clause-kept : goal.returns-in-Split-clause-kept
returns-in-Split-clause-kept c =
    on_ok_weaker c.unsplit.result
    (λ is. loose_before c.args.mark c.args.self.now c.unsplit.new.self is c.requires)
    (returns-in-Split-clause-effect c)

pub returns-in-Merge-clause-effect : goal.returns-in-Merge-clause-effect
returns-in-Merge-clause-effect c =
    subst (λ m. OnOk c.unmerge.result (c.unmerge.new.self ≡ undo_of m c.args.self.now))
    (sym c.in-Merge.is) c.unmerge.ensures

pub returns-in-Merge-clause-restores : goal.returns-in-Merge-clause-restores
returns-in-Merge-clause-restores c =
    on_ok_weaker c.unmerge.result
    (was_before c.args.mark c.args.self.now c.unmerge.new.self)
    (returns-in-Merge-clause-effect c)

pub returns-in-Merge-clause-kept : goal.returns-in-Merge-clause-kept
returns-in-Merge-clause-kept c =
    on_ok_weaker c.unmerge.result
    (λ is. loose_before c.args.mark c.args.self.now c.unmerge.new.self is c.requires)
    (returns-in-Merge-clause-effect c)
