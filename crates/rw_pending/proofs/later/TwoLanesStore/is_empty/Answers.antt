use Rattle.std.proofs.Common.{◌∙◌, ◌++◌, sym, true≢false}
use Rattle.rw_pending.proofs.ByTime.{empty_parts}
use Rattle.rw_pending.proofs.later.TwoLanesStore.is_empty.Goals as goal
use Rattle.rw_pending.proofs.later.TwoLanesStore.is_empty.Goals.{then-is_empty, else-is_empty}

pub returns-else-is_empty-2 : goal.returns-else-is_empty-2
returns-else-is_empty-2 g c =
    let lanes = c.self.inside in
    let others = g.R.Store.events lanes.others in
    let off = c.if-is_empty-2.false in (
      λ on. absurd (true≢false (sym on ∙ off)),
      λ none.
          let first = empty_parts lanes.first (lanes.second ++ others) (c.self.view_is ∙ none) in
          let second = empty_parts lanes.second others first.1 in
          elim c.if-is_empty.branch [
            | then-is_empty w ↦ absurd (true≢false (sym (w.is_empty-then-is_empty.ensures.1 second.0) ∙ sym w.value-is ∙ off))
            | else-is_empty w ↦ absurd (true≢false (sym (c.is_empty.ensures.1 first.0) ∙ w.if-is_empty.false))
          ],
    )
