use Rattle.std.proofs.Common.{◌∙◌, sym, true≢false}
use Rattle.rw_pending.specs.Wheel.{all_of}
use Rattle.rw_pending.proofs.ByTime.{empty_parts}
use Rattle.rw_pending.proofs.wheel.WheelStore.is_empty.Goals as goal

pub returns-else-is_empty : goal.returns-else-is_empty
returns-else-is_empty g c = (
  λ on. absurd (true≢false (sym on ∙ c.if-is_empty.false)),
  λ none. c.is_empty.ensures.1 (empty_parts (all_of c.self.inside.slots) c.self.inside.others (c.self.view_is ∙ none)).0,
)
