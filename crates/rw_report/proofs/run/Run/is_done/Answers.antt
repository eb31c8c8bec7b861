use Rattle.std.proofs.Common.{◌≡◌, ◌∙◌, [], List, ap, length, sym, subst}
use Rattle.std.specs.Prelude.{◌==◌}
use Rattle.rw_vt.specs.declared.event.Event.{Event}
use Rattle.rw_photo.specs.declared.body.Body.{Body}
use Rattle.rw_report.specs.Run.{RunState}
use Rattle.rw_report.proofs.Taking.{none_behind}
use Rattle.rw_report.proofs.run.Run.is_done.Goals as goal

pub returns-else-is_empty-clause-done : goal.returns-else-is_empty-clause-done
returns-else-is_empty-clause-done c = (λ on. cc, λ none. let gone = none_behind c.self.inside.pending.events c.self.inside.first.items (subst (λ (v : RunState). v.waiting ≡ []) (sym c.self.view_is) none) in c.is_empty.ensures ∙ ap (λ (l : List (Event Body)). length l == 0) (c.as_slice.ensures.value ∙ gone))
