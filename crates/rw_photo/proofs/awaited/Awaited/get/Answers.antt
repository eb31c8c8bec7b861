use Rattle.std.proofs.Common.{sym, ap, ◌∙◌, ℕ, List}
use Rattle.rw_blocks.proofs.ByObject.{find-by_object}
use Rattle.rw_photo.specs.Cache.{waiting_in}
use Rattle.rw_photo.proofs.awaited.Awaited.get.Goals as goal

pub returns : goal.returns
returns c =
    c.copied.ensures
    ∙ (c.get.ensures.value
    ∙ (sym (find-by_object c.self.inside.counts.entries c.args.object)
    ∙ ap (λ (es : List (ℕ × ℕ)). waiting_in es c.args.object) c.self.view_is))
