use Rattle.std.proofs.Common.{rules}
use Rattle.rw_photo.proofs.Happenings.{filled}
use Rattle.rw_photo.proofs.photo.Photo.fill.Goals as goal

pub returns : goal.returns
returns g c =
    let s = c.args.state.now in
    filled c.args.self.now.config s c.store_lacking.new.self c.count_late.new.self c.args.object c.args.size c.answer-answered.result _ _ _ c.requires.well_formed.sends c.answer-answered.ensures.answered
    (search rules) (search rules) (search rules) (search rules)
