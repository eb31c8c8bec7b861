use Rattle.std.proofs.Common.{rules, ◌≡◌, true, false, sym, ap}
use Rattle.std.specs.Prelude.{is_some}
use Rattle.rw_photo.specs.Cache.{is_stored}
use Rattle.rw_photo.specs.Storing.{hit}
use Rattle.rw_photo.proofs.Happenings.{asked, served_alone}
use Rattle.rw_photo.proofs.photo.Photo.request.Goals as goal

pub returns-in-Some : goal.returns-in-Some
returns-in-Some g c =
    let s = c.args.state.now in
    let there : is_stored s c.args.object ≡ true = ap is_some (sym c.in-Some.ensures) in
    rw there
    (served_alone s c.hit.new.self c.args.object (hit c.args.self.now.config.policy s.queue c.args.object c.args.size) _ _ _ c.requires.well_formed.ascending c.requires.well_formed.sends
    (search rules) (search rules) (search rules))

pub returns : goal.returns
returns g c =
    let s = c.args.state.now in
    let new : is_stored s c.args.object ≡ false = search rules in
    asked c.args.self.now.config c.args.process s c.send.new.self c.args.time c.args.object c.args.size _ _ _ _ new (search rules) (search rules)
    (search rules) (search rules)
