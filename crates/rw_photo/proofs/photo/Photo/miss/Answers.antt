use Rattle.std.proofs.Common.{rules, ◌≡◌, true, false, refl, sym, ap, ◌+◌, [], ◌∷◌}
use Rattle.std.specs.Prelude.{is_some}
use Rattle.rw_photo.specs.declared.body.Body.TheVariants.{Fill}
use Rattle.rw_photo.specs.Cache.{is_stored}
use Rattle.rw_photo.specs.Events.{backend_store, event_from}
use Rattle.rw_photo.specs.Storing.{hit}
use Rattle.rw_photo.proofs.Happenings.{served, stored_for_miss}
use Rattle.rw_photo.proofs.photo.Photo.miss.Goals as goal

pub returns-in-Some : goal.returns-in-Some
returns-in-Some g c =
    let s = c.args.state.now in
    let k = c.args.self.now.config in
    let there : is_stored s c.args.object ≡ true = ap is_some (sym c.in-Some.ensures) in
    rw there
    (served s c.hit.new.self c.send.new.self c.args.object 1 (hit k.policy s.queue c.args.object c.args.size) (event_from c.args.process s (c.args.time + k.down) c.args.edge (Fill c.args.object c.args.size) ∷ []) _ _ _ _ c.requires.well_formed.ascending
    (search rules) (search rules) refl (search rules) (search rules) (search rules))

pub returns : goal.returns
returns g c =
    let s = c.args.state.now in
    let k = c.args.self.now.config in
    let new : is_stored s c.args.object ≡ false = search rules in
    rw new
    (served s c.count_miss.new.self c.send-2.new.self c.args.object 1 (backend_store k s c.args.object c.args.size) (event_from c.args.process s (c.args.time + k.down + k.back) c.args.edge (Fill c.args.object c.args.size) ∷ []) _ _ _ _ c.requires.well_formed.ascending
    (stored_for_miss k s c.store.new.self c.count_miss.new.self c.args.object c.args.size (search rules) (search rules)) (search rules) refl (search rules) (search rules) (search rules))
