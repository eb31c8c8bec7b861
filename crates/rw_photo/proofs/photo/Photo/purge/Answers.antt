use Rattle.std.proofs.Common.{rules, refl, ◌+◌, [], ◌∷◌}
use Rattle.rw_photo.specs.declared.body.Body.TheVariants.{Drop}
use Rattle.rw_photo.specs.Events.{event_from, origin_of}
use Rattle.rw_photo.specs.Storing.{purge_if_stored}
use Rattle.rw_photo.proofs.Happenings.{served}
use Rattle.rw_photo.proofs.photo.Photo.purge.Goals as goal

pub returns : goal.returns
returns g c =
    let s = c.args.state.now in
    let k = c.args.self.now.config in
    let p = c.args.process in
    let o = c.args.object in
    served s c.purge.new.self c.send.new.self o 1 (purge_if_stored k.reclaim s.queue o) (event_from p s (c.args.time + k.up) (origin_of k o) (Drop o p) ∷ []) _ _ _ _ c.requires.well_formed.ascending
    c.in_ok-purge.ensures.state c.in_ok-send.ensures.count refl (search rules) c.in_ok-purge.ensures.leads c.in_ok-purge.ensures.short
