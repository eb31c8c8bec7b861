use Rattle.rw_photo.specs.Storing.{purge_if_stored}
use Rattle.rw_photo.proofs.Happenings.{served_alone}
use Rattle.rw_photo.proofs.photo.Photo.clear.Goals as goal

pub returns : goal.returns
returns g c =
    let s = c.args.state.now in
    served_alone s c.purge.new.self c.args.object (purge_if_stored c.args.self.now.config.reclaim s.queue c.args.object) _ _ _ c.requires.well_formed.ascending c.requires.well_formed.sends
    c.in_ok-purge.ensures.state c.in_ok-purge.ensures.leads c.in_ok-purge.ensures.short
